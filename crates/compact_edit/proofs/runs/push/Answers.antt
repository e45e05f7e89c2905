use Rattle.compact_edit.proofs.RunLemmas.{push-step}
use Rattle.compact_edit.proofs.runs.push.Goals as goal

pub returns : goal.returns
returns g c =
    push-step g.P.Policy.growth c.args.value.now c.push.new.self c.args.character c.push.result c.done_reply.result
    c.push.ensures.text c.push.ensures.place c.push.ensures.allocates c.push.ensures.err c.done_reply.ensures
