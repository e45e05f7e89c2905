use Rattle.std.proofs.Common.{◌≡◌, ◌+◌, ◌-◌, ◌≤◌, length, take, vec_len, vec_capacity}
use Rattle.compact_edit.specs.Runs.{RunsTo}
use Rattle.compact_edit.proofs.runs.run.Given as goal

-- the edits so far have run, each has its reply, and there is room for the replies of the others
abbrev pub invariant-loop-edit : goal.invariant-loop-edit
invariant-loop-edit g l = record {
  count : vec_len l.replies ≡ vec_len l.fn.replies + l.edit-index;
  room : vec_len l.replies + (length l.edits - l.edit-index) ≤ vec_capacity l.replies;
  capacity : vec_capacity l.fn.replies ≤ vec_capacity l.replies;
  run : RunsTo g.P.Policy.growth l.fn.value (take l.edit-index l.edits) l.fn.replies.items l.replies.items l.value;
}
