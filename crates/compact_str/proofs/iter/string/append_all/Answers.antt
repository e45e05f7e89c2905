use Rattle.std.proofs.lemmas.Str.{IsUtf8-string_bytes}
use Rattle.std.specs.Prelude.{string_bytes}
use Rattle.std.specs.String.{string_capacity}
use Rattle.compact_text.proofs.Texts.{size-text_of}
use Rattle.compact_str.specs.Collect.{string_text}
use Rattle.compact_str.proofs.CollectLemmas.{strings-ran, strings-succeed}
use Rattle.compact_str.proofs.iter.string.append_all.Goals as goal

pub returns-clause-text : goal.returns-clause-text
returns-clause-text g c =
    strings-ran g.U.IntoIterator.into_iter_gives g.U.IntoIter.Iterator.next_gives g.T.AsText.text _
    (string_capacity c.append_texts.new.line)
    (string_text c.args.line.now) _ c.append_texts.result c.append_texts.ensures.ok

pub returns-clause-succeeds : goal.returns-clause-succeeds
returns-clause-succeeds g c =
    let line = c.args.line.now in
    let longer = c.append_texts.new.line in
    strings-succeed g.U.IntoIterator.into_iter_gives g.U.IntoIter.Iterator.next_gives g.T.AsText.text c.args.items
    (string_capacity longer) (string_text line)
    (string_text longer) (string_capacity line) _ c.append_texts.result
    (size-text_of (string_bytes line) (IsUtf8-string_bytes line))
    c.append_texts.ensures.capacity c.append_texts.ensures.err
