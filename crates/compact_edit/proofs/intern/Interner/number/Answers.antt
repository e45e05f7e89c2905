use Rattle.std.proofs.Common.{sym, ◌∙◌}
use Rattle.compact_edit.proofs.NameLemmas.{list_any-bytes_eq}
use Rattle.compact_edit.proofs.intern.Interner.number.Goals as goal

pub returns-in-None-clause-unknown : goal.returns-in-None-clause-unknown
returns-in-None-clause-unknown c =
    rw (sym c.self.view_is) (sym (list_any-bytes_eq _ c.self.inside.names.keys c.utf8.text)
    ∙ sym c.in-None.ensures.found)
