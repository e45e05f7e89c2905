use Rattle.std.proofs.Common.{sym, ◌∙◌}
use Rattle.compact_edit.proofs.NameLemmas.{list_any-bytes_eq, known-text}
use Rattle.compact_edit.proofs.intern.Interner.intern.Goals as goal

pub returns-in-Some-clause-names : goal.returns-in-Some-clause-names
returns-in-Some-clause-names c =
    rw (sym c.self.view_is) (known-text c.self.inside.names.keys _ c.self.invariant.0
    (sym (list_any-bytes_eq _ c.self.inside.names.keys c.utf8.text) ∙ sym c.in-Some.ensures.found))

pub add-requires : goal.add-requires
add-requires c = record {
  new = rw (sym c.self.view_is) (sym (list_any-bytes_eq _ c.self.inside.names.keys c.utf8.text)
      ∙ sym c.in_default.ensures.found);
}
