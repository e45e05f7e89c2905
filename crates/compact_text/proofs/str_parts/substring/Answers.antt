use Rattle.std.proofs.Common.{subst, sym, ◌-◌, List, ℕ}
use Rattle.compact_text.specs.Cut.{IsBoundary}
use Rattle.compact_text.specs.Text.{text_of}
use Rattle.compact_text.proofs.SubstringLemmas.{boundary-substring}
use Rattle.compact_text.proofs.str_parts.substring.Goals as goal

pub prefix-requires : goal.prefix-requires
prefix-requires c =
    subst (λ (t : List ℕ). IsBoundary t (c.args.end - c.args.start)) (sym c.suffix.ensures)
    (boundary-substring (text_of c.args.text.now) c.args.start c.args.end c.requires.first c.requires.last
    c.requires.order)
