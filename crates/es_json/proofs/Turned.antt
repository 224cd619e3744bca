-- A tree that has its numbers in preorder is numbered.
use Rattle.std.proofs.Common.{◌≡◌, sym, ◌∙◌, subst}
use Rattle.es_base.proofs.NumberedLemmas.{IsNumbered-renumbered, EachOnce-old_zero}
use Rattle.es_base.proofs.PreorderLemmas.{renumbered-zero}
use Rattle.es_base.specs.Numbered.{IsNumbered}
use Rattle.es_base.specs.Preorder.{numbered_from}
use Rattle.es_base.specs.Tree.{Tree}

pub turned : (t : Tree) → t ≡ numbered_from 0 t → IsNumbered 0 t
turned t is = subst (IsNumbered 0) (renumbered-zero 0 t ∙ sym is) (IsNumbered-renumbered 0 t (EachOnce-old_zero t))
