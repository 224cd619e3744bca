-- The part at a place.
use Rattle.std.proofs.Common.{◌≡◌, refl, ℕ, zero, suc, ◌<◌, ◌≤◌, List, [], ◌∷◌, length, get_or, arith}
use Rattle.es_base.specs.Tree.{absent}
use Rattle.es_node.specs.View.{part_of, parts_of}
use Rattle.es_node.specs.declared.node.Part as code
use Rattle.es_steps.specs.Parts.{at}

pub at_there : (ps : List code.Part) (i : ℕ) (d : code.Part) → i < length ps → at i (parts_of ps) ≡ part_of (get_or ps i d)
at_there [] i d h = absurd (omega arith)
at_there (p ∷ ps) zero d h = refl
at_there (p ∷ ps) (suc i) d h = let e : i < length ps = omega arith in at_there ps i d e

pub at_absent : (ps : List code.Part) (i : ℕ) → length ps ≤ i → at i (parts_of ps) ≡ absent
at_absent [] i h = refl
at_absent (p ∷ ps) zero h = absurd (omega arith)
at_absent (p ∷ ps) (suc i) h = let e : length ps ≤ i = omega arith in at_absent ps i e
