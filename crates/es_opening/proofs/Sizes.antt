-- A code in a list is smaller than the list.
use Rattle.std.proofs.Common.{ℕ, zero, suc, ◌<◌, List, [], ◌∷◌, length, get_or, arith}
use Rattle.es_codes.specs.CodeView.{code_of, codes_of}
use Rattle.es_codes.specs.declared.code.Code.{Code}
use Rattle.es_opening.specs.Size.{size, sizes}

pub item_below : (cs : List Code) (i : ℕ) (d : Code) → i < length cs → size (code_of (get_or cs i d)) < sizes (codes_of cs)
item_below [] i d h = absurd (omega (arith, h))
item_below (c ∷ cs) zero d h = omega arith
item_below (c ∷ cs) (suc i) d h = omega (arith, item_below cs i d (omega (arith, h)))
