-- Whether numbers are in turn, and each stands once.
use Rattle.std.specs.Prelude.{ℕ, ◌+◌, List, [], ◌∷◌, Bool, true, false, cond, not, ◌&&◌, nat_eq, Option, Some, None}
use Rattle.es_base.specs.Numbered.{is_new}
use Rattle.es_base.specs.Preorder.{number_of}
use Rattle.es_base.specs.Tree.{Tree}
use Rattle.es_steps.specs.References.{has_number}
use Rattle.es_owed.specs.Listed.{numbered}

-- the new number that is next behind this one, if that is in turn
abbrev pub next_of : ℕ → ℕ → ℕ → Option ℕ
next_of first next k = cond (is_new first k) (cond (nat_eq k next) (Some (k + 1)) None) (Some next)

abbrev pub consecutive_from : ℕ → Option ℕ → List ℕ → Bool
consecutive_from first None ks = false
consecutive_from first (Some next) [] = true
consecutive_from first (Some next) (k ∷ ks) = consecutive_from first (next_of first next k) ks

abbrev pub are_distinct : List ℕ → Bool
are_distinct [] = true
are_distinct (k ∷ ks) = not (has_number k ks) && are_distinct ks

-- whether there are two of these at least
abbrev pub are_several : List Tree → Bool
are_several [] = false
are_several (t ∷ []) = false
are_several (t ∷ u ∷ ts) = true

-- whether of the number of each of these there is one among those at most
abbrev pub are_single : List Tree → List Tree → Bool
are_single [] us = true
are_single (t ∷ ts) us = not (are_several (numbered (number_of t) us)) && are_single ts us
