-- The least of numbers that are met one at a time.
use Rattle.std.specs.Prelude.{ℕ, List, [], ◌∷◌, cond, nat_le, Option, Some, None, option_map}
use Rattle.es_base.specs.declared.ids.NodeId.{NodeId}

-- the number of a node, if there is one
abbrev pub number_in : Option NodeId → Option ℕ
number_in = option_map (λ n. n.0)

abbrev pub lower : Option ℕ → ℕ → Option ℕ
lower None k = Some k
lower (Some n) k = Some (cond (nat_le n k) n k)

-- the least of these and the one that was the least before
abbrev pub least_with : Option ℕ → List ℕ → Option ℕ
least_with n [] = n
least_with n (k ∷ ks) = least_with (lower n k) ks
