-- Values with numbers, as definitions see them.
use Rattle.std.specs.Prelude.{ℕ, List, map}
use Rattle.es_by_number.specs.declared.numbered.Numbered.{Numbered}

abbrev pub pairs : {T : Type 0} → List (Numbered T) → List (ℕ × T)
pairs xs = map (λ x. (x.number, x.value)) xs

-- the same, with values as definitions see these
abbrev pub numbered : {T A : Type 0} → (T → A) → List (Numbered T) → List (ℕ × A)
numbered view xs = map (λ x. (x.number, view x.value)) xs
