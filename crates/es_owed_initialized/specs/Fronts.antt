-- The fronts of classes; ps are the nodes of a source, and qs those of what it was lowered to.
use Rattle.std.specs.Prelude.{◌≡◌, ℕ, List, [], ◌∷◌, map, Option, Some, None}
use Rattle.es_base.specs.Tree.{Tree}
use Rattle.es_grouped.specs.Groups.{group, having}
use Rattle.es_grouped.specs.declared.Grouped.{Grouped}
use Rattle.es_lowered.specs.Lowered.{with_inner}
use Rattle.es_owed_initialized.specs.Order.{first_of_all}

-- the first of the places of a class and of those in it
abbrev pub front : List Tree → List Tree → ℕ → Option ℕ
front ps qs n = first_of_all None (with_inner ps (n ∷ [])) qs

abbrev pub with_fronts : List Tree → List Tree → List ℕ → List (ℕ × Option ℕ)
with_fronts ps qs ns = map (λ n. (n, front ps qs n)) ns

-- these are the fronts of these classes
abbrev pub HasFronts : List Tree → List Tree → List ℕ → Grouped (Option ℕ) → Type 0
HasFronts ps qs ns g = (n : ℕ) → group n g ≡ having n (with_fronts ps qs ns)

abbrev pub first_of : List (Option ℕ) → Option (Option ℕ)
first_of [] = None
first_of (i ∷ is) = Some i
