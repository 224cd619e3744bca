-- Lists that are no pair of programs.
use Rattle.std.proofs.Common.{◌≡◌, refl, List, [], ◌∷◌, length, None}
use Rattle.borrowed_json.specs.View.{items_view}
use Rattle.borrowed_json.specs.declared.value.Value.{Value}
use Rattle.check_run.specs.Pair.{pair_of_items}

pub pair_of_items-other : (xs : List Value) → (length xs ≡ 2 → ⊥) → pair_of_items (items_view xs) ≡ None
pair_of_items-other [] other = refl
pair_of_items-other (x ∷ []) other = refl
pair_of_items-other (x ∷ (y ∷ [])) other = absurd (other refl)
pair_of_items-other (x ∷ (y ∷ (z ∷ xs))) other = refl
