-- How many items a list has.
use Rattle.std.proofs.Common.{◌≡◌, refl, sym, ap, ◌∙◌, ℕ, ◌+◌, ◌-◌, ◌^◌, ◌<◌, min, nat_eq, List, [], ◌∷◌, length, Bool, not, Option, Some, option_and_then, arith}
use Rattle.std.specs.Prelude.{◌&&◌, is_some}
use Rattle.serde_json.specs.Data.{Items}
use Rattle.borrowed_json.specs.View.{items_view}
use Rattle.borrowed_json.specs.declared.value.Value.{Value}
use Rattle.es_reading.specs.Members.{item_count, is_empty}

pub count_of_view : (vs : List Value) → item_count (items_view vs) ≡ length vs
count_of_view [] = refl
count_of_view (v ∷ vs) = let n : item_count (items_view vs) ≡ length vs = count_of_view vs in omega (arith, n)

pub counted : (vs : List Value) (n : ℕ) (o : Option Items) → Some (items_view vs) ≡ o → n ≡ length vs → Some n ≡ option_and_then (λ ds. Some (item_count ds)) o
counted vs n o is e = ap Some (e ∙ sym (count_of_view vs)) ∙ ap (option_and_then (λ ds. Some (item_count ds))) is

empty_view : (vs : List Value) → nat_eq (length vs) 0 ≡ is_empty (Some (items_view vs))
empty_view [] = refl
empty_view (v ∷ vs) = grind arith

pub full : (vs : List Value) (e : Bool) (o : Option Items) → Some (items_view vs) ≡ o → e ≡ nat_eq (length vs) 0 → not e ≡ (is_some o && not (is_empty o))
full vs e o is h = ap not (h ∙ empty_view vs) ∙ ap (λ (z : Option Items). is_some z && not (is_empty z)) is

-- a count that stands still at the greatest u32, where nothing is left
pub all_counted : (count rest all : ℕ) → rest ≡ 0 → count < 2 ^ 32 → min (count + rest) (2 ^ 32 - 1) ≡ min all (2 ^ 32 - 1) → count ≡ min all (2 ^ 32 - 1)
all_counted count rest all none small same = grind arith
