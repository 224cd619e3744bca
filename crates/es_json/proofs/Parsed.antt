-- A value that was parsed took at least one token for each value in it.
use Rattle.std.proofs.Common.{◌≡◌, ℕ, zero, suc, ◌+◌, ◌≤◌, List, [], ◌∷◌, length, Option, Some, None, option_and_then, refl, subst, arith}
use Rattle.std.specs.Prelude.{⊤}
use Rattle.json.specs.Token.{Token}
use Rattle.json.specs.Json.{Json, null, boolean, number, string, array, object, Items, no_items, item, Members, no_members, member, Parse, parse_map, after_end_array, read_key, items_step, members_step, items, members, value_with, value}
use Rattle.json.proofs.Grammar.{after_end_array-shorter, read_key-shorter}

-- how many values a JSON has, itself and those below, with its members as they stand
abbrev mutual
  pub json_values : Json → ℕ
  json_values null = 1
  json_values (boolean b) = 1
  json_values (number s) = 1
  json_values (string s) = 1
  json_values (array js) = 1 + items_values js
  json_values (object ms) = 1 + members_values ms

  pub items_values : Items → ℕ
  items_values no_items = 0
  items_values (item j js) = json_values j + items_values js

  pub members_values : Members → ℕ
  members_values no_members = 0
  members_values (member k j ms) = json_values j + members_values ms

-- the values and the tokens that are left are at most n
abbrev Fits : {A : Type 0} → (A → ℕ) → ℕ → Option (A × List Token) → Type 0
Fits f n None = ⊤
Fits f n (Some p) = f p.0 + length p.1 ≤ n

abbrev AllFit : {A : Type 0} → (A → ℕ) → Parse A → Type 0
AllFit f p = (ts : List Token) → Fits f (length ts) (p ts)

mapped : {A B : Type 0} (f : A → ℕ) (g : B → ℕ) (m n c : ℕ) (h : A → B) → ((a : A) → g (h a) ≡ c + f a) → c + m ≤ n → (o : Option (A × List Token)) → Fits f m o → Fits g n (parse_map h o)
mapped f g m n c h is le None x = tt
mapped f g m n c h is le (Some p) x = omega (arith, is p.0)

and_more : {B : Type 0} (g : B → ℕ) (n : ℕ) (h : Json → B → B) → ((j : Json) (b : B) → g (h j b) ≡ json_values j + g b) → (more : Parse B) → AllFit g more
    → (o : Option (Json × List Token)) → Fits json_values n o → Fits g n (option_and_then (λ q. parse_map (h q.0) (more q.1)) o)
and_more g n h is more again None x = tt
and_more g n h is more again (Some q) x = mapped g g (length q.1) n (json_values q.0) (h q.0) (is q.0) x (more q.1) (again q.1)

module _ (p : Parse Json) (fit : AllFit json_values p) where
  item_turn : (more : Parse Items) → AllFit items_values more → (ts : List Token) (o : Option (List Token)) → after_end_array ts ≡ o → Fits items_values (length ts) (items_step p more ts o)
  item_turn more again ts (Some r) e = omega (arith, after_end_array-shorter ts r e)
  item_turn more again ts None e = and_more items_values (length ts) item (λ j b. refl) more again (p ts) (fit ts)

  items_fit : (n : ℕ) → AllFit items_values (items p n)
  unfolding items
  items_fit zero ts = tt
  items_fit (suc n) ts = item_turn (items p n) (items_fit n) ts (after_end_array ts) refl

  wider : (m n : ℕ) → m ≤ n → (o : Option (Members × List Token)) → Fits members_values m o → Fits members_values n o
  wider m n le None x = tt
  wider m n le (Some q) x = omega arith

  member_turn : (more : Parse Members) → AllFit members_values more → (ts : List Token) (o : Option (Option (List ℕ) × List Token)) → read_key ts ≡ o
      → Fits members_values (length ts) (option_and_then (λ q. members_step p more q.0 q.1) o)
  member_turn more again ts None e = tt
  member_turn more again ts (Some (None, s)) e = omega (arith, read_key-shorter ts None s e)
  member_turn more again ts (Some (Some k, s)) e =
      wider (length s) (length ts) (omega (arith, read_key-shorter ts (Some k) s e)) _ (and_more members_values (length s) (member k) (λ j b. refl) more again (p s) (fit s))

  members_fit : (n : ℕ) → AllFit members_values (members p n)
  unfolding members
  members_fit zero ts = tt
  members_fit (suc n) ts = member_turn (members p n) (members_fit n) ts (read_key ts) refl

one_level : (a : Parse Items) (o : Parse Members) → AllFit items_values a → AllFit members_values o → AllFit json_values (value_with a o)
one_level a o x y [] = tt
one_level a o x y (Token.begin_object ∷ ts) = mapped members_values json_values (length ts) (suc (length ts)) 1 object (λ ms. refl) (omega arith) (o ts) (y ts)
one_level a o x y (Token.end_object ∷ ts) = tt
one_level a o x y (Token.begin_array ∷ ts) = mapped items_values json_values (length ts) (suc (length ts)) 1 array (λ js. refl) (omega arith) (a ts) (x ts)
one_level a o x y (Token.end_array ∷ ts) = tt
one_level a o x y (Token.key s ∷ ts) = tt
one_level a o x y (Token.string s ∷ ts) = omega arith
one_level a o x y (Token.number s ∷ ts) = omega arith
one_level a o x y (Token.boolean b ∷ ts) = omega arith
one_level a o x y (Token.null ∷ ts) = omega arith
one_level a o x y (Token.bad ∷ ts) = tt

all_fit : (depth : ℕ) → AllFit json_values (value depth)
unfolding value
all_fit zero = one_level (λ ts. None) (λ ts. None) (λ ts. tt) (λ ts. tt)
all_fit (suc d) =
    one_level (λ ts. items (value d) (length ts) ts) (λ ts. members (value d) (length ts) ts)
    (λ ts. items_fit (value d) (all_fit d) (length ts) ts) (λ ts. members_fit (value d) (all_fit d) (length ts) ts)

pub values-parsed : (depth : ℕ) (ts r : List Token) (j : Json) → value depth ts ≡ Some (j, r) → json_values j + length r ≤ length ts
values-parsed depth ts r j e = subst (Fits json_values (length ts)) e (all_fit depth ts)
