-- A turn of each loop over tokens.
use Rattle.std.proofs.Common.{◌≡◌, refl, ap, ◌∙◌, ℕ, zero, suc, ◌-◌, ◌<◌, ◌≤◌, List, [], ◌∷◌, ◌++◌, length, Some, None, option_and_then, arith}
use Rattle.json.specs.Token.{Token}
use Rattle.json.specs.Json.{Parse, after_end_array, read_key}
use Rattle.json.proofs.Grammar.{after_end_array-shorter, read_key-shorter}
use Rattle.serde_json.specs.Data.{Data, array, object, Members, no_members, put}
use Rattle.serde_json.specs.View.{items_of}
use Rattle.borrowed_json.specs.Grammar.{list_step, list_from, object_step, object_from, value_by, value_in, list_in, object_in}

module _ (q : Parse Data) where
  pub list_ends : (n : ℕ) (done : List Data) (ts r : List Token) → length ts ≤ n → after_end_array ts ≡ Some r → list_from q n done ts ≡ Some (array (items_of done), r)
  unfolding list_from
  list_ends zero done ts r enough e = let never : ⊥ = omega (arith, after_end_array-shorter ts r e) in absurd never
  list_ends (suc n) done ts r enough e = ap (list_step q (list_from q n) done ts) e

  pub list_goes_on : (n : ℕ) (done : List Data) (ts r : List Token) (d : Data) → 0 < n → after_end_array ts ≡ None → q ts ≡ Some (d, r) → list_from q n done ts ≡ list_from q (n - 1) (done ++ d ∷ []) r
  unfolding list_from
  list_goes_on zero done ts r d some e f = let never : ⊥ = omega arith in absurd never
  list_goes_on (suc n) done ts r d some e f =
      let less : n ≡ suc n - 1 = omega arith in
      ap (list_step q (list_from q n) done ts) e
      ∙ ap (option_and_then (λ p. list_from q n (done ++ p.0 ∷ []) p.1)) f
      ∙ ap (λ m. list_from q m (done ++ d ∷ []) r) less

  pub list_fails : (n : ℕ) (done : List Data) (ts : List Token) → after_end_array ts ≡ None → q ts ≡ None → list_from q n done ts ≡ None
  unfolding list_from
  list_fails zero done ts e f = refl
  list_fails (suc n) done ts e f = ap (list_step q (list_from q n) done ts) e ∙ ap (option_and_then (λ p. list_from q n (done ++ p.0 ∷ []) p.1)) f

  pub object_ends : (n : ℕ) (done : Members) (ts r : List Token) → length ts ≤ n → read_key ts ≡ Some (None, r) → object_from q n done ts ≡ Some (object done, r)
  unfolding object_from
  object_ends zero done ts r enough e = let never : ⊥ = omega (arith, read_key-shorter ts None r e) in absurd never
  object_ends (suc n) done ts r enough e = ap (option_and_then (λ p. object_step q (object_from q n) done p.0 p.1)) e

  pub object_goes_on : (n : ℕ) (done : Members) (k : List ℕ) (ts s r : List Token) (d : Data) → 0 < n → read_key ts ≡ Some (Some k, s) → q s ≡ Some (d, r) → object_from q n done ts ≡ object_from q (n - 1) (put k d done) r
  unfolding object_from
  object_goes_on zero done k ts s r d some e f = let never : ⊥ = omega arith in absurd never
  object_goes_on (suc n) done k ts s r d some e f =
      let less : n ≡ suc n - 1 = omega arith in
      ap (option_and_then (λ p. object_step q (object_from q n) done p.0 p.1)) e
      ∙ ap (option_and_then (λ p. object_from q n (put k p.0 done) p.1)) f
      ∙ ap (λ m. object_from q m (put k d done) r) less

  pub object_fails : (n : ℕ) (done : Members) (k : List ℕ) (ts s : List Token) → read_key ts ≡ Some (Some k, s) → q s ≡ None → object_from q n done ts ≡ None
  unfolding object_from
  object_fails zero done k ts s e f = refl
  object_fails (suc n) done k ts s e f = ap (option_and_then (λ p. object_step q (object_from q n) done p.0 p.1)) e ∙ ap (option_and_then (λ p. object_from q n (put k p.0 done) p.1)) f

  pub object_has_no_key : (n : ℕ) (done : Members) (ts : List Token) → read_key ts ≡ None → object_from q n done ts ≡ None
  unfolding object_from
  object_has_no_key zero done ts e = refl
  object_has_no_key (suc n) done ts e = ap (option_and_then (λ p. object_step q (object_from q n) done p.0 p.1)) e

-- a value, by its first token
pub value_is : (depth : ℕ) (ts : List Token) → value_in depth ts ≡ value_by (list_in depth) (object_in depth) ts
unfolding value_in
value_is zero ts = refl
value_is (suc depth) ts = refl

pub list_is : (depth : ℕ) (ts : List Token) → 0 < depth → list_in depth ts ≡ list_from (value_in (depth - 1)) (length ts) [] ts
list_is zero ts some = let never : ⊥ = omega arith in absurd never
list_is (suc depth) ts some = let less : depth ≡ suc depth - 1 = omega arith in ap (λ k. list_from (value_in k) (length ts) [] ts) less

pub object_is : (depth : ℕ) (ts : List Token) → 0 < depth → object_in depth ts ≡ object_from (value_in (depth - 1)) (length ts) no_members ts
object_is zero ts some = let never : ⊥ = omega arith in absurd never
object_is (suc depth) ts some = let less : depth ≡ suc depth - 1 = omega arith in ap (λ k. object_from (value_in k) (length ts) no_members ts) less

pub value_at : (depth : ℕ) (ts r : List Token) (t : Token) → ts ≡ t ∷ r → value_in depth ts ≡ value_by (list_in depth) (object_in depth) (t ∷ r)
value_at depth ts r t is = value_is depth ts ∙ ap (value_by (list_in depth) (object_in depth)) is
