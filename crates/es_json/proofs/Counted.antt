-- A value that was read from a text has no more values in it than the text has bytes.
use Rattle.std.proofs.Common.{◌≡◌, ℕ, ◌+◌, ◌≤◌, List, [], ◌∷◌, length, Option, Some, None, option_map, option_and_then, Ordering, Less, Equal, Greater, refl, subst, arith}
use Rattle.std.specs.Prelude.{⊤}
use Rattle.std.specs.Ordering.{match_ordering}
use Rattle.json.specs.Token.{Token}
use Rattle.json.specs.Lex.{tokens}
use Rattle.json.specs.Json as json
use Rattle.serde_json.specs.Data.{Num, Data, number, array, object, item, Members, no_members, member, put}
use Rattle.serde_json.specs.Read.{number_of, of_json, of_items, of_members, max_depth, read}
use Rattle.serde_json.specs.Read.{read as read_text}
use Rattle.es_reading.specs.Told.{values, values_of_items, values_of_members}
use Rattle.es_json.proofs.Parsed.{json_values, items_values, members_values, values-parsed}
use Rattle.es_json.proofs.Tokens.{tokens_fit}

abbrev AtMost : {A : Type 0} → (A → ℕ) → ℕ → Option A → Type 0
AtMost f n None = ⊤
AtMost f n (Some a) = f a ≤ n

mapped : {A B : Type 0} (f : A → ℕ) (g : B → ℕ) (m n : ℕ) (h : A → B) → ((a : A) → f a ≤ m → g (h a) ≤ n) → (o : Option A) → AtMost f m o → AtMost g n (option_map h o)
mapped f g m n h k None x = tt
mapped f g m n h k (Some a) x = k a x

then : {A B : Type 0} (f : A → ℕ) (g : B → ℕ) (m n : ℕ) (h : A → Option B) → ((a : A) → f a ≤ m → AtMost g n (h a)) → (o : Option A) → AtMost f m o → AtMost g n (option_and_then h o)
then f g m n h k None x = tt
then f g m n h k (Some a) x = k a x

one_number : (n : ℕ) → 1 ≤ n → (o : Option Num) → AtMost values n (option_map number o)
one_number n h None = tt
one_number n h (Some a) = h

-- ---- a member adds no more than its value

chosen : (o : Ordering) (a b c : Members) (n : ℕ) → values_of_members a ≤ n → values_of_members b ≤ n → values_of_members c ≤ n → values_of_members (match_ordering o a b c) ≤ n
chosen Less a b c n p q r = p
chosen Equal a b c n p q r = q
chosen Greater a b c n p q r = r

pub values-put : (k : List ℕ) (d : Data) (ms : Members) → values_of_members (put k d ms) ≤ values d + values_of_members ms
values-put k d no_members = omega arith
values-put k d (member l e ms) = chosen _ (member k d (member l e ms)) (member l d ms) (member l e (put k d ms)) _ (omega arith) (omega arith) (omega (arith, values-put k d ms))

-- ---- the data has no more values than the JSON

mutual
  of_json_fits : (j : json.Json) → AtMost values (json_values j) (of_json j)
  of_json_fits json.null = omega arith
  of_json_fits (json.boolean b) = omega arith
  of_json_fits (json.number s) = one_number 1 (omega arith) (number_of s)
  of_json_fits (json.string s) = omega arith
  of_json_fits (json.array js) = mapped values_of_items values (items_values js) (1 + items_values js) array (λ a x. omega arith) (of_items js) (of_items_fits js)
  of_json_fits (json.object ms) = mapped values_of_members values (members_values ms) (1 + members_values ms) object (λ a x. omega arith) (of_members ms no_members) (of_members_fits ms no_members (members_values ms) (omega arith))

  of_items_fits : (js : json.Items) → AtMost values_of_items (items_values js) (of_items js)
  of_items_fits json.no_items = omega arith
  of_items_fits (json.item j js) =
      then values values_of_items (json_values j) (json_values j + items_values js) _
      (λ d x. mapped values_of_items values_of_items (items_values js) (json_values j + items_values js) (item d) (λ ds y. omega arith) (of_items js) (of_items_fits js)) (of_json j) (of_json_fits j)

  of_members_fits : (ms : json.Members) (found : Members) (n : ℕ) → members_values ms + values_of_members found ≤ n → AtMost values_of_members n (of_members ms found)
  of_members_fits json.no_members found n h = omega arith
  of_members_fits (json.member k j ms) found n h =
      then values values_of_members (json_values j) n _ (λ d x. of_members_fits ms (put k d found) n (omega (arith, values-put k d found))) (of_json j) (of_json_fits j)

-- ---- the whole text

last_fits : (o : Option (json.Json × List Token)) (n : ℕ) → ((j : json.Json) (r : List Token) → o ≡ Some (j, r) → json_values j ≤ n) → AtMost json_values n (option_and_then (λ p. json.if_last p.0 p.1) o)
last_fits None n h = tt
last_fits (Some (j, [])) n h = h j [] refl
last_fits (Some (j, t ∷ r)) n h = tt

data_fits : (j : json.Json) (n : ℕ) → json_values j ≤ n → AtMost values n (of_json j)
data_fits j n h = wider (of_json j) (of_json_fits j)
  where
    wider : (o : Option Data) → AtMost values (json_values j) o → AtMost values n o
    wider None x = tt
    wider (Some d) x = omega arith

pub values-read : (b : List ℕ) (d : Data) → read b ≡ Some d → values d ≤ length b
values-read b d e =
    let parsed = last_fits (json.value max_depth (tokens b)) (length b) (λ j r same. omega (arith, values-parsed max_depth (tokens b) r j same, tokens_fit b)) in
    subst (AtMost values (length b)) e (then json_values values (length b) (length b) of_json (λ j h. data_fits j (length b) h) _ parsed)

-- the name that `Value::from_str` has for `read`
pub values-read_text : (b : List ℕ) (d : Data) → read_text b ≡ Some d → values d ≤ length b
values-read_text b d e = values-read b d e
