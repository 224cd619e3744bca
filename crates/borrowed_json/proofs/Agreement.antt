-- Data read from tokens is the data of the value that the grammar reads.
use Rattle.std.proofs.Common.{◌≡◌, refl, sym, ap, ◌∙◌, ℕ, zero, suc, List, [], ◌∷◌, ◌++◌, length, Option, Some, None, option_map, option_and_then}
use Rattle.json.specs.Token.{Token}
use Rattle.json.specs.Lex.{tokens}
use Rattle.json.specs.Json as json
use Rattle.json.specs.Json.{Parse, parse_map, after_end_array, read_key, items, items_step, members, members_step, value, if_last}
use Rattle.serde_json.specs.Data.{Data, array, object, Items, no_items, item, Members, no_members, put}
use Rattle.serde_json.specs.Read.{of_json, of_items, of_members, converted, read}
use Rattle.serde_json.specs.View.{items_of}
use Rattle.borrowed_json.specs.Grammar.{list_step, list_from, object_step, object_from, value_in, alone}

-- ---- items behind others

abbrev before : List Data → Items → Items
before [] is = is
before (d ∷ ds) is = item d (before ds is)

before-none : (ds : List Data) → items_of ds ≡ before ds no_items
before-none [] = refl
before-none (d ∷ ds) = ap (item d) (before-none ds)

before-push : (ds : List Data) (d : Data) (is : Items) → before (ds ++ d ∷ []) is ≡ before ds (item d is)
before-push [] d is = refl
before-push (e ∷ ds) d is = ap (item e) (before-push ds d is)

-- ---- lists

abbrev listed : List Data → Option (json.Items × List Token) → Option (Data × List Token)
listed done o = parse_map (λ is. array (before done is)) (converted of_items o)

module _ (j : json.Json) (done : List Data) where
  item_none : (o : Option (json.Items × List Token)) → of_json j ≡ None → None ≡ listed done (parse_map (json.item j) o)
  item_none None e = refl
  item_none (Some p) e = rw e

  item_some : (d : Data) (o : Option (json.Items × List Token)) → of_json j ≡ Some d → listed (done ++ d ∷ []) o ≡ listed done (parse_map (json.item j) o)
  item_some d None e = refl
  item_some d (Some p) e = rw e (pushed (of_items p.0))
    where
      pushed : (is : Option Items) → parse_map (λ is. array (before (done ++ d ∷ []) is)) (option_map (λ b. (b, p.1)) is) ≡ parse_map (λ is. array (before done is)) (option_map (λ b. (b, p.1)) (option_map (item d) is))
      pushed None = refl
      pushed (Some is) = ap (λ i. Some (array i, p.1)) (before-push done d is)

module _ (p : Parse json.Json) (q : Parse Data) (same : (ts : List Token) → q ts ≡ converted of_json (p ts)) where
  list_turn : (n : ℕ) (done : List Data) → ((done : List Data) (ts : List Token) → list_from q n done ts ≡ listed done (items p n ts)) → (o : Option (json.Json × List Token))
      → option_and_then (λ (d : Data × List Token). list_from q n (done ++ d.0 ∷ []) d.1) (converted of_json o) ≡ listed done (option_and_then (λ (j : json.Json × List Token). parse_map (json.item j.0) (items p n j.1)) o)
  list_turn n done more None = refl
  list_turn n done more (Some r) = go (of_json r.0) refl
    where
      go : (d : Option Data) → of_json r.0 ≡ d → option_and_then (λ (d : Data × List Token). list_from q n (done ++ d.0 ∷ []) d.1) (option_map (λ b. (b, r.1)) d) ≡ listed done (parse_map (json.item r.0) (items p n r.1))
      go None e = item_none r.0 done (items p n r.1) e
      go (Some d) e = more (done ++ d ∷ []) r.1 ∙ item_some r.0 done d (items p n r.1) e

  list_by : (n : ℕ) (done : List Data) (ts : List Token) → ((done : List Data) (ts : List Token) → list_from q n done ts ≡ listed done (items p n ts)) → (o : Option (List Token))
      → list_step q (list_from q n) done ts o ≡ listed done (items_step p (items p n) ts o)
  list_by n done ts more (Some rest) = ap (λ is. Some (array is, rest)) (before-none done)
  list_by n done ts more None = ap (option_and_then (λ (d : Data × List Token). list_from q n (done ++ d.0 ∷ []) d.1)) (same ts) ∙ list_turn n done more (p ts)

  pub list_agrees : (n : ℕ) (done : List Data) (ts : List Token) → list_from q n done ts ≡ listed done (items p n ts)
  unfolding list_from items
  list_agrees zero done ts = refl
  list_agrees (suc n) done ts = list_by n done ts (list_agrees n) (after_end_array ts)

-- ---- objects

abbrev filled : Members → Option (json.Members × List Token) → Option (Data × List Token)
filled old o = parse_map object (converted (λ ms. of_members ms old) o)

module _ (k : List ℕ) (j : json.Json) (old : Members) where
  member_none : (o : Option (json.Members × List Token)) → of_json j ≡ None → None ≡ filled old (parse_map (json.member k j) o)
  member_none None e = refl
  member_none (Some p) e = rw e

  member_some : (d : Data) (o : Option (json.Members × List Token)) → of_json j ≡ Some d → filled (put k d old) o ≡ filled old (parse_map (json.member k j) o)
  member_some d None e = refl
  member_some d (Some p) e = rw e

module _ (p : Parse json.Json) (q : Parse Data) (same : (ts : List Token) → q ts ≡ converted of_json (p ts)) where
  object_turn : (n : ℕ) (old : Members) (k : List ℕ) → ((old : Members) (ts : List Token) → object_from q n old ts ≡ filled old (members p n ts)) → (o : Option (json.Json × List Token))
      → option_and_then (λ (d : Data × List Token). object_from q n (put k d.0 old) d.1) (converted of_json o) ≡ filled old (option_and_then (λ (j : json.Json × List Token). parse_map (json.member k j.0) (members p n j.1)) o)
  object_turn n old k more None = refl
  object_turn n old k more (Some r) = go (of_json r.0) refl
    where
      go : (d : Option Data) → of_json r.0 ≡ d → option_and_then (λ (d : Data × List Token). object_from q n (put k d.0 old) d.1) (option_map (λ b. (b, r.1)) d) ≡ filled old (parse_map (json.member k r.0) (members p n r.1))
      go None e = member_none k r.0 old (members p n r.1) e
      go (Some d) e = more (put k d old) r.1 ∙ member_some k r.0 old d (members p n r.1) e

  object_by : (n : ℕ) (old : Members) → ((old : Members) (ts : List Token) → object_from q n old ts ≡ filled old (members p n ts)) → (o : Option (Option (List ℕ) × List Token))
      → option_and_then (λ (k : Option (List ℕ) × List Token). object_step q (object_from q n) old k.0 k.1) o ≡ filled old (option_and_then (λ (k : Option (List ℕ) × List Token). members_step p (members p n) k.0 k.1) o)
  object_by n old more None = refl
  object_by n old more (Some (None, rest)) = refl
  object_by n old more (Some (Some k, rest)) = ap (option_and_then (λ (d : Data × List Token). object_from q n (put k d.0 old) d.1)) (same rest) ∙ object_turn n old k more (p rest)

  pub object_agrees : (n : ℕ) (old : Members) (ts : List Token) → object_from q n old ts ≡ filled old (members p n ts)
  unfolding object_from members
  object_agrees zero old ts = refl
  object_agrees (suc n) old ts = object_by n old (object_agrees n) (read_key ts)

-- ---- values

array_read : (o : Option (json.Items × List Token)) → listed [] o ≡ converted of_json (parse_map json.array o)
array_read None = refl
array_read (Some p) = go (of_items p.0)
  where
    go : (is : Option Items) → parse_map (λ is. array (before [] is)) (option_map (λ b. (b, p.1)) is) ≡ option_map (λ b. (b, p.1)) (option_map array is)
    go None = refl
    go (Some is) = refl

object_read : (o : Option (json.Members × List Token)) → filled no_members o ≡ converted of_json (parse_map json.object o)
object_read None = refl
object_read (Some p) = go (of_members p.0 no_members)
  where
    go : (ms : Option Members) → parse_map object (option_map (λ b. (b, p.1)) ms) ≡ option_map (λ b. (b, p.1)) (option_map object ms)
    go None = refl
    go (Some ms) = refl

pub value_agrees : (depth : ℕ) (ts : List Token) → value_in depth ts ≡ converted of_json (value depth ts)
unfolding value_in value
value_agrees zero [] = refl
value_agrees (suc depth) [] = refl
value_agrees zero (Token.begin_array ∷ ts) = refl
value_agrees zero (Token.begin_object ∷ ts) = refl
value_agrees (suc depth) (Token.begin_array ∷ ts) = list_agrees (value depth) (value_in depth) (value_agrees depth) (length ts) [] ts ∙ array_read (items (value depth) (length ts) ts)
value_agrees (suc depth) (Token.begin_object ∷ ts) = object_agrees (value depth) (value_in depth) (value_agrees depth) (length ts) no_members ts ∙ object_read (members (value depth) (length ts) ts)
value_agrees zero (Token.string s ∷ ts) = refl
value_agrees zero (Token.number s ∷ ts) = refl
value_agrees zero (Token.boolean b ∷ ts) = refl
value_agrees zero (Token.null ∷ ts) = refl
value_agrees zero (Token.end_array ∷ ts) = refl
value_agrees zero (Token.end_object ∷ ts) = refl
value_agrees zero (Token.key s ∷ ts) = refl
value_agrees zero (Token.bad ∷ ts) = refl
value_agrees (suc depth) (Token.string s ∷ ts) = refl
value_agrees (suc depth) (Token.number s ∷ ts) = refl
value_agrees (suc depth) (Token.boolean b ∷ ts) = refl
value_agrees (suc depth) (Token.null ∷ ts) = refl
value_agrees (suc depth) (Token.end_array ∷ ts) = refl
value_agrees (suc depth) (Token.end_object ∷ ts) = refl
value_agrees (suc depth) (Token.key s ∷ ts) = refl
value_agrees (suc depth) (Token.bad ∷ ts) = refl

-- ---- texts

alone_read : (o : Option (json.Json × List Token)) → option_and_then of_json (option_and_then (λ p. if_last p.0 p.1) o) ≡ alone (converted of_json o)
alone_read None = refl
alone_read (Some (j, [])) = go (of_json j)
  where
    go : (d : Option Data) → d ≡ alone (option_map (λ b. (b, [])) d)
    go None = refl
    go (Some d) = refl
alone_read (Some (j, t ∷ ts)) = go (of_json j)
  where
    go : (d : Option Data) → None ≡ alone (option_map (λ b. (b, t ∷ ts)) d)
    go None = refl
    go (Some d) = refl

pub text_agrees : (text : List ℕ) → read text ≡ alone (value_in 127 (tokens text))
text_agrees text = alone_read (value 127 (tokens text)) ∙ ap alone (sym (value_agrees 127 (tokens text)))
