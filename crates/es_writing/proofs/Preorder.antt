-- Entries that are put in one after another, and items of a list.
use Rattle.std.proofs.Common.{◌≡◌, refl, sym, ap, ap₂, ◌∙◌, ℕ, ◌+◌, ◌<◌, ◌≤◌, ◌⊎◌, inl, inr, min, List, [], ◌∷◌, ◌++◌, map, drop, length, get_or, Option, arith}
use Rattle.std.proofs.lemmas.List.{drop_more, drop_all}
use Rattle.serde_json.specs.Data.{Data, Items, no_items, item, Members, put}
use Rattle.serde_json.specs.View.{view, items_view}
use Rattle.serde_json.specs.declared.value.Value.{Value}
use Rattle.es_base.specs.Tree.{Tree, Parts, end, more, nullable, trees, nullable_trees}
use Rattle.es_base.specs.Table.{Field, field_of}
use Rattle.es_base.specs.declared.table.Member.{Member}
use Rattle.es_node.specs.View.{part_of, parts_of}
use Rattle.es_node.specs.declared.node.Part.{Part}
use Rattle.es_writing.specs.Writing.{Entry, put_all, write_fields, write, write_part, write_items, write_item}

pub put_all_append : (ms : Members) (es fs : List Entry) → put_all ms (es ++ fs) ≡ put_all (put_all ms es) fs
put_all_append ms [] fs = refl
put_all_append ms (e ∷ es) fs = put_all_append (put e.0 e.1 ms) es fs

item_at : (ps : List Part) (n : ℕ) (p : Part) → n < length ps → p ≡ get_or ps n p → drop n ps ≡ p ∷ drop (n + 1) ps
item_at ps n p within is = drop_more ps n p within ∙ ap (λ (x : Part). x ∷ drop (n + 1) ps) (sym is)

member_at : (ms : List Member) (n : ℕ) (m : Member) → n < length ms → m ≡ get_or ms n m → drop n ms ≡ m ∷ drop (n + 1) ms
member_at ms n m within is = drop_more ms n m within ∙ ap (λ (x : Member). x ∷ drop (n + 1) ms) (sym is)

-- ---- the members of a row

-- those that are left after n of them
abbrev pub rest_of : List Member → List Part → ℕ → List Entry
rest_of ms ps n = write_fields (map field_of (drop n ms)) (parts_of (drop n ps))

pub row_on : (now later : Members) (ms : List Member) (ps : List Part) (n k : ℕ) (m : Member) (p : Part) → n < length ms → n < length ps → m ≡ get_or ms n m → p ≡ get_or ps n p → k ≡ n + 1
    → later ≡ put_all now (write_part m.name.now (part_of p)) → put_all later (rest_of ms ps k) ≡ put_all now (rest_of ms ps n)
row_on now later ms ps n k m p in_row in_list m_is p_is next put_in =
    ap (λ j. put_all later (rest_of ms ps j)) next
    ∙ ap (λ x. put_all x (rest_of ms ps (n + 1))) put_in
    ∙ sym (put_all_append now (write_part m.name.now (part_of p)) (rest_of ms ps (n + 1)))
    ∙ sym (ap₂ (λ (xs : List Member) (ys : List Part). put_all now (write_fields (map field_of xs) (parts_of ys))) (member_at ms n m in_row m_is) (item_at ps n p in_list p_is))

no_fields : (ps : Parts) → write_fields [] ps ≡ []
no_fields end = refl
no_fields (more p ps) = refl

no_parts : (fs : List Field) → write_fields fs end ≡ []
no_parts [] = refl
no_parts (f ∷ fs) = refl

shorter : (a b n : ℕ) → n ≡ min a b → (a ≤ n) ⊎ (b ≤ n)
shorter a b n is = grind arith

past : (ms : List Member) (ps : List Part) (n : ℕ) → (length ms ≤ n) ⊎ (length ps ≤ n) → rest_of ms ps n ≡ []
past ms ps n (inl short) = ap (λ (xs : List Member). write_fields (map field_of xs) (parts_of (drop n ps))) (drop_all n ms short) ∙ no_fields (parts_of (drop n ps))
past ms ps n (inr short) = ap (λ (xs : List Part). write_fields (map field_of (drop n ms)) (parts_of xs)) (drop_all n ps short) ∙ no_parts (map field_of (drop n ms))

-- where the shorter of both lists ends, no member is left
pub row_done : (now : Members) (ms : List Member) (ps : List Part) (n : ℕ) → n ≡ min (length ms) (length ps) → now ≡ put_all now (rest_of ms ps n)
row_done now ms ps n is = sym (ap (put_all now) (past ms ps n (shorter (length ms) (length ps) n is)))

-- ---- the items of a list

-- these values, and behind them the items
abbrev pub before : List Data → Items → Items
before [] is = is
before (d ∷ ds) is = item d (before ds is)

pushed : (vs : List Value) (v : Value) (is : Items) → before (map view (vs ++ v ∷ [])) is ≡ before (map view vs) (item (view v) is)
pushed [] v is = refl
pushed (w ∷ vs) v is = ap (item (view w)) (pushed vs v is)

none_behind : (vs : List Value) → before (map view vs) no_items ≡ items_view vs
none_behind [] = refl
none_behind (v ∷ vs) = ap (item (view v)) (none_behind vs)

items_put : (vs ws : List Value) (v : Value) (d : Data) (left rest : Items) → left ≡ item d rest → ws ≡ vs ++ v ∷ [] → view v ≡ d → before (map view ws) rest ≡ before (map view vs) left
items_put vs ws v d left rest begins put_in generated =
    ap (λ (us : List Value). before (map view us) rest) put_in
    ∙ pushed vs v rest
    ∙ ap (λ e. before (map view vs) (item e rest)) generated
    ∙ ap (before (map view vs)) (sym begins)

nodes_at : (ts : List Tree) (n : ℕ) (t : Tree) → n < length ts → t ≡ get_or ts n t → drop n ts ≡ t ∷ drop (n + 1) ts
nodes_at ts n t within is = drop_more ts n t within ∙ ap (λ (x : Tree). x ∷ drop (n + 1) ts) (sym is)

nullable_at : (ts : List (Option Tree)) (n : ℕ) (t : Option Tree) → n < length ts → t ≡ get_or ts n t → drop n ts ≡ t ∷ drop (n + 1) ts
nullable_at ts n t within is = drop_more ts n t within ∙ ap (λ (x : Option Tree). x ∷ drop (n + 1) ts) (sym is)

-- one more node
pub nodes_on : (vs ws : List Value) (v : Value) (ts : List Tree) (n : ℕ) (t : Tree) → n < length ts → t ≡ get_or ts n t → ws ≡ vs ++ v ∷ [] → view v ≡ write t
    → before (map view ws) (write_items (trees (drop (n + 1) ts))) ≡ before (map view vs) (write_items (trees (drop n ts)))
nodes_on vs ws v ts n t within is put_in generated = items_put vs ws v (write t) _ _ (ap (λ (us : List Tree). write_items (trees us)) (nodes_at ts n t within is)) put_in generated

-- one more node, or none
pub nullable_on : (vs ws : List Value) (v : Value) (ts : List (Option Tree)) (n : ℕ) (t : Option Tree) → n < length ts → t ≡ get_or ts n t → ws ≡ vs ++ v ∷ [] → view v ≡ write_item (nullable t)
    → before (map view ws) (write_items (nullable_trees (drop (n + 1) ts))) ≡ before (map view vs) (write_items (nullable_trees (drop n ts)))
nullable_on vs ws v ts n t within is put_in generated = items_put vs ws v (write_item (nullable t)) _ _ (ap (λ (us : List (Option Tree)). write_items (nullable_trees us)) (nullable_at ts n t within is)) put_in generated

-- no item is left
pub nodes_done : (vs : List Value) (ts : List Tree) (n : ℕ) (all : Items) → length ts ≤ n → before (map view vs) (write_items (trees (drop n ts))) ≡ all → items_view vs ≡ all
nodes_done vs ts n all past_end is = sym (none_behind vs) ∙ sym (ap (λ (us : List Tree). before (map view vs) (write_items (trees us))) (drop_all n ts past_end)) ∙ is

pub nullable_done : (vs : List Value) (ts : List (Option Tree)) (n : ℕ) (all : Items) → length ts ≤ n → before (map view vs) (write_items (nullable_trees (drop n ts))) ≡ all → items_view vs ≡ all
nullable_done vs ts n all past_end is = sym (none_behind vs) ∙ sym (ap (λ (us : List (Option Tree)). before (map view vs) (write_items (nullable_trees us))) (drop_all n ts past_end)) ∙ is
