-- A walk that collects the entries of a tree: how far it has come, and how much it collects.
use Rattle.std.proofs.Common.{◌≡◌, refl, sym, ap, ◌∙◌, ℕ, ◌+◌, ◌<◌, ◌≤◌, List, [], ◌∷◌, length, drop, get_or, Bool, true, false, cond, Result, Ok, Err, arith}
use Rattle.std.specs.Prelude.{option_to_list, IfOk}
use Rattle.std.proofs.lemmas.List.{drop_more, drop_all, length-append}
use Rattle.es_base.specs.Preorder.{nodes, nodes_of, nodes_of_part, one_if}
use Rattle.es_base.specs.Tree.{Tree, Node, Part, Parts, end, more, child, absent, list, string, no_string, boolean, literal}
use Rattle.es_base.specs.declared.ids.NodeId.{NodeId}
use Rattle.es_base.specs.declared.kind.Kind.{Kind}
use Rattle.es_node.specs.Bearing.{bears_semantic_id}
use Rattle.es_node.specs.View.{kind_of, number_in, parts_in}
use Rattle.es_scopes.specs.NodeScopes.{opens}
use Rattle.es_scopes.specs.Entries.{Collected, entry_of, entered, collected, collected_parts, collected_part, collected_items}
use Rattle.es_scopes.specs.Surroundings.{scope_place, inside}
use Rattle.es_scopes_law.specs.Written.{bearers, bearers_of, bearers_of_part}
use Rattle.es_scopes.specs.declared.surroundings.Surroundings.{Surroundings}

pub collected_node : (s : Surroundings) (c : Collected) (t : Tree) → collected s c t ≡ collected_parts (inside (kind_of t) (record { 0 = c.next }) (parts_in t) s) 0 (entered (kind_of t) (record { 0 = number_in t }) (parts_in t) s c) (parts_in t)
collected_node s c (Node kind id span semantic_id ps) = refl

-- ---- how far a loop over a list has come: at item i. P: the parts of a list, p: the part of an item

pub record Walks {X : Type 0} (P : List X → Parts) (W : ℕ → Collected → Parts → Collected) (start : Collected) (xs : List X) (i : ℕ) (c : Collected) : Type 0 where
  pub reached : W i c (P (drop i xs)) ≡ W 0 start (P xs)
  pub room : c.next + nodes_of (P (drop i xs)) ≤ start.next + nodes_of (P xs)

module _ {X : Type 0} (P : List X → Parts) (p : X → Part) (cons : (x : X) (xs : List X) → P (x ∷ xs) ≡ more (p x) (P xs)) (W : ℕ → Collected → Parts → Collected) (w : ℕ → Collected → Part → Collected) (turn : (i : ℕ) (c : Collected) (q : Part) (qs : Parts) → W i c (more q qs) ≡ W (i + 1) (w i c q) qs) (few : (i : ℕ) (c : Collected) (q : Part) → (w i c q).next ≤ c.next + nodes_of_part q) where
  from_here : (xs : List X) (i : ℕ) (d : X) → i < length xs → P (drop i xs) ≡ more (p (get_or xs i d)) (P (drop (i + 1) xs))
  from_here xs i d l = ap P (drop_more xs i d l) ∙ cons (get_or xs i d) (drop (i + 1) xs)

  pub item_room : (start : Collected) (xs : List X) (i : ℕ) (c : Collected) (d : X) → i < length xs → Walks P W start xs i c → c.next + nodes_of_part (p (get_or xs i d)) ≤ start.next + nodes_of (P xs)
  item_room start xs i c d l was = omega (arith, ap nodes_of (from_here xs i d l), was.room)

  pub step : (start : Collected) (xs : List X) (i : ℕ) (c after : Collected) (d : X) → i < length xs → after ≡ w i c (p (get_or xs i d)) → Walks P W start xs i c → Walks P W start xs (i + 1) after
  step start xs i c after d l is was = record {
    reached = ap (λ a. W (i + 1) a (P (drop (i + 1) xs))) is ∙ sym (turn i c (p (get_or xs i d)) (P (drop (i + 1) xs))) ∙ sym (ap (W i c) (from_here xs i d l)) ∙ was.reached;
    room = omega (arith, ap nodes_of (from_here xs i d l), ap (λ (a : Collected). a.next) is, few i c (p (get_or xs i d)), was.room);
  }

  pub done : (nil : P [] ≡ end) (none : (i : ℕ) (c : Collected) → W i c end ≡ c) (start : Collected) (xs : List X) (i : ℕ) (c : Collected) → length xs ≤ i → Walks P W start xs i c → c ≡ W 0 start (P xs)
  done nil none start xs i c l was = sym (ap (W i c) (ap P (drop_all i xs l) ∙ nil) ∙ none i c) ∙ was.reached

-- ---- how many scopes are counted

one_more : (b : Bool) (n : ℕ) → cond b (n + 1) n ≤ n + 1
one_more true n = omega arith
one_more false n = omega arith

mutual
  pub few_scopes : (s : Surroundings) (c : Collected) (t : Tree) → (collected s c t).next ≤ c.next + nodes t
  few_scopes s c (Node kind id span semantic_id ps) = omega (arith, one_more (opens kind (scope_place s)) c.next, few_in_parts (inside kind (record { 0 = c.next }) ps s) 0 (entered kind (record { 0 = id }) ps s c) ps)

  pub few_in_parts : (inner : ℕ → Surroundings) (i : ℕ) (c : Collected) (ps : Parts) → (collected_parts inner i c ps).next ≤ c.next + nodes_of ps
  few_in_parts inner i c end = omega arith
  few_in_parts inner i c (more p ps) = omega (arith, few_in_part (inner i) c p, few_in_parts inner (i + 1) (collected_part (inner i) c p) ps)

  pub few_in_part : (s : Surroundings) (c : Collected) (p : Part) → (collected_part s c p).next ≤ c.next + nodes_of_part p
  few_in_part s c (child t) = few_scopes s c t
  few_in_part s c absent = omega arith
  few_in_part s c (list ps) = few_in_items s c ps
  few_in_part s c (string b) = omega arith
  few_in_part s c no_string = omega arith
  few_in_part s c (boolean b) = omega arith
  few_in_part s c (literal v) = omega arith

  pub few_in_items : (s : Surroundings) (c : Collected) (ps : Parts) → (collected_items s c ps).next ≤ c.next + nodes_of ps
  few_in_items s c end = omega arith
  few_in_items s c (more p ps) = omega (arith, few_in_part s c p, few_in_items s (collected_part s c p) ps)

-- ---- an entry for each node that may bear a semantic id

one_entry : (kind : Kind) (m : NodeId) (ps : Parts) (s : Surroundings) → length (option_to_list (entry_of kind m ps s)) ≡ one_if (bears_semantic_id kind)
one_entry Kind.BindingIdentifier m ps s = refl
one_entry kind m ps s = refl

mutual
  pub entry_each : (s : Surroundings) (c : Collected) (t : Tree) → length (collected s c t).entries ≡ length c.entries + bearers t
  entry_each s c (Node kind id span semantic_id ps) = omega (arith, one_entry kind (record { 0 = id }) ps s, length-append c.entries (option_to_list (entry_of kind (record { 0 = id }) ps s)), each_of_parts (inside kind (record { 0 = c.next }) ps s) 0 (entered kind (record { 0 = id }) ps s c) ps)

  each_of_parts : (inner : ℕ → Surroundings) (i : ℕ) (c : Collected) (ps : Parts) → length (collected_parts inner i c ps).entries ≡ length c.entries + bearers_of ps
  each_of_parts inner i c end = omega arith
  each_of_parts inner i c (more p ps) = omega (arith, each_of_part (inner i) c p, each_of_parts inner (i + 1) (collected_part (inner i) c p) ps)

  each_of_part : (s : Surroundings) (c : Collected) (p : Part) → length (collected_part s c p).entries ≡ length c.entries + bearers_of_part p
  each_of_part s c (child t) = entry_each s c t
  each_of_part s c absent = omega arith
  each_of_part s c (list ps) = each_of_items s c ps
  each_of_part s c (string b) = omega arith
  each_of_part s c no_string = omega arith
  each_of_part s c (boolean b) = omega arith
  each_of_part s c (literal v) = omega arith

  each_of_items : (s : Surroundings) (c : Collected) (ps : Parts) → length (collected_items s c ps).entries ≡ length c.entries + bearers_of ps
  each_of_items s c end = omega arith
  each_of_items s c (more p ps) = omega (arith, each_of_part s c p, each_of_items s (collected_part s c p) ps)

at_most_one : (b : Bool) → one_if b ≤ 1
at_most_one true = omega arith
at_most_one false = omega arith

mutual
  pub bearers-nodes : (t : Tree) → bearers t ≤ nodes t
  bearers-nodes (Node kind id span semantic_id ps) = omega (arith, at_most_one (bears_semantic_id kind), bearers-parts ps)

  bearers-parts : (ps : Parts) → bearers_of ps ≤ nodes_of ps
  bearers-parts end = omega arith
  bearers-parts (more p ps) = omega (arith, bearers-part p, bearers-parts ps)

  bearers-part : (p : Part) → bearers_of_part p ≤ nodes_of_part p
  bearers-part (child t) = bearers-nodes t
  bearers-part absent = omega arith
  bearers-part (list ps) = bearers-parts ps
  bearers-part (string b) = omega arith
  bearers-part no_string = omega arith
  bearers-part (boolean b) = omega arith
  bearers-part (literal v) = omega arith

-- ---- a node, by what the code reads of it

pub IfOk-map : {T E : Type 0} (r : Result T E) (P Q : T → Type 0) → ((x : T) → P x → Q x) → IfOk r P → IfOk r Q
IfOk-map (Ok x) P Q f h = f x h
IfOk-map (Err e) P Q f h = tt

pub collected_from : (s : Surroundings) (c inner : Collected) (t : Tree) (kind : Kind) (m : NodeId) (ps : Parts) → kind ≡ kind_of t → m.0 ≡ number_in t → parts_in t ≡ ps → inner ≡ entered kind m ps s c → collected_parts (inside kind (record { 0 = c.next }) ps s) 0 inner ps ≡ collected s c t
collected_from s c inner t kind m ps is_kind is_number are is_inner =
    ap (λ (x : Collected). collected_parts (inside kind (record { 0 = c.next }) ps s) 0 x ps) is_inner
    ∙ (λ i. collected_parts (inside (is_kind i) (record { 0 = c.next }) (sym are i) s) 0 (entered (is_kind i) (record { 0 = is_number i }) (sym are i) s c) (sym are i))
    ∙ sym (collected_node s c t)

pub next_entered : (s : Surroundings) (c inner : Collected) (kind : Kind) (m : NodeId) (ps : Parts) → inner ≡ entered kind m ps s c → inner.next ≤ c.next + 1
next_entered s c inner kind m ps is = omega (arith, ap (λ (x : Collected). x.next) is, one_more (opens kind (scope_place s)) c.next)
