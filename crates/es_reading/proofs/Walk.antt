-- How the reading of a value goes on.
use Rattle.std.proofs.Common.{◌≡◌, refl, sym, ap, ap₂, ◌∙◌, subst, ℕ, zero, suc, ◌+◌, ◌<◌, ◌≤◌, nat_eq, length, drop, get_or, List, [], ◌∷◌, ◌++◌, append_assoc, append-nil, map, Bool, true, false, Option, Some, None, option_map, option_and_then, Result, Ok, Err, Ordering, Less, Equal, Greater, arith}
use Rattle.std.proofs.lemmas.Bool.Decides.{same_from_decides, Decides-eqb, nat_tests}
use Rattle.std.proofs.lemmas.List.{drop_more}
use Rattle.std.specs.Ordering.{nat_cmp, match_ordering}
use Rattle.std.specs.Cmp.Lexicographic.{slice_cmp}
use Rattle.serde_json.specs.Data.{Data, null, boolean as json_boolean, number, string as json_string, array, object, Members, no_members, member}
use Rattle.serde_json.specs.Find.{get, get_member, as_array}
use Rattle.borrowed_json.specs.View.{view, items_view}
use Rattle.borrowed_json.specs.declared.value.Value.{Value}
use Rattle.es_base.specs.Tree.{Tree, Part, Parts, Node, end, more, child, list, trees, nullable_trees, nullable, nullable_string}
use Rattle.es_base.specs.Preorder.{nodes_of, nodes_of_part}
use Rattle.es_base.specs.Table.{Field, field_of, members_of}
use Rattle.es_base.specs.declared.kind.Kind.{Kind}
use Rattle.es_base.specs.declared.literal.LiteralValue.{LiteralValue}
use Rattle.es_base.specs.declared.table.Member.{Member}
use Rattle.es_base.specs.declared.table.Place.{Place}
use Rattle.es_base.specs.declared.table.Sort.{Sort}
use Rattle.es_node.specs.View.{part_of, parts_of, has_shape, have_shapes}
use Rattle.es_node.specs.declared.node.Part as code
use Rattle.es_reading.proofs.And.{left_of, right_of, both}
use Rattle.es_reading.specs.Fault.{Fault, Read, bind}
use Rattle.es_reading.specs.Look.{span_at, array_at}
use Rattle.es_reading.specs.Members.{is_of_sort, are_of_sorts}
use Rattle.es_reading.specs.Reading.{Reader, reader_of, readers_in, readers, find, finds, read, value_node, kind_of, number_of, members_in, parent_of, node_of, own_number, each, before as put_before, as_child, as_list, alone, leaf_of, literal_part, member_of, items_of, slot, is_last, read_by}
use Rattle.es_reading.specs.Told.{Tells, Gives, item_in, values_there, values_at}
use Rattle.es_reading.specs.Unlisted.{is_foreign_node, holds_nodes}
use Rattle.es_reading.specs.declared.fault.ReadError.{ReadError}
use Rattle.es_reading.specs.declared.numbers.Numbers.{Numbers}
use Rattle.es_reading.specs.declared.spot.Parent.{Parent}
use Rattle.es_reading.specs.declared.spot.Slots.{Slots}
use Rattle.es_reading.specs.declared.spot.Spot.{Spot}

-- ---- the readers

find_look : (numbers : Numbers) (o : Ordering) (r : Option Reader) (d : Data) (g : Option Data) → r ≡ option_map (reader_of numbers) g
    → match_ordering o r (Some (reader_of numbers d)) r ≡ option_map (reader_of numbers) (match_ordering o g (Some d) g)
find_look numbers Less r d g e = e
find_look numbers Equal r d g e = refl
find_look numbers Greater r d g e = e

pub find_is : (numbers : Numbers) (ms : Members) (key : List ℕ) → find numbers ms key ≡ option_map (reader_of numbers) (get_member key ms)
unfolding find
find_is numbers no_members key = refl
find_is numbers (member l d ms) key = find_look numbers (slice_cmp nat_cmp key l) (find numbers ms key) d (get_member key ms) (find_is numbers ms key)

pub read_is : (numbers : Numbers) (d : Data) (spot : Spot) (n : ℕ) → read numbers d spot n ≡ value_node (finds numbers d) numbers d spot n
unfolding read
read_is numbers null spot n = refl
read_is numbers (json_boolean b) spot n = refl
read_is numbers (number b) spot n = refl
read_is numbers (json_string s) spot n = refl
read_is numbers (array ds) spot n = refl
read_is numbers (object ms) spot n = ap (λ (f : List ℕ → Option Reader). value_node f numbers (object ms) spot n) (λ i. λ k. find_is numbers ms k i)

readers_are : (numbers : Numbers) (vs : List Value) → readers numbers (items_view vs) ≡ map (λ v. reader_of numbers (view v)) vs
unfolding readers
readers_are numbers [] = refl
readers_are numbers (v ∷ vs) = ap (λ rs. reader_of numbers (view v) ∷ rs) (readers_are numbers vs)

in_array : (numbers : Numbers) (d : Data) (vs : List Value) → Some (items_view vs) ≡ as_array d → readers_in numbers d ≡ map (λ v. reader_of numbers (view v)) vs
unfolding readers_in
in_array numbers null vs e = cc
in_array numbers (json_boolean b) vs e = cc
in_array numbers (number b) vs e = cc
in_array numbers (json_string s) vs e = cc
in_array numbers (array ds) vs e = let same : items_view vs ≡ ds = cc in ap (readers numbers) (sym same) ∙ readers_are numbers vs
in_array numbers (object ms) vs e = cc

in_none : (numbers : Numbers) (d : Data) → None ≡ as_array d → readers_in numbers d ≡ []
unfolding readers_in
in_none numbers null e = refl
in_none numbers (json_boolean b) e = refl
in_none numbers (number b) e = refl
in_none numbers (json_string s) e = refl
in_none numbers (array ds) e = cc
in_none numbers (object ms) e = refl

last_map : {X Y : Type 0} (f : X → Y) (xs : List X) → is_last (map f xs) ≡ is_last xs
last_map f [] = refl
last_map f (x ∷ xs) = refl

each_of : (numbers : Numbers) (slots : Slots) (vs : List Value) (n : ℕ)
    → each (λ r rest. r.item slots.holes (slot slots (is_last rest))) (map (λ v. reader_of numbers (view v)) vs) n ≡ each (item_in numbers slots) vs n
each_of numbers slots [] n = refl
each_of numbers slots (v ∷ vs) n =
    ap₂ (λ r (next : ℕ → Result (Read Parts) Fault). bind r (λ p. bind (next (n + nodes_of_part p.value)) (λ ps. Ok (put_before p ps))))
    (ap (λ b. (reader_of numbers (view v)).item slots.holes (slot slots b) n) (last_map (λ w. reader_of numbers (view w)) vs))
    (λ i m. each_of numbers slots vs m i)

pub items_are : (numbers : Numbers) (d : Data) (vs : List Value) (slots : Slots) (n : ℕ) → Some (items_view vs) ≡ as_array d
    → (reader_of numbers d).items slots n ≡ as_list (each (item_in numbers slots) vs n)
items_are numbers d vs slots n e = ap (λ rs. items_of slots rs n) (in_array numbers d vs e) ∙ ap as_list (each_of numbers slots vs n)

-- the list at a member
pub member_items : (numbers : Numbers) (d : Data) (name : List ℕ) (vs : List Value) (slots : Slots) (n : ℕ) → array_at name d ≡ Some (items_view vs)
    → read_by (finds numbers d name) (λ r. r.items slots n) ≡ as_list (each (item_in numbers slots) vs n)
member_items numbers d name vs slots n is = by_found (get name d) is where
  by_found : (o : Option Data) → option_and_then as_array o ≡ Some (items_view vs) → read_by (option_map (reader_of numbers) o) (λ r. r.items slots n) ≡ as_list (each (item_in numbers slots) vs n)
  by_found None e = cc
  by_found (Some d) e = items_are numbers d vs slots n (sym e)

-- the child at a member
pub member_child : (numbers : Numbers) (d e : Data) (name : List ℕ) (spot : Spot) (n : ℕ) → get name d ≡ Some e → read_by (finds numbers d name) (λ r. r.item false spot n) ≡ (reader_of numbers e).item false spot n
member_child numbers d e name spot n is = ap (λ o. read_by (option_map (reader_of numbers) o) (λ r. r.item false spot n)) is

-- ---- errors

pub tells_by : {T : Type 0} (e : ReadError) {r s : Result T Fault} → s ≡ r → Tells e r → Tells e s
tells_by ReadError.NoMemory is t = tt
tells_by (ReadError.NotATree at what) is t = is ∙ t
tells_by (ReadError.Float at) is t = is ∙ t

pub tells_first : {S T : Type 0} (e : ReadError) (r : Result S Fault) (next : S → Result T Fault) → Tells e r → Tells e (bind r next)
tells_first ReadError.NoMemory r next t = tt
tells_first (ReadError.NotATree at what) r next t = ap (λ z. bind z next) t
tells_first (ReadError.Float at) r next t = ap (λ z. bind z next) t

pub tells_then : {S T : Type 0} (e : ReadError) (r : Result S Fault) (x : S) (next : S → Result T Fault) → r ≡ Ok x → Tells e (next x) → Tells e (bind r next)
tells_then e r x next is t = tells_by e (ap (λ z. bind z next) is) t

-- ---- a node

rest_of : Numbers → Data → Spot → ℕ → Kind → ℕ → Result (Read Tree) Fault
rest_of numbers d spot n kind id = bind (members_in (finds numbers d) d (parent_of kind spot d) (members_of kind) (n + 1)) (λ ps. Ok (node_of kind d id ps))

pub no_kind : (numbers : Numbers) (d : Data) (spot : Spot) (n : ℕ) (e : ReadError) → Tells e (kind_of d spot n) → Tells e (read numbers d spot n)
no_kind numbers d spot n e t = tells_by e (read_is numbers d spot n) (tells_first e (kind_of d spot n) _ t)

pub no_number : (numbers : Numbers) (d : Data) (spot : Spot) (n : ℕ) (kind : Kind) (e : ReadError) → kind_of d spot n ≡ Ok kind → Tells e (number_of numbers d kind n) → Tells e (read numbers d spot n)
no_number numbers d spot n kind e is t = tells_by e (read_is numbers d spot n) (tells_then e (kind_of d spot n) kind _ is (tells_first e (number_of numbers d kind n) _ t))

pub no_members_read : (numbers : Numbers) (d : Data) (spot : Spot) (n : ℕ) (kind : Kind) (id : ℕ) (parent : Parent) (e : ReadError) → kind_of d spot n ≡ Ok kind → number_of numbers d kind n ≡ Ok id → parent ≡ parent_of kind spot d
    → Tells e (members_in (finds numbers d) d parent (members_of parent.kind) (n + 1)) → Tells e (read numbers d spot n)
no_members_read numbers d spot n kind id parent e is has of t =
    let there : Tells e (members_in (finds numbers d) d (parent_of kind spot d) (members_of kind) (n + 1)) = subst (λ (p : Parent). Tells e (members_in (finds numbers d) d p (members_of p.kind) (n + 1))) of t in
    tells_by e (read_is numbers d spot n) (tells_then e (kind_of d spot n) kind _ is (tells_then e (number_of numbers d kind n) id _ has (tells_first e _ _ there)))

joined_added : (xs ys zs own : List ℕ) (mid after : List ℕ) → mid ≡ xs ++ own → after ≡ mid ++ zs → after ≡ xs ++ (own ++ zs)
joined_added xs ys zs own mid after m a = a ∙ ap (λ ks. ks ++ zs) m ∙ append_assoc xs own zs

pub node_read : (numbers : Numbers) (d : Data) (spot : Spot) (n : ℕ) (kind : Kind) (id : ℕ) (parent : Parent) (ps : Parts) (t : Tree) (first mid last : List ℕ)
    → kind_of d spot n ≡ Ok kind → number_of numbers d kind n ≡ Ok id → parent ≡ parent_of kind spot d → mid ≡ first ++ own_number (is_foreign_node kind d) id
    → Gives (members_in (finds numbers d) d parent (members_of parent.kind) (n + 1)) ps mid last → t ≡ Node kind id (span_at d) None ps
    → Gives (read numbers d spot n) t first last
node_read numbers d spot n kind id parent ps t first mid last is has of noted g e =
    let there : Gives (members_in (finds numbers d) d (parent_of kind spot d) (members_of kind) (n + 1)) ps mid last = subst (λ (p : Parent). Gives (members_in (finds numbers d) d p (members_of p.kind) (n + 1)) ps mid last) of g in
    record {
      added = own_number (is_foreign_node kind d) id ++ there.added;
      reads =
          read_is numbers d spot n
          ∙ ap (λ r. bind r (λ k. bind (number_of numbers d k n) (λ i. bind (members_in (finds numbers d) d (parent_of k spot d) (members_of k) (n + 1)) (λ qs. Ok (node_of k d i qs))))) is
          ∙ ap (λ r. bind r (λ i. bind (members_in (finds numbers d) d (parent_of kind spot d) (members_of kind) (n + 1)) (λ qs. Ok (node_of kind d i qs)))) has
          ∙ ap (λ r. bind r (λ qs. Ok (node_of kind d id qs))) there.reads
          ∙ ap (λ u. Ok (record { value = u; foreign = own_number (is_foreign_node kind d) id ++ there.added })) (sym e);
      adds = joined_added first [] there.added (own_number (is_foreign_node kind d) id) mid last noted there.adds;
    }

-- ---- one after another

abbrev pub joined : Parts → Parts → Parts
joined end qs = qs
joined (more p ps) qs = more p (joined ps qs)

joined_end : (ps : Parts) → joined ps end ≡ ps
joined_end end = refl
joined_end (more p ps) = ap (more p) (joined_end ps)

joined_more : (ps : Parts) (p : Part) (qs : Parts) → joined ps (more p qs) ≡ joined (joined ps (more p end)) qs
joined_more end p qs = refl
joined_more (more q ps) p qs = ap (more q) (joined_more ps p qs)

-- parts, children, and children that may be absent, with one more at the end
pub pushed : (xs ys : List code.Part) (x : code.Part) → ys ≡ xs ++ x ∷ [] → parts_of ys ≡ joined (parts_of xs) (more (part_of x) end)
pushed xs ys x is = ap parts_of is ∙ pushed_on xs x where
  pushed_on : (xs : List code.Part) (x : code.Part) → parts_of (xs ++ x ∷ []) ≡ joined (parts_of xs) (more (part_of x) end)
  pushed_on [] x = refl
  pushed_on (y ∷ xs) x = ap (more (part_of y)) (pushed_on xs x)

pub node_pushed : (xs ys : List Tree) (x : Tree) → ys ≡ xs ++ x ∷ [] → trees ys ≡ joined (trees xs) (more (child x) end)
node_pushed xs ys x is = ap trees is ∙ pushed_on xs x where
  pushed_on : (xs : List Tree) (x : Tree) → trees (xs ++ x ∷ []) ≡ joined (trees xs) (more (child x) end)
  pushed_on [] x = refl
  pushed_on (y ∷ xs) x = ap (more (child y)) (pushed_on xs x)

pub nullable_pushed : (xs ys : List (Option Tree)) (x : Option Tree) → ys ≡ xs ++ x ∷ [] → nullable_trees ys ≡ joined (nullable_trees xs) (more (nullable x) end)
nullable_pushed xs ys x is = ap nullable_trees is ∙ pushed_on xs x where
  pushed_on : (xs : List (Option Tree)) (x : Option Tree) → nullable_trees (xs ++ x ∷ []) ≡ joined (nullable_trees xs) (more (nullable x) end)
  pushed_on [] x = refl
  pushed_on (y ∷ xs) x = ap (more (nullable y)) (pushed_on xs x)

pub nodes_joined : (ps : Parts) (p : Part) → nodes_of (joined ps (more p end)) ≡ nodes_of ps + nodes_of_part p
nodes_joined end p = omega arith
nodes_joined (more q ps) p = omega (arith, nodes_joined ps p)

abbrev pub behind : Parts → List ℕ → Result (Read Parts) Fault → Result (Read Parts) Fault
behind ps fs r = bind r (λ q. Ok (record { value = joined ps q.value; foreign = fs ++ q.foreign }))

-- the whole is what was read, and behind it the rest
pub record Begun (whole rest : Result (Read Parts) Fault) (ps : Parts) (first now : List ℕ) : Type 0 where
  pub added : List ℕ
  pub reads : whole ≡ behind ps added rest
  pub adds : now ≡ first ++ added

nothing_yet : (r : Result (Read Parts) Fault) → r ≡ behind end [] r
nothing_yet (Ok x) = refl
nothing_yet (Err f) = refl

pub begun : (r : Result (Read Parts) Fault) (first : List ℕ) → Begun r r end first first
begun r first = record { added = []; reads = nothing_yet r; adds = sym (append-nil first) }

pub begun_at : (r : Result (Read Parts) Fault) (ps : Parts) (first : List ℕ) → ps ≡ end → Begun r r ps first first
begun_at r ps first none = subst (λ (qs : Parts). Begun r r qs first first) (sym none) (begun r first)

one_behind : (ps : Parts) (fs : List ℕ) (p : Part) (gs : List ℕ) (r : Result (Read Parts) Fault)
    → behind ps fs (bind r (λ qs. Ok (put_before (record { value = p; foreign = gs }) qs))) ≡ behind (joined ps (more p end)) (fs ++ gs) r
one_behind ps fs p gs (Ok q) = ap₂ (λ v f. Ok (record { value = v; foreign = f })) (joined_more ps p q.value) (sym (append_assoc fs gs q.foreign))
one_behind ps fs p gs (Err f) = refl

pub one_on : {X : Type 0} (one : X → List X → ℕ → Result (Read Part) Fault) (x : X) (xs all : List X) (n m : ℕ) (whole : Result (Read Parts) Fault) (ps qs : Parts) (p : Part) (first now later : List ℕ)
    → all ≡ x ∷ xs → Begun whole (each one all n) ps first now → Gives (one x xs n) p now later → m ≡ n + nodes_of_part p → qs ≡ joined ps (more p end) → Begun whole (each one xs m) qs first later
one_on one x xs all n m whole ps qs p first now later here b g next put = record {
  added = b.added ++ g.added;
  reads =
      b.reads
      ∙ ap (λ ys. behind ps b.added (each one ys n)) here
      ∙ ap (λ r. behind ps b.added (bind r (λ q. bind (each one xs (n + nodes_of_part q.value)) (λ rs. Ok (put_before q rs))))) g.reads
      ∙ ap (λ k. behind ps b.added (bind (each one xs k) (λ rs. Ok (put_before (record { value = p; foreign = g.added }) rs)))) (sym next)
      ∙ one_behind ps b.added p g.added (each one xs m)
      ∙ ap (λ z. behind z (b.added ++ g.added) (each one xs m)) (sym put);
  adds = g.adds ∙ ap (λ ks. ks ++ g.added) b.adds ∙ append_assoc first b.added g.added;
}

pub all_read : {X : Type 0} (one : X → List X → ℕ → Result (Read Part) Fault) (rest : List X) (n : ℕ) (whole : Result (Read Parts) Fault) (ps : Parts) (first now : List ℕ)
    → rest ≡ [] → Begun whole (each one rest n) ps first now → Gives whole ps first now
all_read one rest n whole ps first now none b = record {
  added = b.added;
  reads = b.reads ∙ ap (λ ys. behind ps b.added (each one ys n)) none ∙ ap₂ (λ v f. Ok (record { value = v; foreign = f })) (joined_end ps) (append-nil b.added);
  adds = b.adds;
}

pub one_fails : {X : Type 0} (one : X → List X → ℕ → Result (Read Part) Fault) (x : X) (xs all : List X) (n : ℕ) (whole : Result (Read Parts) Fault) (ps : Parts) (first now : List ℕ) (e : ReadError)
    → all ≡ x ∷ xs → Begun whole (each one all n) ps first now → Tells e (one x xs n) → Tells e whole
one_fails one x xs all n whole ps first now e here b t =
    tells_by e (b.reads ∙ ap (λ ys. behind ps b.added (each one ys n)) here) (tells_first e _ _ (tells_first e (one x xs n) _ t))

-- ---- children and lists

pub child_read : (r : Result (Read Tree) Fault) (s : Result (Read Part) Fault) (t : Tree) (p : Part) (first last : List ℕ) → s ≡ as_child r → p ≡ child t → Gives r t first last → Gives s p first last
child_read r s t p first last is e g = record {
  added = g.added;
  reads = is ∙ ap as_child g.reads ∙ ap (λ q. Ok (record { value = q; foreign = g.added })) (sym e);
  adds = g.adds;
}

pub list_read : (r : Result (Read Parts) Fault) (s : Result (Read Part) Fault) (ps : Parts) (p : Part) (first last : List ℕ) → s ≡ as_list r → p ≡ list ps → Gives r ps first last → Gives s p first last
list_read r s ps p first last is e g = record {
  added = g.added;
  reads = is ∙ ap as_list g.reads ∙ ap (λ q. Ok (record { value = q; foreign = g.added })) (sym e);
  adds = g.adds;
}

pub alone_read : (s : Result (Read Part) Fault) (q p : Part) (first last : List ℕ) → s ≡ alone q → p ≡ q → last ≡ first → Gives s p first last
alone_read s q p first last is e same = record {
  added = [];
  reads = is ∙ ap alone (sym e);
  adds = same ∙ sym (append-nil first);
}

-- ---- a loop

pub counted_on : (at next later : ℕ) (ps qs : Parts) (p : Part) → next ≡ at + nodes_of ps → later ≡ next + nodes_of_part p → qs ≡ joined ps (more p end) → later ≡ at + nodes_of qs
counted_on at next later ps qs p before more_of put = let all = ap nodes_of put ∙ nodes_joined ps p in omega (arith, before, more_of, all)

one_of_more : (n : ℕ) → false ≡ nat_eq 1 (suc (suc n))
one_of_more n = grind (arith, nat_tests)

both_less : (m n : ℕ) → nat_eq m n ≡ nat_eq (suc m) (suc n)
both_less m n = same_from_decides _ _ (Decides-eqb m n) ((λ t. let same : suc m ≡ suc n = (Decides-eqb (suc m) (suc n)).0 t in omega (arith, same)), (λ e. (Decides-eqb (suc m) (suc n)).1 (ap suc e)))

last_at : (vs : List Value) (i : ℕ) → i < length vs → is_last (drop (suc i) vs) ≡ nat_eq (suc i) (length vs)
last_at [] i l = absurd (omega arith)
last_at (v ∷ []) zero l = refl
last_at (v ∷ w ∷ vs) zero l = one_of_more (length vs)
last_at (v ∷ vs) (suc i) l = last_at vs i (omega arith) ∙ both_less (suc i) (length vs)

last_of : (vs : List Value) (i : ℕ) → i < length vs → is_last (drop (i + 1) vs) ≡ nat_eq (i + 1) (length vs)
last_of vs i l =
    let next : suc i ≡ i + 1 = omega arith in
    subst (λ (k : ℕ). is_last (drop k vs) ≡ nat_eq k (length vs)) next (last_at vs i l)

pub at_slot : (numbers : Numbers) (slots : Slots) (vs : List Value) (i : ℕ) (v : Value) (b : Bool) (spot : Spot) (n : ℕ) → i < length vs → b ≡ nat_eq (i + 1) (length vs) → spot ≡ slot slots b
    → (reader_of numbers (view v)).item slots.holes spot n ≡ item_in numbers slots v (drop (i + 1) vs) n
at_slot numbers slots vs i v b spot n l e is = ap (λ s. (reader_of numbers (view v)).item slots.holes s n) (is ∙ ap (slot slots) (e ∙ sym (last_of vs i l)))

pub gives_by : {T : Type 0} {r s : Result (Read T) Fault} {x : T} {first last : List ℕ} → s ≡ r → Gives r x first last → Gives s x first last
gives_by is g = record { added = g.added; reads = is ∙ g.reads; adds = g.adds }

-- a member that holds no nodes
pub leaf_member : (find : List ℕ → Option Reader) (d : Data) (parent : Parent) (name : List ℕ) (sort : Sort) (n : ℕ) → holds_nodes sort ≡ false → member_of find d parent name sort n ≡ alone (leaf_of d name sort)
leaf_member find d parent name (Sort.Child p) n h = absurd (cc)
leaf_member find d parent name (Sort.Nullable p) n h = absurd (cc)
leaf_member find d parent name (Sort.Key p) n h = absurd (cc)
leaf_member find d parent name (Sort.List p) n h = absurd (cc)
leaf_member find d parent name (Sort.NonEmptyList p) n h = absurd (cc)
leaf_member find d parent name (Sort.ListWithHoles p) n h = absurd (cc)
leaf_member find d parent name Sort.Name n h = refl
leaf_member find d parent name _ n h = refl

pub no_nodes : (sort : Sort) → ((p : Place) → sort ≡ Sort.Child p → ⊥) → ((p : Place) → sort ≡ Sort.Key p → ⊥) → ((p : Place) → sort ≡ Sort.Nullable p → ⊥)
    → ((p : Place) → sort ≡ Sort.List p → ⊥) → ((p : Place) → sort ≡ Sort.NonEmptyList p → ⊥) → ((p : Place) → sort ≡ Sort.ListWithHoles p → ⊥) → holds_nodes sort ≡ false
no_nodes (Sort.Child p) a b c e f g = absurd (a p refl)
no_nodes (Sort.Key p) a b c e f g = absurd (b p refl)
no_nodes (Sort.Nullable p) a b c e f g = absurd (c p refl)
no_nodes (Sort.List p) a b c e f g = absurd (e p refl)
no_nodes (Sort.NonEmptyList p) a b c e f g = absurd (f p refl)
no_nodes (Sort.ListWithHoles p) a b c e f g = absurd (g p refl)
no_nodes Sort.Name a b c e f g = refl
no_nodes _ a b c e f g = refl

string_nodes : (t : Option (List ℕ)) → nodes_of_part (nullable_string t) ≡ 0
string_nodes None = refl
string_nodes (Some s) = refl

literal_nodes : (v : Option LiteralValue) → nodes_of_part (literal_part v) ≡ 0
literal_nodes None = refl
literal_nodes (Some v) = refl

pub leaf_nodes : (d : Data) (name : List ℕ) (sort : Sort) → nodes_of_part (leaf_of d name sort) ≡ 0
leaf_nodes d name Sort.Boolean = refl
leaf_nodes d name Sort.False = refl
leaf_nodes d name Sort.Literal = literal_nodes _
leaf_nodes d name Sort.Raw = string_nodes _
leaf_nodes d name Sort.Cooked = string_nodes _
leaf_nodes d name _ = string_nodes _

-- a member of a row is within its bound
pub member_fits : (d : Data) (ms : List Member) (i : ℕ) (m : Member) (fs : List Field) (next at limit : ℕ) → i < length ms → next + values_at d (map field_of (drop i ms)) ≤ at + values_at d (map field_of ms)
    → map field_of ms ≡ fs → at + values_at d fs < limit → next + values_there (get (get_or ms i m).name.now d) < limit
member_fits d ms i m fs next at limit l bound is small =
    let here = ap (λ (xs : List Member). values_at d (map field_of xs)) (drop_more ms i m l) in
    omega (arith, here, ap (values_at d) is, bound, small)

-- an item of a list without holes is a node
pub item_gives : (numbers : Numbers) (d : Data) (holes : Bool) (spot : Spot) (n : ℕ) (t : Tree) (first last : List ℕ) → holes ≡ false → Gives (read numbers d spot n) t first last → Gives ((reader_of numbers d).item holes spot n) (child t) first last
item_gives numbers d holes spot n t first last is g =
    subst (λ (b : Bool). Gives ((reader_of numbers d).item b spot n) (child t) first last) (sym is) (child_read (read numbers d spot n) (as_child (read numbers d spot n)) t (child t) first last refl refl g)

pub item_tells : (numbers : Numbers) (d : Data) (holes : Bool) (spot : Spot) (n : ℕ) (e : ReadError) → holes ≡ false → Tells e (read numbers d spot n) → Tells e ((reader_of numbers d).item holes spot n)
item_tells numbers d holes spot n e is t = subst (λ (b : Bool). Tells e ((reader_of numbers d).item b spot n)) (sym is) (tells_first e (read numbers d spot n) _ t)

-- an item of a list with holes may be none
pub hole_gives : (numbers : Numbers) (d : Data) (holes : Bool) (spot : Spot) (n : ℕ) (p : Part) (first last : List ℕ) → holes ≡ true → Gives ((reader_of numbers d).item true spot n) p first last → Gives ((reader_of numbers d).item holes spot n) p first last
hole_gives numbers d holes spot n p first last is g = subst (λ (b : Bool). Gives ((reader_of numbers d).item b spot n) p first last) (sym is) g

pub hole_tells : (numbers : Numbers) (d : Data) (holes : Bool) (spot : Spot) (n : ℕ) (e : ReadError) → holes ≡ true → Tells e ((reader_of numbers d).item true spot n) → Tells e ((reader_of numbers d).item holes spot n)
hole_tells numbers d holes spot n e is t = subst (λ (b : Bool). Tells e ((reader_of numbers d).item b spot n)) (sym is) t

-- ---- shapes

abbrev pub Shaped : List Field → List code.Part → List Field → Type 0
Shaped all ps left = (qs : List code.Part) → have_shapes left qs ≡ true → have_shapes all (ps ++ qs) ≡ true

pub shaped_none : (fs : List Field) (ps : List code.Part) → ps ≡ [] → Shaped fs ps fs
shaped_none fs ps none qs h = ap (λ (xs : List code.Part). have_shapes fs (xs ++ qs)) none ∙ h

pub shaped_on : (all left gs : List Field) (f : Field) (ps later : List code.Part) (p : code.Part) → left ≡ f ∷ gs → Shaped all ps left → has_shape f.sort p ≡ true → later ≡ ps ++ p ∷ [] → Shaped all later gs
shaped_on all left gs f ps later p is before here put qs h =
    ap (λ (xs : List code.Part). have_shapes all (xs ++ qs)) put
    ∙ ap (have_shapes all) (append_assoc ps (p ∷ []) qs)
    ∙ before (p ∷ qs) (ap (λ (fs : List Field). have_shapes fs (p ∷ qs)) is ∙ both _ _ here h)

pub shaped_all : (all left : List Field) (ps : List code.Part) → left ≡ [] → Shaped all ps left → have_shapes all ps ≡ true
shaped_all all left ps none before = ap (have_shapes all) (sym (append-nil ps)) ∙ before [] (ap (λ (fs : List Field). have_shapes fs []) none)

-- the members that are left are good, and so is the first of them
pub good_here : (d : Data) (f : Field) (fs all : List Field) → all ≡ f ∷ fs → are_of_sorts d all ≡ true → is_of_sort d f.name f.sort ≡ true
good_here d f fs all is h = left_of _ _ (sym (ap (are_of_sorts d) is) ∙ h)

pub good_rest : (d : Data) (f : Field) (fs all : List Field) → all ≡ f ∷ fs → are_of_sorts d all ≡ true → are_of_sorts d fs ≡ true
good_rest d f fs all is h = right_of (is_of_sort d f.name f.sort) _ (sym (ap (are_of_sorts d) is) ∙ h)
