-- The semantic ids on the nodes of a built tree: that of each node that may bear one is the number of its entry.
use Rattle.std.proofs.Common.{◌≡◌, refl, sym, ap, subst, ◌∙◌, ℕ, suc, ◌+◌, inl, inr, List, [], ◌∷◌, ◌++◌, append_assoc, map, length, nat_eq, Bool, true, false, true≢false, cond, Option, Some, None, arith}
use Rattle.std.specs.Prelude.{option_to_list}
use Rattle.std.specs.List.{IsDistinct}
use Rattle.std.proofs.lemmas.Bool.Decides.{Decides-eqb}
use Rattle.std.proofs.lemmas.List.{append-nil, map-append, length-append}
use Rattle.es_base.specs.Numbered.{numbers, EachOnce}
use Rattle.es_base.specs.Preorder.{preorder, preorder_of, preorder_of_part, number_of, one_if}
use Rattle.es_base.specs.Tree.{Tree, Part, Parts, Node, end, more, child, absent, list, string, no_string, boolean, literal}
use Rattle.es_base.specs.declared.kind.Kind.{Kind}
use Rattle.es_node.specs.Bearing.{bears_semantic_id}
use Rattle.es_scopes.specs.Agreement.{carried_by, carried}
use Rattle.es_scopes.specs.Built.{built_table}
use Rattle.es_scopes.specs.Entries.{Collected, binding, entry_of, entered, collected, collected_parts, collected_part, collected_items, nothing_yet, entries_of}
use Rattle.es_scopes.specs.NodeScopes.{opens, has_scope, is_strict, scope_flags}
use Rattle.es_scopes.specs.Shown.{ids_from}
use Rattle.es_scopes.specs.Surroundings.{scope_place, inside, nowhere}
use Rattle.es_scopes.specs.Table.{Table}
use Rattle.es_scopes.specs.Tables.{held_symbol, numbering_of}
use Rattle.es_scopes.specs.declared.entry.Entry.{Entry}
use Rattle.es_scopes.specs.declared.entry.Entry.TheVariants as entry
use Rattle.es_scopes.specs.declared.flags.ScopeFlags.{ScopeFlags}
use Rattle.es_scopes.specs.declared.surroundings.Declares.{Declares}
use Rattle.es_scopes.specs.declared.surroundings.Declares.TheVariants as declares
use Rattle.es_scopes.specs.declared.surroundings.Surroundings.{Surroundings}
use Rattle.es_scopes.proofs.NumberShown.{ids-built}
use Rattle.es_scopes_law.specs.Build.{built_tree}
use Rattle.es_scopes_law.specs.Written.{bearers, bearers_of, bearers_of_part, id_at, written, written_part, written_parts}
use Rattle.es_scopes_law.proofs.Lists.{In, in-left, in-right, in-cases, in-map}
use Rattle.es_steps.specs.Parts.{at, string_of}

abbrev pub node_of : Entry → ℕ
node_of (entry.Scope node parent in_parameters flags) = node.0
node_of (entry.Body node) = node.0
node_of (entry.Binding node holder who name flags head) = node.0
node_of (entry.Reference node scope in_parameters name flags) = node.0

abbrev pub nodes_in : List Entry → List ℕ
nodes_in es = map node_of es

-- each entry's node, with the id of the entry
abbrev pub given : Table → ℕ → ℕ → List Entry → List (ℕ × Option ℕ)
given t n r [] = []
given t n r (entry.Scope node parent in_parameters flags ∷ es) = (node.0, Some n) ∷ given t (n + 1) r es
given t n r (entry.Body node ∷ es) = (node.0, None) ∷ given t n r es
given t n r (entry.Binding node holder who name flags head ∷ es) = (node.0, held_symbol t holder name) ∷ given t n r es
given t n r (entry.Reference node scope in_parameters name flags ∷ es) = (node.0, Some r) ∷ given t n (r + 1) es

-- the nodes of a tree that may bear an id, with it
abbrev mutual
  pub bearing : Tree → List (ℕ × Option ℕ)
  bearing (Node kind m span id ps) = cond (bears_semantic_id kind) ((m, id) ∷ []) [] ++ bearing_parts ps

  pub bearing_part : Part → List (ℕ × Option ℕ)
  bearing_part (child t) = bearing t
  bearing_part absent = []
  bearing_part (list ps) = bearing_parts ps
  bearing_part (string s) = []
  bearing_part no_string = []
  bearing_part (boolean b) = []
  bearing_part (literal v) = []

  pub bearing_parts : Parts → List (ℕ × Option ℕ)
  bearing_parts end = []
  bearing_parts (more p ps) = bearing_part p ++ bearing_parts ps

abbrev firsts : List (ℕ × Option ℕ) → List ℕ
firsts xs = map (λ (x : ℕ × Option ℕ). x.0) xs

firsts-append : (xs ys : List (ℕ × Option ℕ)) → firsts (xs ++ ys) ≡ firsts xs ++ firsts ys
firsts-append xs ys = map-append (λ (x : ℕ × Option ℕ). x.0) xs ys

length-firsts : (xs : List (ℕ × Option ℕ)) → length (firsts xs) ≡ length xs
length-firsts [] = refl
length-firsts (x ∷ xs) = ap suc (length-firsts xs)

-- ---- the nodes of the entries of a tree

nodes-append : (es fs : List Entry) → nodes_in (es ++ fs) ≡ nodes_in es ++ nodes_in fs
nodes-append es fs = map-append node_of es fs

own-node : (kind : Kind) (m : ℕ) (id : Option ℕ) (ps : Parts) (s : Surroundings) → nodes_in (option_to_list (entry_of kind (record { 0 = m }) ps s)) ≡ firsts (cond (bears_semantic_id kind) ((m, id) ∷ []) [])
own-node Kind.IdentifierReference m id ps s = refl
own-node Kind.BindingIdentifier m id ps s = of_binding s.declares
  where
    of_binding : (d : Declares) → nodes_in (binding d (record { 0 = m }) (string_of (at 0 ps)) s ∷ []) ≡ m ∷ []
    of_binding declares.Nothing = refl
    of_binding (declares.Statement lexical var) = refl
    of_binding (declares.Body q) = refl
    of_binding (declares.Pattern holder who) = refl
own-node kind m id ps s = of_scope (has_scope kind) (opens kind (scope_place s)) (scope_flags kind s.given.0 (is_strict kind ps (scope_place s)))
  where
    of_scope : (a b : Bool) (f : ScopeFlags) → nodes_in (option_to_list (cond a (Some (cond b (entry.Scope (record { 0 = m }) s.scope s.in_parameters f) (entry.Body (record { 0 = m })))) None)) ≡ firsts (cond a ((m, id) ∷ []) [])
    of_scope true true f = refl
    of_scope true false f = refl
    of_scope false b f = refl

joined : (c xs ys : List ℕ) → (c ++ xs) ++ ys ≡ c ++ (xs ++ ys)
joined c xs ys = append_assoc c xs ys

mutual
  nodes-collected : (s : Surroundings) (c : Collected) (t : Tree) → nodes_in (collected s c t).entries ≡ nodes_in c.entries ++ firsts (bearing t)
  nodes-collected s c (Node kind m span id ps) =
      nodes-parts (inside kind (record { 0 = c.next }) ps s) 0 (entered kind (record { 0 = m }) ps s c) ps
      ∙ ap (λ l. l ++ firsts (bearing_parts ps)) (nodes-append c.entries (option_to_list (entry_of kind (record { 0 = m }) ps s)) ∙ ap (λ l. nodes_in c.entries ++ l) (own-node kind m id ps s))
      ∙ joined (nodes_in c.entries) (firsts (cond (bears_semantic_id kind) ((m, id) ∷ []) [])) (firsts (bearing_parts ps))
      ∙ ap (λ l. nodes_in c.entries ++ l) (sym (firsts-append (cond (bears_semantic_id kind) ((m, id) ∷ []) []) (bearing_parts ps)))

  nodes-parts : (f : ℕ → Surroundings) (i : ℕ) (c : Collected) (ps : Parts) → nodes_in (collected_parts f i c ps).entries ≡ nodes_in c.entries ++ firsts (bearing_parts ps)
  nodes-parts f i c end = sym (append-nil (nodes_in c.entries))
  nodes-parts f i c (more p ps) =
      nodes-parts f (i + 1) (collected_part (f i) c p) ps
      ∙ ap (λ l. l ++ firsts (bearing_parts ps)) (nodes-part (f i) c p)
      ∙ joined (nodes_in c.entries) (firsts (bearing_part p)) (firsts (bearing_parts ps))
      ∙ ap (λ l. nodes_in c.entries ++ l) (sym (firsts-append (bearing_part p) (bearing_parts ps)))

  nodes-part : (s : Surroundings) (c : Collected) (p : Part) → nodes_in (collected_part s c p).entries ≡ nodes_in c.entries ++ firsts (bearing_part p)
  nodes-part s c (child t) = nodes-collected s c t
  nodes-part s c absent = sym (append-nil (nodes_in c.entries))
  nodes-part s c (list ps) = nodes-items s c ps
  nodes-part s c (string b) = sym (append-nil (nodes_in c.entries))
  nodes-part s c no_string = sym (append-nil (nodes_in c.entries))
  nodes-part s c (boolean b) = sym (append-nil (nodes_in c.entries))
  nodes-part s c (literal v) = sym (append-nil (nodes_in c.entries))

  nodes-items : (s : Surroundings) (c : Collected) (ps : Parts) → nodes_in (collected_items s c ps).entries ≡ nodes_in c.entries ++ firsts (bearing_parts ps)
  nodes-items s c end = sym (append-nil (nodes_in c.entries))
  nodes-items s c (more p ps) =
      nodes-items s (collected_part s c p) ps
      ∙ ap (λ l. l ++ firsts (bearing_parts ps)) (nodes-part s c p)
      ∙ joined (nodes_in c.entries) (firsts (bearing_part p)) (firsts (bearing_parts ps))
      ∙ ap (λ l. nodes_in c.entries ++ l) (sym (firsts-append (bearing_part p) (bearing_parts ps)))

pub nodes-entries : (t : Tree) → nodes_in (entries_of t) ≡ firsts (bearing t)
nodes-entries t = nodes-collected nowhere nothing_yet t

-- ---- written ids

-- nodes with the ids from the k-th on
abbrev paired : List (Option ℕ) → ℕ → List ℕ → List (ℕ × Option ℕ)
paired ids k [] = []
paired ids k (m ∷ ms) = (m, id_at ids k) ∷ paired ids (k + 1) ms

paired-append : (ids : List (Option ℕ)) (k : ℕ) (xs ys : List ℕ) → paired ids k (xs ++ ys) ≡ paired ids k xs ++ paired ids (k + length xs) ys
paired-append ids k [] ys = let same : k ≡ k + 0 = omega arith in ap (λ (n : ℕ). paired ids n ys) same
paired-append ids k (x ∷ xs) ys = ap (λ l. (x, id_at ids k) ∷ l) (paired-append ids (k + 1) xs ys ∙ (let same : (k + 1) + length xs ≡ k + suc (length xs) = omega arith in ap (λ (n : ℕ). paired ids (k + 1) xs ++ paired ids n ys) same))

mutual
  many-bearing : (t : Tree) → length (bearing t) ≡ bearers t
  many-bearing (Node kind m span id ps) = omega (arith, length-append {A = ℕ × Option ℕ} (cond (bears_semantic_id kind) ((m, id) ∷ []) []) (bearing_parts ps), of_own (bears_semantic_id kind), many-parts ps)
    where
      of_own : (b : Bool) → length {A = ℕ × Option ℕ} (cond b ((m, id) ∷ []) []) ≡ one_if b
      of_own true = refl
      of_own false = refl

  many-part : (p : Part) → length (bearing_part p) ≡ bearers_of_part p
  many-part (child t) = many-bearing t
  many-part absent = refl
  many-part (list ps) = many-parts ps
  many-part (string b) = refl
  many-part no_string = refl
  many-part (boolean b) = refl
  many-part (literal v) = refl

  many-parts : (ps : Parts) → length (bearing_parts ps) ≡ bearers_of ps
  many-parts end = refl
  many-parts (more p ps) = omega (arith, length-append (bearing_part p) (bearing_parts ps), many-part p, many-parts ps)

own-written : (b : Bool) (ids : List (Option ℕ)) (k m : ℕ) (id : Option ℕ) → cond b ((m, cond b (id_at ids k) id) ∷ []) [] ≡ paired ids k (firsts (cond b ((m, id) ∷ []) []))
own-written true ids k m id = refl
own-written false ids k m id = refl

length-own : (b : Bool) (m : ℕ) (id : Option ℕ) → length (firsts (cond b ((m, id) ∷ []) [])) ≡ one_if b
length-own true m id = refl
length-own false m id = refl

paired-joined : (ids : List (Option ℕ)) (k n : ℕ) (xs ys : List (ℕ × Option ℕ)) → length (firsts xs) ≡ n → paired ids k (firsts xs) ++ paired ids (k + n) (firsts ys) ≡ paired ids k (firsts (xs ++ ys))
paired-joined ids k n xs ys is = ap (λ (j : ℕ). paired ids k (firsts xs) ++ paired ids (k + j) (firsts ys)) (sym is) ∙ sym (paired-append ids k (firsts xs) (firsts ys)) ∙ ap (paired ids k) (sym (firsts-append xs ys))

mutual
  bearing-written : (ids : List (Option ℕ)) (k : ℕ) (t : Tree) → bearing (written ids k t) ≡ paired ids k (firsts (bearing t))
  bearing-written ids k (Node kind m span id ps) =
      (λ i. own-written (bears_semantic_id kind) ids k m id i ++ parts-written ids (k + one_if (bears_semantic_id kind)) ps i)
      ∙ paired-joined ids k (one_if (bears_semantic_id kind)) (cond (bears_semantic_id kind) ((m, id) ∷ []) []) (bearing_parts ps) (length-own (bears_semantic_id kind) m id)

  part-written : (ids : List (Option ℕ)) (k : ℕ) (p : Part) → bearing_part (written_part ids k p) ≡ paired ids k (firsts (bearing_part p))
  part-written ids k (child t) = bearing-written ids k t
  part-written ids k absent = refl
  part-written ids k (list ps) = parts-written ids k ps
  part-written ids k (string b) = refl
  part-written ids k no_string = refl
  part-written ids k (boolean b) = refl
  part-written ids k (literal v) = refl

  parts-written : (ids : List (Option ℕ)) (k : ℕ) (ps : Parts) → bearing_parts (written_parts ids k ps) ≡ paired ids k (firsts (bearing_parts ps))
  parts-written ids k end = refl
  parts-written ids k (more p ps) =
      (λ i. part-written ids k p i ++ parts-written ids (k + bearers_of_part p) ps i)
      ∙ paired-joined ids k (bearers_of_part p) (bearing_part p) (bearing_parts ps) (length-firsts (bearing_part p) ∙ many-part p)

-- the ids of entries, one by one
paired-later : (id : Option ℕ) (ids : List (Option ℕ)) (k : ℕ) (ms : List ℕ) → paired (id ∷ ids) (suc k) ms ≡ paired ids k ms
paired-later id ids k [] = refl
paired-later id ids k (m ∷ ms) = ap (λ l. (m, id_at ids k) ∷ l) ((let same : suc k + 1 ≡ suc (k + 1) = omega arith in ap (λ (j : ℕ). paired (id ∷ ids) j ms) same) ∙ paired-later id ids (k + 1) ms)

paired-first : (id : Option ℕ) (ids : List (Option ℕ)) (m : ℕ) (ms : List ℕ) → paired (id ∷ ids) 0 (m ∷ ms) ≡ (m, id) ∷ paired ids 0 ms
paired-first id ids m ms = ap (λ l. (m, id) ∷ l) (paired-later id ids 0 ms)

given-paired : (t : Table) (n r : ℕ) (es : List Entry) → paired (ids_from t n r es) 0 (nodes_in es) ≡ given t n r es
given-paired t n r [] = refl
given-paired t n r (entry.Scope node parent in_parameters flags ∷ es) = paired-first (Some n) (ids_from t (n + 1) r es) node.0 (nodes_in es) ∙ ap (λ l. (node.0, Some n) ∷ l) (given-paired t (n + 1) r es)
given-paired t n r (entry.Body node ∷ es) = paired-first None (ids_from t n r es) node.0 (nodes_in es) ∙ ap (λ l. (node.0, None) ∷ l) (given-paired t n r es)
given-paired t n r (entry.Binding node holder who name flags head ∷ es) = paired-first (held_symbol t holder name) (ids_from t n r es) node.0 (nodes_in es) ∙ ap (λ l. (node.0, held_symbol t holder name) ∷ l) (given-paired t n r es)
given-paired t n r (entry.Reference node scope in_parameters name flags ∷ es) = paired-first (Some r) (ids_from t n (r + 1) es) node.0 (nodes_in es) ∙ ap (λ l. (node.0, Some r) ∷ l) (given-paired t n (r + 1) es)

pub bearing-built : (t : Tree) → bearing (built_tree t) ≡ given (built_table t) 0 0 (entries_of t)
bearing-built t =
    bearing-written (numbering_of (entries_of t)).ids 0 t
    ∙ ap (paired (numbering_of (entries_of t)).ids 0) (sym (nodes-entries t))
    ∙ ap (λ (ids : List (Option ℕ)). paired ids 0 (nodes_in (entries_of t))) (ids-built t)
    ∙ given-paired (built_table t) 0 0 (entries_of t)

-- ---- what a node carries

abbrev pair_of : Tree → ℕ × Option ℕ
pair_of (Node kind m span id ps) = (m, id)

own-in : (b : Bool) (m : ℕ) (id : Option ℕ) (x : ℕ × Option ℕ) → In x (cond b ((m, id) ∷ []) []) → (m, id) ≡ x
own-in true m id x (inl e) = e
own-in true m id x (inr e) = absurd e
own-in false m id x h = absurd h

mutual
  bearing-in : (x : ℕ × Option ℕ) (t : Tree) → In x (bearing t) → In x (map pair_of (preorder t))
  bearing-in x (Node kind m span id ps) h = elim (in-cases x (cond (bears_semantic_id kind) ((m, id) ∷ []) []) (bearing_parts ps) h) [
    | inl k ↦ inl (own-in (bears_semantic_id kind) m id x k)
    | inr k ↦ inr (parts-in x ps k)
  ]

  part-in : (x : ℕ × Option ℕ) (p : Part) → In x (bearing_part p) → In x (map pair_of (preorder_of_part p))
  part-in x (child t) h = bearing-in x t h
  part-in x absent h = absurd h
  part-in x (list ps) h = parts-in x ps h
  part-in x (string b) h = absurd h
  part-in x no_string h = absurd h
  part-in x (boolean b) h = absurd h
  part-in x (literal v) h = absurd h

  parts-in : (x : ℕ × Option ℕ) (ps : Parts) → In x (bearing_parts ps) → In x (map pair_of (preorder_of ps))
  parts-in x end h = absurd h
  parts-in x (more p ps) h = subst (In x) (sym (map-append pair_of (preorder_of_part p) (preorder_of ps))) (elim (in-cases x (bearing_part p) (bearing_parts ps) h) [
    | inl k ↦ in-left x (map pair_of (preorder_of_part p)) (map pair_of (preorder_of ps)) (part-in x p k)
    | inr k ↦ in-right x (map pair_of (preorder_of_part p)) (map pair_of (preorder_of ps)) (parts-in x ps k)
  ])

-- a number is that of none of these
abbrev pub Apart : ℕ → List ℕ → Type 0
Apart m ms = (n : ℕ) → In n ms → nat_eq m n ≡ false

pub distinct-first : (m : ℕ) (ms : List ℕ) → EachOnce (m ∷ ms) → Apart m ms
unfolding IsDistinct
distinct-first m [] h n k = absurd k
distinct-first m (x ∷ ms) h n (inl e) = ap (nat_eq m) (sym e) ∙ h.0.0
distinct-first m (x ∷ ms) h n (inr k) = distinct-first m ms (h.0.1, h.1.1) n k

pub distinct-rest : (m : ℕ) (ms : List ℕ) → EachOnce (m ∷ ms) → EachOnce ms
unfolding IsDistinct
distinct-rest m ms h = h.1

numbers-pairs : (ts : List Tree) → map (λ (x : ℕ × Option ℕ). x.0) (map pair_of ts) ≡ map number_of ts
numbers-pairs [] = refl
numbers-pairs (Node kind m span id ps ∷ ts) = ap (λ l. m ∷ l) (numbers-pairs ts)

pub eq-swap : (m n : ℕ) → nat_eq m n ≡ false → nat_eq n m ≡ false
eq-swap m n h = elim (nat_eq n m) as (λ b. nat_eq n m ≡ b → b ≡ false) [
  | true ↦ λ e. absurd (true≢false (sym ((Decides-eqb m n).1 (sym ((Decides-eqb n m).0 e))) ∙ h))
  | false ↦ λ e. refl
] refl

carried-of : (x : ℕ × Option ℕ) (ts : List Tree) → EachOnce (map number_of ts) → In x (map pair_of ts) → carried_by x.0 ts ≡ x.1
carried-of x [] once h = absurd h
carried-of x (Node kind m span id ps ∷ ts) once (inl e) =
    let same : x.0 ≡ m = ap (λ (y : ℕ × Option ℕ). y.0) (sym e) in
    ap (λ b. cond b id (carried_by x.0 ts)) ((Decides-eqb x.0 m).1 same) ∙ ap (λ (y : ℕ × Option ℕ). y.1) e
carried-of x (Node kind m span id ps ∷ ts) once (inr h) =
    let among : In x.0 (map number_of ts) = subst (In x.0) (numbers-pairs ts) (in-map (λ (y : ℕ × Option ℕ). y.0) x (map pair_of ts) h) in
    ap (λ b. cond b id (carried_by x.0 ts)) (eq-swap m x.0 (distinct-first m (map number_of ts) once x.0 among)) ∙ carried-of x ts (distinct-rest m (map number_of ts) once) h

pub carried-bearing : (t : Tree) (n : ℕ) (id : Option ℕ) → EachOnce (numbers t) → In (n, id) (bearing t) → carried t n ≡ id
carried-bearing t n id once h = carried-of (n, id) (preorder t) once (bearing-in (n, id) t h)
