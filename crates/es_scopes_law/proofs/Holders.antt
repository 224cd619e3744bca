-- The identifiers that declare in a scope, by the entries of a tree and by the names of the scope's node.
use Rattle.std.proofs.Common.{◌≡◌, refl, sym, ap, subst, ◌∙◌, ℕ, suc, ◌+◌, ◌<◌, ◌≤◌, ◌⊎◌, inl, inr, List, [], ◌∷◌, ◌++◌, map, nat_eq, Bool, true, false, true≢false, cond, ◌&&◌, Option, Some, None, arith}
use Rattle.std.specs.Prelude.{slice_get, bytes_eq}
use Rattle.std.proofs.lemmas.Bool.{and_parts}
use Rattle.std.proofs.lemmas.Bool.Decides.{Decides-eqb}
use Rattle.std.proofs.lemmas.Slice.Eq.{bytes_eq-Decides}
use Rattle.es_base.specs.Conforms.{conforms}
use Rattle.es_base.specs.Numbered.{numbers, EachOnce}
use Rattle.es_base.specs.Preorder.{preorder, preorder_of, preorder_of_part, number_of, one_if}
use Rattle.es_base.specs.Tree.{Tree, Part, Parts, Node, end, more, child, absent, list, string, no_string, boolean, literal}
use Rattle.es_base.specs.declared.ids.NodeId.{NodeId}
use Rattle.es_base.specs.declared.ids.ScopeId.{ScopeId}
use Rattle.es_base.specs.declared.kind.Kind.{Kind}
use Rattle.es_base.specs.declared.table.Place.{Place}
use Rattle.es_scopes.specs.Agreement.{names_of_node, own_name, names_in, names_held}
use Rattle.es_scopes.specs.Entries.{entries_of}
use Rattle.es_scopes.specs.Held.{weight, node_weight, parameter_names, other_names, held_weight}
use Rattle.es_scopes.specs.NodeScopes.{is_body_place}
use Rattle.es_scopes.specs.Opened.{opens_at, opened, opened_parts, opened_part, opened_items}
use Rattle.es_scopes.specs.declared.entry.Entry.{Entry}
use Rattle.es_scopes.specs.declared.entry.Entry.TheVariants as entry
use Rattle.es_scopes.specs.declared.flags.SymbolFlags.{SymbolFlags}
use Rattle.es_scopes.specs.declared.surroundings.Declarer.{Declarer}
use Rattle.es_scopes.specs.declared.surroundings.Declarer.TheVariants as declarer
use Rattle.es_scopes.proofs.EachScope.{each-program}
use Rattle.es_scopes.proofs.HeldTable.{names-by}
use Rattle.es_scopes_law.proofs.Borne.{eq-swap, distinct-first, distinct-rest}
use Rattle.es_scopes_law.proofs.Lists.{In, in-left, in-right, in-cases, in-map}
use Rattle.es_steps.specs.Scopes.{Declaration}

-- ---- an identifier of a scope, among entries

pub record Holder (s : ℕ) (es : List Entry) : Type 0 where
  pub node : NodeId
  pub who : Declarer
  pub name : List ℕ
  pub flags : SymbolFlags
  pub head : Bool
  pub among : In (entry.Binding node (Some (record { 0 = s })) who name flags head) es

module _ (w : Declarer → ℕ → List ℕ → ℕ) where
  -- one that weighs something
  pub record Weighs (s : ℕ) (es : List Entry) : Type 0 where
    pub holder : Holder s es
    pub weighs : 0 < w holder.who holder.node.0 holder.name

  later : (s : ℕ) (e : Entry) (es : List Entry) → Weighs s es → Weighs s (e ∷ es)
  later s e es x = record { holder = record { node = x.holder.node; who = x.holder.who; name = x.holder.name; flags = x.holder.flags; head = x.holder.head; among = inr x.holder.among }; weighs = x.weighs }

  sum-some : (a b : ℕ) → 0 < a + b → (0 < a) ⊎ (0 < b)
  sum-some a b h = grind arith

  here-or-later : (s : ℕ) (node : NodeId) (q : ScopeId) (who : Declarer) (name : List ℕ) (flags : SymbolFlags) (head : Bool) (es : List Entry) → 0 < cond (nat_eq q.0 s) (w who node.0 name) 0 → Weighs s (entry.Binding node (Some q) who name flags head ∷ es)
  here-or-later s node q who name flags head es h = elim (nat_eq q.0 s) as (λ b. nat_eq q.0 s ≡ b → 0 < cond b (w who node.0 name) 0 → Weighs s (entry.Binding node (Some q) who name flags head ∷ es)) [
    | true ↦ λ e k. record { holder = record { node = node; who = who; name = name; flags = flags; head = head; among = inl (ap (λ (n : ℕ). entry.Binding node (Some (record { 0 = n })) who name flags head) ((Decides-eqb q.0 s).0 e)) }; weighs = k }
    | false ↦ λ e k. absurd (omega arith)
  ] refl h

  pub held-some : (s : ℕ) (es : List Entry) → 0 < held_weight w s es → Weighs s es
  held-some s [] h = absurd (omega arith)
  held-some s (entry.Scope node parent in_parameters flags ∷ es) h = later s _ es (held-some s es h)
  held-some s (entry.Body node ∷ es) h = later s _ es (held-some s es h)
  held-some s (entry.Binding node None who name flags head ∷ es) h = later s _ es (held-some s es (omega arith))
  held-some s (entry.Binding node (Some q) who name flags head ∷ es) h = elim (sum-some (cond (nat_eq q.0 s) (w who node.0 name) 0) (held_weight w s es) h) [
    | inl k ↦ here-or-later s node q who name flags head es k
    | inr k ↦ later s _ es (held-some s es k)
  ]
  held-some s (entry.Reference node scope in_parameters name flags ∷ es) h = later s _ es (held-some s es h)

  pub some-held : (s : ℕ) (node : NodeId) (who : Declarer) (name : List ℕ) (flags : SymbolFlags) (head : Bool) (es : List Entry) → In (entry.Binding node (Some (record { 0 = s })) who name flags head) es → w who node.0 name ≤ held_weight w s es
  some-held s node who name flags head [] h = absurd h
  some-held s node who name flags head (e ∷ es) (inl is) = subst (λ (x : Entry). w who node.0 name ≤ held_weight w s (x ∷ es)) (sym is) (let own = (Decides-eqb s s).1 refl in omega (arith, ap (λ b. cond b (w who node.0 name) 0) own))
  some-held s node who name flags head (entry.Scope node' parent in_parameters flags' ∷ es) (inr h) = some-held s node who name flags head es h
  some-held s node who name flags head (entry.Body node' ∷ es) (inr h) = some-held s node who name flags head es h
  some-held s node who name flags head (entry.Binding node' holder who' name' flags' head' ∷ es) (inr h) = let k = some-held s node who name flags head es h in omega arith
  some-held s node who name flags head (entry.Reference node' scope in_parameters name' flags' ∷ es) (inr h) = some-held s node who name flags head es h

-- ---- declarations

pub in-weight : (w : ℕ → List ℕ → ℕ) (d : Declaration) (ds : List Declaration) → In d ds → w d.number d.spelling ≤ weight w ds
in-weight w d [] h = absurd h
in-weight w d (x ∷ ds) (inl e) = let same = ap (λ (y : Declaration). w y.number y.spelling) e in omega arith
in-weight w d (x ∷ ds) (inr h) = let k = in-weight w d ds h in omega arith

pub weight-in : (w : ℕ → List ℕ → ℕ) (ds : List Declaration) → 0 < weight w ds → (d : Declaration) × (In d ds) × (0 < w d.number d.spelling)
weight-in w [] h = absurd (omega arith)
weight-in w (d ∷ ds) h = elim (sum (w d.number d.spelling) (weight w ds) h) [
  | inl k ↦ (d, inl refl, k)
  | inr k ↦ let rest = weight-in w ds k in (rest.0, inr rest.1, rest.2)
]
  where
    sum : (a b : ℕ) → 0 < a + b → (0 < a) ⊎ (0 < b)
    sum a b h = grind arith

-- this identifier alone
abbrev pub exactly : ℕ → List ℕ → Declarer → ℕ → List ℕ → ℕ
exactly m s who n name = one_if (nat_eq n m && bytes_eq name s)

and-true : (a b : Bool) → a ≡ true → b ≡ true → (a && b) ≡ true
and-true true b h k = k
and-true false b h k = absurd (true≢false (sym h))

exactly-own : (m : ℕ) (s : List ℕ) (who : Declarer) → exactly m s who m s ≡ 1
exactly-own m s who = ap one_if (and-true (nat_eq m m) (bytes_eq s s) ((Decides-eqb m m).1 refl) ((bytes_eq-Decides s s).1 refl))

exactly-same : (m : ℕ) (s : List ℕ) (who : Declarer) (n : ℕ) (name : List ℕ) → 0 < exactly m s who n name → (n ≡ m) × (name ≡ s)
exactly-same m s who n name h = elim (nat_eq n m && bytes_eq name s) as (λ b. (nat_eq n m && bytes_eq name s) ≡ b → 0 < one_if b → (n ≡ m) × (name ≡ s)) [
  | true ↦ λ e k. let both = and_parts (nat_eq n m) (bytes_eq name s) e in ((Decides-eqb n m).0 both.0, (bytes_eq-Decides name s).0 both.1)
  | false ↦ λ e k. absurd (omega arith)
] refl h

-- a name of a node, by what declares it
pub node-cases : (kind : Kind) (m : ℕ) (span : Option (ℕ × ℕ)) (id : Option ℕ) (ps : Parts) (d : Declaration) → In d (names_of_node (Node kind m span id ps)) → (In d (parameter_names kind ps) ⊎ In d (other_names kind m ps)) ⊎ In d (own_name kind ps)
node-cases kind m span id ps d h = elim (in-cases d (parameter_names kind ps ++ other_names kind m ps) (own_name kind ps) (subst (In d) (names-by kind m span id ps) h)) [
  | inl k ↦ inl (in-cases d (parameter_names kind ps) (other_names kind m ps) k)
  | inr k ↦ inr k
]

node-holds : (w : Declarer → ℕ → List ℕ → ℕ) (t : Tree) (d : Declaration) → In d (names_of_node t) → ((who : Declarer) → 0 < w who d.number d.spelling) → 0 < node_weight w t
node-holds w (Node kind m span id ps) d h some = elim (node-cases kind m span id ps d h) [
  | inl k ↦ elim k [
    | inl p ↦ let a = in-weight (w declarer.Parameter) d (parameter_names kind ps) p in let b = some declarer.Parameter in omega arith
    | inr p ↦ let a = in-weight (w declarer.Other) d (other_names kind m ps) p in let b = some declarer.Other in omega arith
  ]
  | inr p ↦ let a = in-weight (w declarer.OwnName) d (own_name kind ps) p in let b = some declarer.OwnName in omega arith
]

-- each name of the j-th node with a scope has an entry in that scope
pub record Declared (s : ℕ) (es : List Entry) (d : Declaration) : Type 0 where
  pub holder : Holder s es
  pub number : holder.node.0 ≡ d.number
  pub spelling : holder.name ≡ d.spelling

pub names-declared : (t x : Tree) (j : ℕ) (d : Declaration) → conforms Place.Program t ≡ true → slice_get (opened false t) j ≡ Some x → In d (names_of_node x) → Declared j (entries_of t) d
names-declared t x j d h at among =
    let w = exactly d.number d.spelling in
    let some : 0 < node_weight w x = node-holds w x d among (λ who. let one = exactly-own d.number d.spelling who in omega arith) in
    let found = held-some w j (entries_of t) (omega (arith, each-program w t x j h at, some)) in
    let same = exactly-same d.number d.spelling found.holder.who found.holder.node.0 found.holder.name found.weighs in
    record { holder = found.holder; number = same.0; spelling = same.1 }

-- ---- the names of a node, by its number

mutual
  opened-in : (x : Tree) (b : Bool) (t : Tree) → In x (opened b t) → In x (preorder t)
  opened-in x b (Node kind m span id ps) h = elim (in-cases x (cond (opens_at kind b) (Node kind m span id ps ∷ []) []) (opened_parts (is_body_place kind) ps) h) [
    | inl k ↦ inl (of_own (opens_at kind b) k)
    | inr k ↦ inr (opened-parts-in x (is_body_place kind) ps k)
  ]
    where
      of_own : (c : Bool) → In x (cond c (Node kind m span id ps ∷ []) []) → Node kind m span id ps ≡ x
      of_own true (inl e) = e
      of_own true (inr e) = absurd e
      of_own false e = absurd e

  opened-parts-in : (x : Tree) (bs : ℕ → Bool) (ps : Parts) → In x (opened_parts bs ps) → In x (preorder_of ps)
  opened-parts-in x bs end h = absurd h
  opened-parts-in x bs (more p ps) h = elim (in-cases x (opened_part (bs 0) p) (opened_parts (λ i. bs (suc i)) ps) h) [
    | inl k ↦ in-left x (preorder_of_part p) (preorder_of ps) (opened-part-in x (bs 0) p k)
    | inr k ↦ in-right x (preorder_of_part p) (preorder_of ps) (opened-parts-in x (λ i. bs (suc i)) ps k)
  ]

  opened-part-in : (x : Tree) (b : Bool) (p : Part) → In x (opened_part b p) → In x (preorder_of_part p)
  opened-part-in x b (child t) h = opened-in x b t h
  opened-part-in x b absent h = absurd h
  opened-part-in x b (list ps) h = opened-items-in x b ps h
  opened-part-in x b (string s) h = absurd h
  opened-part-in x b no_string h = absurd h
  opened-part-in x b (boolean v) h = absurd h
  opened-part-in x b (literal v) h = absurd h

  opened-items-in : (x : Tree) (b : Bool) (ps : Parts) → In x (opened_items b ps) → In x (preorder_of ps)
  opened-items-in x b end h = absurd h
  opened-items-in x b (more p ps) h = elim (in-cases x (opened_part b p) (opened_items b ps) h) [
    | inl k ↦ in-left x (preorder_of_part p) (preorder_of ps) (opened-part-in x b p k)
    | inr k ↦ in-right x (preorder_of_part p) (preorder_of ps) (opened-items-in x b ps k)
  ]

pub opened-preorder : (x t : Tree) → In x (opened false t) → In x (preorder t)
opened-preorder x t h = opened-in x false t h

names-numbered : (x : Tree) (ts : List Tree) → EachOnce (map number_of ts) → In x ts → names_in (number_of x) ts ≡ names_of_node x
names-numbered x [] once h = absurd h
names-numbered x (y ∷ ts) once (inl e) = ap (λ b. cond b (names_of_node y) (names_in (number_of x) ts)) ((Decides-eqb (number_of x) (number_of y)).1 (ap number_of (sym e))) ∙ ap names_of_node e
names-numbered x (y ∷ ts) once (inr h) =
    ap (λ b. cond b (names_of_node y) (names_in (number_of x) ts)) (eq-swap (number_of y) (number_of x) (distinct-first (number_of y) (map number_of ts) once (number_of x) (in-map number_of x ts h)))
    ∙ names-numbered x ts (distinct-rest (number_of y) (map number_of ts) once) h

pub names-node : (t x : Tree) → EachOnce (numbers t) → In x (preorder t) → names_held t (number_of x) ≡ names_of_node x
names-node t x once h = names-numbered x (preorder t) once h
