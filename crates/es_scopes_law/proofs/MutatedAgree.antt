-- In a tree that carries the numbers of its table, a symbol is mutated just where one of its identifiers is written.
use Rattle.std.proofs.Common.{◌≡◌, refl, sym, ap, subst, ◌∙◌, ℕ, zero, suc, ◌+◌, ◌≤◌, ◌⊎◌, inl, inr, List, [], ◌∷◌, ◌++◌, length, nat_eq, Bool, true, false, true≢false, cond, ◌&&◌, ◌||◌, Option, Some, None, arith}
use Rattle.std.specs.Prelude.{slice_get, is_some, bytes_eq, ◌↔◌}
use Rattle.std.proofs.lemmas.Bool.{and_parts}
use Rattle.std.proofs.lemmas.Bool.Decides.{Decides-eqb}
use Rattle.es_base.specs.Carried.{symbol_number}
use Rattle.es_base.specs.Preorder.{preorder, one_if}
use Rattle.es_base.specs.Tree.{Tree, Parts, Node, end, more, child}
use Rattle.es_base.specs.declared.ids.NodeId.{NodeId}
use Rattle.es_base.specs.declared.ids.ScopeId.{ScopeId}
use Rattle.es_base.specs.declared.ids.SymbolId.{SymbolId}
use Rattle.es_base.specs.declared.kind.Kind.{Kind}
use Rattle.es_scopes.specs.Agreement.{carried, meant_symbol, names_of_node, own_name, IsWritten}
use Rattle.es_scopes.specs.Bindings.{lookup}
use Rattle.es_scopes.specs.Built.{built_table}
use Rattle.es_scopes.specs.Entries.{entries_of}
use Rattle.es_scopes.specs.Held.{weight, node_weight, parameter_names, other_names}
use Rattle.es_scopes.specs.NodeBindings.{NodeBinding, bindings_of}
use Rattle.es_scopes.specs.NodeScopes.{has_scope, is_body_place}
use Rattle.es_scopes.specs.Opened.{opened}
use Rattle.es_scopes.specs.References.{writes, HoldsWrite}
use Rattle.es_scopes.specs.Shown.{bindings_in}
use Rattle.es_scopes.specs.Table.{HasSymbol, IsMutated, symbol_at, row_at, names_of_row, get_binding}
use Rattle.es_scopes.specs.Tables.{none_declared}
use Rattle.es_scopes.specs.declared.entry.Entry.{Entry}
use Rattle.es_scopes.specs.declared.entry.Entry.TheVariants as entry
use Rattle.es_scopes.specs.declared.flags.SymbolFlags.{SymbolFlags}
use Rattle.es_scopes.specs.declared.surroundings.Declarer.{Declarer}
use Rattle.es_scopes.specs.declared.surroundings.Declarer.TheVariants as declarer
use Rattle.es_scopes.specs.declared.table.Reference as table
use Rattle.es_scopes.specs.declared.table.Scope.{Scope}
use Rattle.es_scopes.specs.declared.table.Symbol.{Symbol}
use Rattle.es_scopes.proofs.BindingOrder.{bindings-entries}
use Rattle.es_scopes.proofs.EachScope.{each-program, count-program}
use Rattle.es_scopes.proofs.RowLemmas.{within_from_row}
use Rattle.es_scopes.proofs.TableSteps.{scopes-declared}
use Rattle.es_scopes.proofs.WrittenLemmas.{IsMutated-from, IsMutated-to}
use Rattle.es_scopes_law.proofs.Bodies.{Standing, has_one, body_of, standing}
use Rattle.es_scopes_law.proofs.Declarers.{is_at, at-same, at-own as at-itself}
use Rattle.es_scopes_law.proofs.Heads.{node_heads, total, each, head_total, heads-program}
use Rattle.es_scopes_law.proofs.Holders.{opened-preorder}
use Rattle.es_scopes_law.proofs.Listed.{points, is_target, built-listed, mark-built}
use Rattle.es_scopes_law.proofs.Lists.{In, in-left, in-right, in-cases, in-at, at-in}
use Rattle.es_scopes_law.proofs.Marks.{mark_of, is_beside, many_beside, some_head, entry_head, two, marks-declared}
use Rattle.es_scopes_law.proofs.ReferencesAgree.{reference-at, reference-numbered, reference-of}
use Rattle.es_scopes_law.proofs.Repeated.{spell, number-append, or-cases, or-left, or-right, repeated-twice, twice-repeated, written-in, in-written}
use Rattle.es_scopes_law.proofs.Rows.{get-some}
use Rattle.es_scopes_law.proofs.ScopesAgree.{IsBuilt, rows, carries-name, carries-binding, held-there, symbol-numbered, symbol-is-there, some-same}
use Rattle.es_scopes_law.proofs.Seen.{spelled}
use Rattle.es_steps.specs.Parts.{at, items, block_items}
use Rattle.es_steps.specs.References.{Reference, resolve, assigned, if_bound, has_number, repeated, written_by, written_by_all}
use Rattle.es_steps.specs.Scopes.{Declaration, scope_form, scope_names, lexical_part, lexical_items, var_part, body_names}
use Rattle.es_steps.specs.Values.{Referent, Bound}

-- ---- the names of a node that are no own names

scope-names : (kind : Kind) (m : ℕ) (ps : Parts) → scope_names (scope_form kind) m ps ≡ parameter_names kind ps ++ other_names kind m ps
scope-names Kind.Program m ps = refl
scope-names kind m ps = refl

weight-append : (w : ℕ → List ℕ → ℕ) (xs ys : List Declaration) → weight w (xs ++ ys) ≡ weight w xs + weight w ys
weight-append w [] ys = omega arith
weight-append w (x ∷ xs) ys = omega (arith, weight-append w xs ys)

weight-beside : (x : List ℕ) (who : Declarer) (ds : List Declaration) → is_beside who ≡ true → weight (spelled is_beside x who) ds ≡ weight (spell x) ds
weight-beside x who [] h = refl
weight-beside x who (d ∷ ds) h = omega (arith, weight-beside x who ds h, ap one_if (by (bytes_eq x d.spelling) (is_beside who) h))
  where
    by : (a b : Bool) → b ≡ true → (a && b) ≡ a
    by true b h = h
    by false b h = refl

weight-own : (x : List ℕ) (ds : List Declaration) → weight (spelled is_beside x declarer.OwnName) ds ≡ 0
weight-own x [] = refl
weight-own x (d ∷ ds) = omega (arith, weight-own x ds, ap one_if (by (bytes_eq x d.spelling)))
  where
    by : (a : Bool) → (a && false) ≡ false
    by true = refl
    by false = refl

node-beside : (x : List ℕ) (kind : Kind) (m : ℕ) (span : Option (ℕ × ℕ)) (id : Option ℕ) (ps : Parts) → node_weight (spelled is_beside x) (Node kind m span id ps) ≡ weight (spell x) (scope_names (scope_form kind) m ps)
node-beside x kind m span id ps = omega (
  arith,
  weight-beside x declarer.Parameter (parameter_names kind ps) refl,
  weight-beside x declarer.Other (other_names kind m ps) refl,
  weight-own x (own_name kind ps),
  weight-append (spell x) (parameter_names kind ps) (other_names kind m ps),
  ap (weight (spell x)) (scope-names kind m ps),
)

in-scope_names : (kind : Kind) (m : ℕ) (span : Option (ℕ × ℕ)) (id : Option ℕ) (ps : Parts) (d : Declaration) → In d (scope_names (scope_form kind) m ps) → In d (names_of_node (Node kind m span id ps))
in-scope_names kind m span id ps d h = in-left d (scope_names (scope_form kind) m ps) (own_name kind ps) h

-- what has no scope has no names
names-scope : (kind : Kind) (m : ℕ) (ps : Parts) (d : Declaration) → In d (scope_names (scope_form kind) m ps) → has_scope kind ≡ true
names-scope Kind.Program m ps d h = refl
names-scope Kind.FunctionDeclaration m ps d h = refl
names-scope Kind.FunctionExpression m ps d h = refl
names-scope Kind.ArrowFunctionExpression m ps d h = refl
names-scope Kind.ClassExpression m ps d h = refl
names-scope Kind.BlockStatement m ps d h = refl
names-scope Kind.StaticBlock m ps d h = refl
names-scope Kind.ForStatement m ps d h = refl
names-scope Kind.ForInStatement m ps d h = refl
names-scope Kind.ForOfStatement m ps d h = refl
names-scope Kind.SwitchStatement m ps d h = refl
names-scope Kind.CatchClause m ps d h = refl
names-scope kind m ps d h = absurd h

-- ---- two and more

two-from : (n : ℕ) → 2 ≤ n → two n ≡ true
two-from zero h = absurd (omega arith)
two-from (suc zero) h = absurd (omega arith)
two-from (suc (suc n)) h = refl

from-two : (n : ℕ) → two n ≡ true → 2 ≤ n
from-two zero h = absurd (true≢false (sym h))
from-two (suc zero) h = absurd (true≢false (sym h))
from-two (suc (suc n)) h = omega arith

-- ---- heads of loops among the entries

pub record HeadEntry (q : ℕ) (x : List ℕ) (es : List Entry) : Type 0 where
  pub node : NodeId
  pub who : Declarer
  pub flags : SymbolFlags
  pub among : In (entry.Binding node (Some (record { 0 = q })) who x flags true) es

head-later : (q : ℕ) (x : List ℕ) (e : Entry) (es : List Entry) → HeadEntry q x es → HeadEntry q x (e ∷ es)
head-later q x e es k = record { node = k.node; who = k.who; flags = k.flags; among = inr k.among }

from-head : (q : ℕ) (x : List ℕ) (es : List Entry) → some_head q x es ≡ true → HeadEntry q x es
from-head q x [] h = absurd (true≢false (sym h))
from-head q x (entry.Scope node parent in_parameters flags ∷ es) h = head-later q x _ es (from-head q x es h)
from-head q x (entry.Body node ∷ es) h = head-later q x _ es (from-head q x es h)
from-head q x (entry.Binding node None who name flags head ∷ es) h = head-later q x _ es (from-head q x es h)
from-head q x (entry.Binding node (Some s) who name flags head ∷ es) h = elim (or-cases (is_at q x s name && head) (some_head q x es) h) [
  | inl k ↦
      let both = and_parts (is_at q x s name) head k in
      let same = at-same q x s name both.0 in
      record { node = node; who = who; flags = flags; among = inl (λ i. entry.Binding node (Some (record { 0 = sym same.0 i })) who (sym same.1 i) flags (both.1 i)) }
  | inr k ↦ head-later q x _ es (from-head q x es k)
]
from-head q x (entry.Reference node scope in_parameters name flags ∷ es) h = head-later q x _ es (from-head q x es h)

at-own : (s : ScopeId) (x : List ℕ) → (is_at s.0 x s x && true) ≡ true
at-own s x = by (is_at s.0 x s x) (at-itself s x)
  where
    by : (b : Bool) → b ≡ true → (b && true) ≡ true
    by true h = refl
    by false h = h

to-head : (s : ScopeId) (x : List ℕ) (node : NodeId) (who : Declarer) (flags : SymbolFlags) (es : List Entry) → In (entry.Binding node (Some s) who x flags true) es → some_head s.0 x es ≡ true
to-head s x node who flags [] h = absurd h
to-head s x node who flags (e ∷ es) (inl is) = or-left (entry_head s.0 x e) (some_head s.0 x es) (ap (entry_head s.0 x) is ∙ at-own s x)
to-head s x node who flags (e ∷ es) (inr h) = or-right (entry_head s.0 x e) (some_head s.0 x es) (to-head s x node who flags es h)

-- a node of this number weighs one
abbrev number_is : ℕ → ℕ → ℕ
number_is n k = one_if (nat_eq n k)

total-has : (n : ℕ) (ns : List ℕ) → 1 ≤ total (number_is n) ns → has_number n ns ≡ true
total-has n [] h = absurd (omega arith)
total-has n (k ∷ ns) h = by (nat_eq n k) refl (total-has n ns)
  where
    by : (b : Bool) → nat_eq n k ≡ b → (1 ≤ total (number_is n) ns → has_number n ns ≡ true) → (nat_eq n k || has_number n ns) ≡ true
    by true e rest = or-left (nat_eq n k) (has_number n ns) e
    by false e rest = or-right (nat_eq n k) (has_number n ns) (rest (omega (arith, ap one_if e)))

has-total : (n : ℕ) (ns : List ℕ) → has_number n ns ≡ true → 1 ≤ total (number_is n) ns
has-total n [] h = absurd (true≢false (sym h))
has-total n (k ∷ ns) h = elim (or-cases (nat_eq n k) (has_number n ns) h) [
  | inl e ↦ omega (arith, ap one_if e)
  | inr rest ↦ let l = has-total n ns rest in omega arith
]

sum-one : (a b : ℕ) → 1 ≤ a + b → (1 ≤ a) ⊎ (1 ≤ b)
sum-one a b h = grind arith

-- a number that loops write is written
each-has : (n : ℕ) (ts : List Tree) → 1 ≤ each (number_is n) ts → has_number n (written_by_all ts) ≡ true
each-has n [] h = absurd (omega arith)
each-has n (Node kind m span id ps ∷ ts) h =
    let t = Node kind m span id ps in
    number-append n (written_by t) (written_by_all ts) ∙ (elim (sum-one (total (number_is n) (node_heads t)) (each (number_is n) ts) h) [
      | inl k ↦ or-left (has_number n (written_by t)) (has_number n (written_by_all ts)) (number-append n (repeated (scope_names (scope_form kind) m ps)) (node_heads t) ∙ or-right (has_number n (repeated (scope_names (scope_form kind) m ps))) (has_number n (node_heads t)) (total-has n (node_heads t) k))
      | inr k ↦ or-right (has_number n (written_by t)) (has_number n (written_by_all ts)) (each-has n ts k)
    ])

has-each : (n : ℕ) (x : Tree) (ts : List Tree) → In x ts → has_number n (node_heads x) ≡ true → 1 ≤ each (number_is n) ts
has-each n x [] h k = absurd h
has-each n x (t ∷ ts) (inl e) k = let l = has-total n (node_heads t) (ap (λ (z : Tree). has_number n (node_heads z)) e ∙ k) in omega arith
has-each n x (t ∷ ts) (inr h) k = let l = has-each n x ts h k in omega arith

head-in : (n : ℕ) (b : NodeBinding) (bs : List NodeBinding) → In b bs → b.head_var ≡ true → b.node ≡ n → 1 ≤ head_total (number_is n) bs
head-in n b [] h e f = absurd h
head-in n b (c ∷ bs) (inl is) e f =
    let one : number_is n c.node ≡ 1 = ap one_if ((Decides-eqb n c.node).1 (sym f ∙ ap (λ (z : NodeBinding). z.node) (sym is))) in
    omega (arith, one, ap (λ v. cond v (number_is n c.node) 0) (ap (λ (z : NodeBinding). z.head_var) is ∙ e))
head-in n b (c ∷ bs) (inr h) e f = let l = head-in n b bs h e f in omega arith

in-head : (n : ℕ) (bs : List NodeBinding) → 1 ≤ head_total (number_is n) bs → (b : NodeBinding) × (In b bs) × (b.head_var ≡ true) × (b.node ≡ n)
in-head n [] h = absurd (omega arith)
in-head n (b ∷ bs) h = elim (sum-one (cond b.head_var (number_is n b.node) 0) (head_total (number_is n) bs) h) [
  | inl k ↦ by b.head_var refl k
  | inr k ↦ let rest = in-head n bs k in (rest.0, inr rest.1, rest.2, rest.3)
]
  where
    of_number : (v : Bool) → nat_eq n b.node ≡ v → 1 ≤ one_if v → b.node ≡ n
    of_number true e k = sym ((Decides-eqb n b.node).0 e)
    of_number false e k = absurd (omega arith)

    by : (v : Bool) → b.head_var ≡ v → 1 ≤ cond v (number_is n b.node) 0 → (c : NodeBinding) × (In c (b ∷ bs)) × (c.head_var ≡ true) × (c.node ≡ n)
    by true e k = (b, inl refl, e, of_number (nat_eq n b.node) refl k)
    by false e k = absurd (omega arith)

-- a binding of an entry
entry-binding : (es : List Entry) (node : NodeId) (holder : Option ScopeId) (who : Declarer) (name : List ℕ) (flags : SymbolFlags) (head : Bool) → In (entry.Binding node holder who name flags head) es → In (record { node = node.0; name = name; flags = flags.0; head_var = head }) (bindings_in es)
entry-binding [] node holder who name flags head h = absurd h
entry-binding (e ∷ es) node holder who name flags head (inl is) = subst (λ (z : Entry). In (record { node = node.0; name = name; flags = flags.0; head_var = head }) (bindings_in (z ∷ es))) (sym is) (inl refl)
entry-binding (entry.Scope m parent in_parameters f ∷ es) node holder who name flags head (inr h) = entry-binding es node holder who name flags head h
entry-binding (entry.Body m ∷ es) node holder who name flags head (inr h) = entry-binding es node holder who name flags head h
entry-binding (entry.Binding m o w x f b ∷ es) node holder who name flags head (inr h) = inr (entry-binding es node holder who name flags head h)
entry-binding (entry.Reference m scope in_parameters x f ∷ es) node holder who name flags head (inr h) = entry-binding es node holder who name flags head h

-- ---- references that write

assigned-in : (n : ℕ) (r : Reference) (rs : List Reference) → In r rs → r.writes ≡ true → r.to ≡ Bound n → has_number n (assigned rs) ≡ true
assigned-in n r [] h w to = absurd h
assigned-in n r (q ∷ rs) (inl e) w to =
    number-append n (if_bound q.writes q.to) (assigned rs)
    ∙ or-left (has_number n (if_bound q.writes q.to)) (has_number n (assigned rs))
    ((λ i. has_number n (if_bound ((ap (λ (z : Reference). z.writes) e ∙ w) i) ((ap (λ (z : Reference). z.to) e ∙ to) i))) ∙ or-left (nat_eq n n) false ((Decides-eqb n n).1 refl))
assigned-in n r (q ∷ rs) (inr h) w to = number-append n (if_bound q.writes q.to) (assigned rs) ∙ or-right (has_number n (if_bound q.writes q.to)) (has_number n (assigned rs)) (assigned-in n r rs h w to)

in-assigned : (n : ℕ) (rs : List Reference) → has_number n (assigned rs) ≡ true → (r : Reference) × (In r rs) × (r.writes ≡ true) × (r.to ≡ Bound n)
in-assigned n [] h = absurd (true≢false (sym h))
in-assigned n (r ∷ rs) h = elim (or-cases (has_number n (if_bound r.writes r.to)) (has_number n (assigned rs)) (sym (number-append n (if_bound r.writes r.to) (assigned rs)) ∙ h)) [
  | inl k ↦ let own = by r.writes r.to k in (r, inl refl, own.0, own.1)
  | inr k ↦ let rest = in-assigned n rs k in (rest.0, inr rest.1, rest.2, rest.3)
]
  where
    bound_to : (b : ℕ) → (nat_eq n b || false) ≡ true → Bound b ≡ Bound n
    bound_to b k = elim (or-cases (nat_eq n b) false k) [
      | inl e ↦ ap Bound (sym ((Decides-eqb n b).0 e))
      | inr e ↦ absurd (true≢false (sym e))
    ]

    by : (w : Bool) (to : Referent) → has_number n (if_bound w to) ≡ true → (w ≡ true) × (to ≡ Bound n)
    by true (Bound b) k = (refl, bound_to b k)
    by true to k = absurd (true≢false (sym k))
    by false to k = absurd (true≢false (sym k))

bound-from : (t : Tree) (to : Referent) (y : ℕ) → meant_symbol t to ≡ Some y → (n : ℕ) × (to ≡ Bound n) × (carried t n ≡ Some y)
bound-from t (Bound n) y e = (n, refl, e)
bound-from t to y e = absurd (cc e)

-- ---- the body of a function

lexical-body : (x : List ℕ) (ps : Parts) → weight (spell x) (lexical_items ps) ≤ weight (spell x) (body_names ps)
lexical-body x end = omega arith
lexical-body x (more p ps) = omega (
  arith,
  lexical-body x ps,
  weight-append (spell x) (lexical_part p) (lexical_items ps),
  weight-append (spell x) (lexical_part p ++ var_part p) (body_names ps),
  weight-append (spell x) (lexical_part p) (var_part p),
)

in-body : (d : Declaration) (ps : Parts) → In d (lexical_items ps) → In d (body_names ps)
in-body d end h = absurd h
in-body d (more p ps) h = elim (in-cases d (lexical_part p) (lexical_items ps) h) [
  | inl k ↦ in-left d (lexical_part p ++ var_part p) (body_names ps) (in-left d (lexical_part p) (var_part p) k)
  | inr k ↦ in-right d (lexical_part p ++ var_part p) (body_names ps) (in-body d ps k)
]

-- the names of the block of a function, of whatever kind the node of that name is
block-names : (kind : Kind) (m : ℕ) (span : Option (ℕ × ℕ)) (id : Option ℕ) (ps : Parts) (f : Kind) (k : ℕ) (qs : Parts) (i : ℕ) → is_body_place f i ≡ true → at i qs ≡ child (Node kind m span id ps) → other_names f k qs ≡ body_names (block_items (child (Node kind m span id ps)))
block-names kind m span id ps Kind.FunctionDeclaration k qs i b e = ap (λ p. body_names (block_items p)) (ap (λ (j : ℕ). at j qs) (sym ((Decides-eqb i 2).0 b)) ∙ e)
block-names kind m span id ps Kind.FunctionExpression k qs i b e = ap (λ p. body_names (block_items p)) (ap (λ (j : ℕ). at j qs) (sym ((Decides-eqb i 2).0 b)) ∙ e)
block-names kind m span id ps Kind.ArrowFunctionExpression k qs i b e = ap (λ p. body_names (block_items p)) (ap (λ (j : ℕ). at j qs) (sym ((Decides-eqb i 1).0 b)) ∙ e)
block-names kind m span id ps f k qs i b e = absurd (true≢false (sym b))

block-is : (kind : Kind) (m : ℕ) (span : Option (ℕ × ℕ)) (id : Option ℕ) (ps : Parts) → block_items (child (Node kind m span id ps)) ≡ items (at 0 ps)
block-is kind m span id end = refl
block-is kind m span id (more p ps) = refl

some-symbol : (o : Option Symbol) → is_some o ≡ true → (x : Symbol) × (o ≡ Some x)
some-symbol None h = absurd (true≢false (sym h))
some-symbol (Some x) h = (x, refl)

row-there : (o : Option Scope) (x : List ℕ) (y : SymbolId) → lookup x (names_of_row o) ≡ Some y → is_some o ≡ true
row-there None x y e = absurd (cc e)
row-there (Some r) x y e = refl

points-at : (o : Option SymbolId) (y : ℕ) → symbol_number o ≡ Some y → is_target o y ≡ true
points-at None y e = absurd (cc e)
points-at (Some z) y e = (Decides-eqb z.0 y).1 (some-same z.0 y e)

at-points : (o : Option SymbolId) (y : ℕ) → is_target o y ≡ true → symbol_number o ≡ Some y
at-points None y e = absurd (true≢false (sym e))
at-points (Some z) y e = ap (λ (n : ℕ). Some n) ((Decides-eqb z.0 y).0 e)

row-points : (references : List table.Reference) (k y : ℕ) → points (slice_get references k) y ≡ true → (row : table.Reference) × (slice_get references k ≡ Some row) × (is_target row.symbol_id y ≡ true)
row-points references k y h = by (slice_get references k) refl h
  where
    by : (o : Option table.Reference) → slice_get references k ≡ o → points o y ≡ true → (row : table.Reference) × (slice_get references k ≡ Some row) × (is_target row.symbol_id y ≡ true)
    by None e h = absurd (true≢false (sym h))
    by (Some row) e h = (row, e, h)

-- ---- a tree that carries the numbers of its table

module _ (t : Tree) (h : IsBuilt t) where
  -- the mark of the symbol of a name
  marked-symbol : (q : ScopeId) (x : List ℕ) (y : SymbolId) → get_binding (built_table t) q x ≡ Some y → mark_of (symbol_at (built_table t) y) ≡ (some_head q.0 x (entries_of t) || two (many_beside q.0 x (entries_of t)))
  marked-symbol q x y e = mark-built t y.0 ∙ marks-declared t q x y (ap (λ (l : List (Option Scope)). lookup x (names_of_row (row_at l q.0))) (sym (rows t h)) ∙ e)

  -- the node of a scope that holds a name
  node-of : (q : ScopeId) (x : List ℕ) (y : SymbolId) → get_binding (built_table t) q x ≡ Some y → (n : Tree) × (slice_get (opened false t) q.0 ≡ Some n)
  node-of q x y e =
      let within = within_from_row (built_table t).scopes q.0 (row-there (row_at (built_table t).scopes q.0) x y e) in
      get-some (opened false t) q.0 (omega (arith, within, ap length (rows t h), scopes-declared none_declared (entries_of t), count-program t))

  by-nodes : (n : ℕ) (y : SymbolId) → has_number n (written_by_all (preorder t)) ≡ true → carried t n ≡ Some y.0 → IsWritten t y
  by-nodes n y has e = (n, number-append n (assigned (resolve t)) (written_by_all (preorder t)) ∙ or-right (has_number n (assigned (resolve t))) (has_number n (written_by_all (preorder t))) has, e)

  -- ---- what is mutated is written

  from-head-entry : (q : ScopeId) (x : List ℕ) (y : SymbolId) → get_binding (built_table t) q x ≡ Some y → HeadEntry q.0 x (entries_of t) → IsWritten t y
  from-head-entry q x y e k =
      let n = k.node.0 in
      let b : NodeBinding = record { node = k.node.0; name = x; flags = k.flags.0; head_var = true } in
      let among : In b (bindings_of t) = subst (In b) (bindings-entries t) (entry-binding (entries_of t) k.node (Some q) k.who x k.flags true k.among) in
      let some = head-in n b (bindings_of t) among refl refl in
      by-nodes n y (each-has n (preorder t) (omega (arith, some, heads-program (number_is n) t h.conforming))) (carries-binding t h k.node (Some q) k.who x k.flags true k.among ∙ ap symbol_number e)

  from-twice : (q : ScopeId) (x : List ℕ) (y : SymbolId) (n : Tree) → get_binding (built_table t) q x ≡ Some y → slice_get (opened false t) q.0 ≡ Some n → 2 ≤ many_beside q.0 x (entries_of t) → IsWritten t y
  from-twice q x y (Node kind m span id ps) e at two_of =
      let ds = scope_names (scope_form kind) m ps in
      let k = twice-repeated x ds (omega (arith, two_of, each-program (spelled is_beside x) t (Node kind m span id ps) q.0 h.conforming at, node-beside x kind m span id ps)) in
      let d = k.declaration in
      let by_node : has_number d.number (written_by (Node kind m span id ps)) ≡ true = number-append d.number (repeated ds) (node_heads (Node kind m span id ps)) ∙ or-left (has_number d.number (repeated ds)) (has_number d.number (node_heads (Node kind m span id ps))) k.has in
      by-nodes d.number y (written-in d.number (Node kind m span id ps) (preorder t) (opened-preorder (Node kind m span id ps) t (at-in (Node kind m span id ps) (opened false t) q.0 at)) by_node)
      (carries-name t h q.0 (Node kind m span id ps) d at (in-scope_names kind m span id ps d k.among) ∙ ap (λ s. symbol_number (get_binding (built_table t) q s)) k.spelling ∙ ap symbol_number e)

  from-marked : (q : ScopeId) (x : List ℕ) (y : SymbolId) → get_binding (built_table t) q x ≡ Some y → mark_of (symbol_at (built_table t) y) ≡ true → IsWritten t y
  from-marked q x y e m = elim (or-cases (some_head q.0 x (entries_of t)) (two (many_beside q.0 x (entries_of t))) (sym (marked-symbol q x y e) ∙ m)) [
    | inl k ↦ from-head-entry q x y e (from-head q.0 x (entries_of t) k)
    | inr k ↦ let n = node-of q x y e in from-twice q x y n.0 e n.1 (from-two (many_beside q.0 x (entries_of t)) k)
  ]

  from-list : (y : SymbolId) (x : Symbol) → symbol_at (built_table t) y ≡ Some x → HoldsWrite x.references (built_table t).references → IsWritten t y
  from-list y x at held =
      let k = held.0 in
      let row = row-points (built_table t).references k y.0 (sym (built-listed t y.0 x at k) ∙ held.1) in
      let r = reference-of t h k row.0 row.1 in
      let numbered = reference-at t h k r.0 r.1 in
      let same : numbered.row ≡ row.0 = some-same numbered.row row.0 (sym numbered.at ∙ row.1) in
      let to = bound-from t r.0.to y.0 (sym numbered.target ∙ ap (λ (z : table.Reference). symbol_number z.symbol_id) same ∙ at-points row.0.symbol_id y.0 row.2) in
      let writes_it : r.0.writes ≡ true = sym numbered.write ∙ ap (λ (z : table.Reference). writes (Some z)) same ∙ sym (ap writes row.1) ∙ held.2 in
      let n = to.0 in
      (n, number-append n (assigned (resolve t)) (written_by_all (preorder t)) ∙ or-left (has_number n (assigned (resolve t))) (has_number n (written_by_all (preorder t))) (assigned-in n r.0 (resolve t) (at-in r.0 (resolve t) k r.1) writes_it to.1), to.2)

  mutated-written : (b : NodeBinding) (y : SymbolId) → In b (bindings_of t) → carried t b.node ≡ Some y.0 → IsMutated (built_table t) y → IsWritten t y
  mutated-written b y among carries_it mutated =
      let k = symbol-numbered t h b y among carries_it in
      let x = some-symbol (symbol_at (built_table t) y) (symbol-is-there t h b y among carries_it) in
      elim (IsMutated-to (built_table t) y x.0 x.1 mutated) [
        | inl m ↦ from-marked k.scope b.name y k.held (ap mark_of x.1 ∙ m)
        | inr held ↦ from-list y x.0 x.1 held
      ]

  -- ---- what is written is mutated

  mutated-by-mark : (y : SymbolId) → HasSymbol (built_table t) y → mark_of (symbol_at (built_table t) y) ≡ true → IsMutated (built_table t) y
  mutated-by-mark y there m =
      let x = some-symbol (symbol_at (built_table t) y) there in
      IsMutated-from (built_table t) y x.0 x.1 (inl (sym (ap mark_of x.1) ∙ m))

  by-twice : (j : ℕ) (n : Tree) (d : Declaration) (y : SymbolId) → slice_get (opened false t) j ≡ Some n → In d (names_of_node n) → 2 ≤ node_weight (spelled is_beside d.spelling) n → carried t d.number ≡ Some y.0 → mark_of (symbol_at (built_table t) y) ≡ true
  by-twice j n d y at among two_of e =
      let found = held-there t h (Some (record { 0 = j })) d.spelling y (sym (carries-name t h j n d at among) ∙ e) in
      let held : get_binding (built_table t) (record { 0 = j }) d.spelling ≡ Some y = ap (λ (s : ScopeId). get_binding (built_table t) s d.spelling) (some-same (record { 0 = j }) found.0 found.1) ∙ found.2 in
      marked-symbol (record { 0 = j }) d.spelling y held
      ∙ or-right (some_head j d.spelling (entries_of t)) (two (many_beside j d.spelling (entries_of t))) (two-from (many_beside j d.spelling (entries_of t)) (omega (arith, two_of, each-program (spelled is_beside d.spelling) t n j h.conforming at)))

  by-repeated : (n : ℕ) (y : SymbolId) (kind : Kind) (m : ℕ) (span : Option (ℕ × ℕ)) (id : Option ℕ) (ps : Parts) → In (Node kind m span id ps) (preorder t) → has_number n (repeated (scope_names (scope_form kind) m ps)) ≡ true → carried t n ≡ Some y.0 → mark_of (symbol_at (built_table t) y) ≡ true
  by-repeated n y kind m span id ps among has e =
      let k = repeated-twice n (scope_names (scope_form kind) m ps) has in
      by k.declaration k.among k.twice (ap (carried t) k.number ∙ e) (standing (Node kind m span id ps) (names-scope kind m ps k.declaration k.among) t h.conforming among)
    where
      by : (d : Declaration) → In d (scope_names (scope_form kind) m ps) → 2 ≤ weight (spell d.spelling) (scope_names (scope_form kind) m ps) → carried t d.number ≡ Some y.0 → Standing (opened false t) (Node kind m span id ps) → mark_of (symbol_at (built_table t) y) ≡ true
      by d named two_of e (has_one it) = let j = in-at (Node kind m span id ps) (opened false t) it in by-twice j.0 (Node kind m span id ps) d y j.1 (in-scope_names kind m span id ps d named) (omega (arith, two_of, node-beside d.spelling kind m span id ps)) e
      by d named two_of e (body_of f k fspan fid qs i it is_body child_is block) =
          let j = in-at (Node f k fspan fid qs) (opened false t) it in
          let lexical : scope_names (scope_form kind) m ps ≡ lexical_items (items (at 0 ps)) = ap (λ (c : Kind). scope_names (scope_form c) m ps) block in
          let all : other_names f k qs ≡ body_names (items (at 0 ps)) = block-names kind m span id ps f k qs i is_body child_is ∙ ap body_names (block-is kind m span id ps) in
          let d_among : In d (body_names (items (at 0 ps))) = in-body d (items (at 0 ps)) (subst (In d) lexical named) in
          let in_scope : In d (scope_names (scope_form f) k qs) = subst (In d) (sym (scope-names f k qs)) (in-right d (parameter_names f qs) (other_names f k qs) (subst (In d) (sym all) d_among)) in
          by-twice j.0 (Node f k fspan fid qs) d y j.1 (in-scope_names f k fspan fid qs d in_scope)
          (omega (
            arith,
            two_of,
            ap (weight (spell d.spelling)) lexical,
            lexical-body d.spelling (items (at 0 ps)),
            ap (weight (spell d.spelling)) all,
            weight-append (spell d.spelling) (parameter_names f qs) (other_names f k qs),
            ap (weight (spell d.spelling)) (scope-names f k qs),
            node-beside d.spelling f k fspan fid qs,
          ))
          e

  by-head : (n : ℕ) (y : SymbolId) (x : Tree) → In x (preorder t) → has_number n (node_heads x) ≡ true → carried t n ≡ Some y.0 → mark_of (symbol_at (built_table t) y) ≡ true
  by-head n y x among has e =
      let some = has-each n x (preorder t) among has in
      let b = in-head n (bindings_of t) (omega (arith, some, heads-program (number_is n) t h.conforming)) in
      let k = symbol-numbered t h b.0 y b.1 (ap (carried t) b.3 ∙ e) in
      marked-symbol k.scope b.0.name y k.held
      ∙ or-left (some_head k.scope.0 b.0.name (entries_of t)) (two (many_beside k.scope.0 b.0.name (entries_of t))) (to-head k.scope b.0.name k.node k.who k.flags (entries_of t) (subst (λ (v : Bool). In (entry.Binding k.node (Some k.scope) k.who b.0.name k.flags v) (entries_of t)) b.2 k.among))

  by-node : (n : ℕ) (y : SymbolId) (x : Tree) → In x (preorder t) → has_number n (written_by x) ≡ true → carried t n ≡ Some y.0 → mark_of (symbol_at (built_table t) y) ≡ true
  by-node n y (Node kind m span id ps) among has e = elim (or-cases (has_number n (repeated (scope_names (scope_form kind) m ps))) (has_number n (node_heads (Node kind m span id ps))) (sym (number-append n (repeated (scope_names (scope_form kind) m ps)) (node_heads (Node kind m span id ps))) ∙ has)) [
    | inl k ↦ by-repeated n y kind m span id ps among k e
    | inr k ↦ by-head n y (Node kind m span id ps) among k e
  ]

  by-reference : (n : ℕ) (y : SymbolId) → HasSymbol (built_table t) y → has_number n (assigned (resolve t)) ≡ true → carried t n ≡ Some y.0 → IsMutated (built_table t) y
  by-reference n y there has e =
      let r = in-assigned n (resolve t) has in
      let k = reference-numbered t h r.0 r.1 in
      let x = some-symbol (symbol_at (built_table t) y) there in
      let target : symbol_number k.1.row.symbol_id ≡ Some y.0 = k.1.target ∙ ap (meant_symbol t) r.3 ∙ e in
      IsMutated-from (built_table t) y x.0 x.1
      (inr (k.0, built-listed t y.0 x.0 x.1 k.0 ∙ ap (λ o. points o y.0) k.1.at ∙ points-at k.1.row.symbol_id y.0 target, ap writes k.1.at ∙ k.1.write ∙ r.2))

  written-mutated : (y : SymbolId) → HasSymbol (built_table t) y → IsWritten t y → IsMutated (built_table t) y
  written-mutated y there w =
      elim (or-cases (has_number w.0 (assigned (resolve t))) (has_number w.0 (written_by_all (preorder t))) (sym (number-append w.0 (assigned (resolve t)) (written_by_all (preorder t))) ∙ w.1)) [
        | inl k ↦ by-reference w.0 y there k w.2
        | inr k ↦ let x = in-written w.0 (preorder t) k in mutated-by-mark y there (by-node w.0 y x.0 x.1 x.2 w.2)
      ]

  pub mutated-is-written : (b : NodeBinding) (y : SymbolId) → In b (bindings_of t) → carried t b.node ≡ Some y.0 → IsMutated (built_table t) y ↔ IsWritten t y
  mutated-is-written b y among e = (mutated-written b y among e, written-mutated y (symbol-is-there t h b y among e))
