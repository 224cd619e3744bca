-- The scopes of a built table hold the names that their nodes have by the definitions of `es_steps`.
use Rattle.std.proofs.Common.{◌≡◌, refl, sym, ap, subst, ◌∙◌, ℕ, zero, suc, ◌+◌, inl, inr, List, [], ◌∷◌, ◌++◌, length, Bool, true, false, true≢false, cond, ◌&&◌, ◌||◌, nat_eq, Option, Some, None, arith}
use Rattle.std.specs.Prelude.{is_some, slice_get, option_map, bytes_eq}
use Rattle.std.proofs.lemmas.Bool.{and_parts}
use Rattle.std.proofs.lemmas.Bool.Decides.{Decides-eqb}
use Rattle.std.proofs.lemmas.Slice.Eq.{bytes_eq-Decides}
use Rattle.es_base.specs.Conforms.{conforms}
use Rattle.es_base.specs.Preorder.{one_if}
use Rattle.es_base.specs.Tree.{Tree, Parts, Node}
use Rattle.es_base.specs.declared.ids.ScopeId.{ScopeId}
use Rattle.es_base.specs.declared.ids.SymbolId.{SymbolId}
use Rattle.es_base.specs.declared.kind.Kind.{Kind}
use Rattle.es_base.specs.declared.table.Place.{Place}
use Rattle.es_scopes.specs.Agreement.{names_of_node, own_name}
use Rattle.es_scopes.specs.Bindings.{Names, lookup}
use Rattle.es_scopes.specs.Built.{built_table}
use Rattle.es_scopes.specs.Entries.{entries_of}
use Rattle.es_scopes.specs.Held.{weight, node_weight, parameter_names, other_names, held_weight}
use Rattle.es_scopes.specs.Opened.{opened}
use Rattle.es_scopes.specs.Table.{row_at, names_of_row, changed_at, get_binding, holding, new_scope, with_binding}
use Rattle.es_scopes.specs.Tables.{bound_where, declare, declared, none_declared, Fits, AreOrdered, IsWhole}
use Rattle.es_scopes.specs.declared.declare.Declarations.{Declarations}
use Rattle.es_scopes.specs.declared.entry.Entry.{Entry}
use Rattle.es_scopes.specs.declared.entry.Entry.TheVariants as entry
use Rattle.es_scopes.specs.declared.flags.ScopeFlags.{ScopeFlags}
use Rattle.es_scopes.specs.declared.flags.SymbolFlags.{SymbolFlags}
use Rattle.es_scopes.specs.declared.surroundings.Declarer.{Declarer}
use Rattle.es_scopes.specs.declared.surroundings.Declarer.TheVariants as declarer
use Rattle.es_scopes.specs.declared.table.Scope.{Scope}
use Rattle.es_scopes.proofs.EachScope.{each-program}
use Rattle.es_scopes.proofs.OrderLemmas.{entries-ordered}
use Rattle.es_scopes.proofs.RowLemmas.{same_or_other}
use Rattle.es_scopes.proofs.TableLemmas.{row_at-changed_same, row_at-changed_other}
use Rattle.es_scopes.proofs.TableShown.{marked-rows, again-rows, numbered-rows}
use Rattle.es_scopes.proofs.TableSteps.{IsWhole-declare, scopes-declare}
use Rattle.es_steps.specs.References.{is_declared}
use Rattle.es_steps.specs.Scopes.{Declaration}

-- a scope of these rows holds the name
abbrev has_name : List (Option Scope) → ℕ → List ℕ → Bool
has_name scopes s x = is_some (lookup x (names_of_row (row_at scopes s)))

-- an entry declares the name in scope s
abbrev declares_name : ℕ → List ℕ → Entry → Bool
declares_name s x (entry.Binding node (Some q) who name flags head) = nat_eq q.0 s && bytes_eq x name
declares_name s x e = false

abbrev some_declares : ℕ → List ℕ → List Entry → Bool
some_declares s x [] = false
some_declares s x (e ∷ es) = declares_name s x e || some_declares s x es

or-false : (b : Bool) → (b || false) ≡ b
or-false true = refl
or-false false = refl

or-assoc : (a b c : Bool) → ((a || b) || c) ≡ (a || (b || c))
or-assoc true b c = refl
or-assoc false b c = refl

implied-or : (a b : Bool) → (b ≡ true → a ≡ true) → a ≡ (a || b)
implied-or true b h = refl
implied-or false true h = h refl
implied-or false false h = refl

lookup-push : (x name : List ℕ) (y : SymbolId) (names : Names) → is_some (lookup x (names ++ (name, y) ∷ [])) ≡ (is_some (lookup x names) || bytes_eq x name)
lookup-push x name y [] = last (bytes_eq x name)
  where
    last : (b : Bool) → is_some (cond b (Some y) None) ≡ b
    last true = refl
    last false = refl
lookup-push x name y (e ∷ names) = here (bytes_eq x e.0) (lookup-push x name y names)
  where
    here : (b : Bool) → is_some (lookup x (names ++ (name, y) ∷ [])) ≡ (is_some (lookup x names) || bytes_eq x name) → is_some (cond b (Some e.1) (lookup x (names ++ (name, y) ∷ []))) ≡ (is_some (cond b (Some e.1) (lookup x names)) || bytes_eq x name)
    here true k = refl
    here false k = k

name-push : (scopes : List (Option Scope)) (p : Option ScopeId) (f : ScopeFlags) (s : ℕ) (x : List ℕ) → has_name (scopes ++ Some (new_scope p f) ∷ []) s x ≡ has_name scopes s x
name-push [] p f zero x = refl
name-push [] p f (suc s) x = refl
name-push (row ∷ scopes) p f zero x = refl
name-push (row ∷ scopes) p f (suc s) x = name-push scopes p f s x

-- a name more in a row that is there
row-holds : (name x : List ℕ) (y : SymbolId) (o : Option Scope) → is_some o ≡ true → is_some (lookup x (names_of_row (option_map (holding name y) o))) ≡ (is_some (lookup x (names_of_row o)) || bytes_eq x name)
row-holds name x y None h = absurd (true≢false (sym h))
row-holds name x y (Some row) h = lookup-push x name y row.names

name-held : (scopes : List (Option Scope)) (q s : ℕ) (name x : List ℕ) (y : SymbolId) → is_some (row_at scopes q) ≡ true → has_name (changed_at (option_map (holding name y)) q scopes) s x ≡ (has_name scopes s x || (nat_eq q s && bytes_eq x name))
name-held scopes q s name x y there = elim (same_or_other s q) [
  | inl same ↦ subst (λ (k : ℕ). has_name (changed_at (option_map (holding name y)) q scopes) k x ≡ (has_name scopes k x || (nat_eq q k && bytes_eq x name))) (sym same)
      (ap (λ o. is_some (lookup x (names_of_row o))) (row_at-changed_same (holding name y) q scopes) ∙ row-holds name x y (row_at scopes q) there ∙ ap (λ b. has_name scopes q x || (b && bytes_eq x name)) (sym ((Decides-eqb q q).1 refl)))
  | inr other ↦ ap (λ o. is_some (lookup x (names_of_row o))) (row_at-changed_other (option_map (holding name y)) q s scopes other)
      ∙ sym (or-false (has_name scopes s x)) ∙ ap (λ b. has_name scopes s x || (b && bytes_eq x name)) (sym (apart q s (λ e. other (sym e))))
]
  where
    apart : (a b : ℕ) → (a ≡ b → ⊥) → nat_eq a b ≡ false
    apart a b no_same = elim (nat_eq a b) as (λ v. nat_eq a b ≡ v → v ≡ false) [
      | true ↦ λ t. absurd (no_same ((Decides-eqb a b).0 t))
      | false ↦ λ f. refl
    ] refl

-- an identifier of a name
name-bound : (o : Option SymbolId) (d : Declarations) (q : ScopeId) (who : Declarer) (name : List ℕ) (flags : SymbolFlags) (head : Bool) (s : ℕ) (x : List ℕ) → is_some (row_at d.scoping.scopes q.0) ≡ true → get_binding d.scoping q name ≡ o
    → has_name (bound_where o d q who name flags head).scoping.scopes s x ≡ (has_name d.scoping.scopes s x || (nat_eq q.0 s && bytes_eq x name))
name-bound None d q who name flags head s x there is =
    ap (λ (rows : List (Option Scope)). has_name rows s x) (marked-rows head (record { 0 = length d.scoping.symbols }) (with_binding d.scoping q name flags)) ∙ name-held d.scoping.scopes q.0 s name x (record { 0 = length d.scoping.symbols }) there
name-bound (Some y) d q who name flags head s x there is =
    ap (λ (rows : List (Option Scope)). has_name rows s x) (again-rows d y who flags head)
    ∙ implied-or (has_name d.scoping.scopes s x) (nat_eq q.0 s && bytes_eq x name) (λ h.
    let both = and_parts (nat_eq q.0 s) (bytes_eq x name) h in
    let scope : q.0 ≡ s = (Decides-eqb q.0 s).0 both.0 in
    let spelled : x ≡ name = (bytes_eq-Decides x name).0 both.1 in
    (λ i. is_some (lookup (spelled i) (names_of_row (row_at d.scoping.scopes (sym scope i))))) ∙ ap is_some is)

name-declare : (d : Declarations) (e : Entry) (s : ℕ) (x : List ℕ) → IsWhole d.scoping → Fits (length d.scoping.scopes) e → has_name (declare d e).scoping.scopes s x ≡ (has_name d.scoping.scopes s x || declares_name s x e)
name-declare d (entry.Scope node parent in_parameters flags) s x whole fits = name-push d.scoping.scopes parent flags s x ∙ sym (or-false (has_name d.scoping.scopes s x))
name-declare d (entry.Body node) s x whole fits = sym (or-false (has_name d.scoping.scopes s x))
name-declare d (entry.Binding node None who name flags head) s x whole fits = sym (or-false (has_name d.scoping.scopes s x))
name-declare d (entry.Binding node (Some q) who name flags head) s x whole fits = name-bound (get_binding d.scoping q name) d q who name flags head s x (whole q (fits q refl)) refl
name-declare d (entry.Reference node scope in_parameters name flags) s x whole fits = sym (or-false (has_name d.scoping.scopes s x))

name-declared : (d : Declarations) (es : List Entry) (s : ℕ) (x : List ℕ) → IsWhole d.scoping → AreOrdered (length d.scoping.scopes) es → has_name (declared d es).scoping.scopes s x ≡ (has_name d.scoping.scopes s x || some_declares s x es)
name-declared d [] s x whole ordered = sym (or-false (has_name d.scoping.scopes s x))
name-declared d (e ∷ es) s x whole ordered =
    name-declared (declare d e) es s x (IsWhole-declare d e whole) (subst (λ (n : ℕ). AreOrdered n es) (sym (scopes-declare d e)) ordered.1)
    ∙ ap (λ b. b || some_declares s x es) (name-declare d e s x whole ordered.0)
    ∙ or-assoc (has_name d.scoping.scopes s x) (declares_name s x e) (some_declares s x es)

-- the names of a node: its parameters, its other names, and its own name
pub names-by : (kind : Kind) (m : ℕ) (span : Option (ℕ × ℕ)) (id : Option ℕ) (ps : Parts) → names_of_node (Node kind m span id ps) ≡ (parameter_names kind ps ++ other_names kind m ps) ++ own_name kind ps
names-by Kind.Program m span id ps = refl
names-by kind m span id ps = refl

-- ---- by weight

abbrev some_weight : ℕ → Bool
some_weight zero = false
some_weight (suc n) = true

-- an identifier of this name weighs one
abbrev of_name : List ℕ → Declarer → ℕ → List ℕ → ℕ
of_name x who m name = one_if (bytes_eq x name)

weight-or : (a b : ℕ) → some_weight (a + b) ≡ (some_weight a || some_weight b)
weight-or zero b = let e : 0 + b ≡ b = omega arith in ap some_weight e
weight-or (suc a) b = let e : suc a + b ≡ suc (a + b) = omega arith in ap some_weight e

gets-some : (a b : Bool) → some_weight (cond a (one_if b) 0) ≡ (a && b)
gets-some true true = refl
gets-some true false = refl
gets-some false b = refl

held-some : (s : ℕ) (x : List ℕ) (es : List Entry) → some_weight (held_weight (of_name x) s es) ≡ some_declares s x es
held-some s x [] = refl
held-some s x (entry.Scope node parent in_parameters flags ∷ es) = held-some s x es
held-some s x (entry.Body node ∷ es) = held-some s x es
held-some s x (entry.Binding node None who name flags head ∷ es) = weight-or 0 (held_weight (of_name x) s es) ∙ held-some s x es
held-some s x (entry.Binding node (Some q) who name flags head ∷ es) =
    weight-or (cond (nat_eq q.0 s) (one_if (bytes_eq x name)) 0) (held_weight (of_name x) s es) ∙ (λ i. gets-some (nat_eq q.0 s) (bytes_eq x name) i || held-some s x es i)
held-some s x (entry.Reference node scope in_parameters name flags ∷ es) = held-some s x es

one-some : (b : Bool) → some_weight (one_if b) ≡ b
one-some true = refl
one-some false = refl

weight-some : (x : List ℕ) (who : Declarer) (ds : List Declaration) → some_weight (weight (of_name x who) ds) ≡ is_declared x ds
weight-some x who [] = refl
weight-some x who (d ∷ ds) = weight-or (one_if (bytes_eq x d.spelling)) (weight (of_name x who) ds) ∙ (λ i. one-some (bytes_eq x d.spelling) i || weight-some x who ds i)

declared-append : (x : List ℕ) (ds es : List Declaration) → is_declared x (ds ++ es) ≡ (is_declared x ds || is_declared x es)
declared-append x [] es = refl
declared-append x (d ∷ ds) es = ap (λ b. bytes_eq x d.spelling || b) (declared-append x ds es) ∙ sym (or-assoc (bytes_eq x d.spelling) (is_declared x ds) (is_declared x es))

node-some : (x : List ℕ) (t : Tree) → some_weight (node_weight (of_name x) t) ≡ is_declared x (names_of_node t)
node-some x (Node kind m span id ps) =
    let a = parameter_names kind ps in
    let b = other_names kind m ps in
    let c = own_name kind ps in
    weight-or (weight (of_name x declarer.Parameter) a + weight (of_name x declarer.Other) b) (weight (of_name x declarer.OwnName) c)
    ∙ (λ i. (weight-or (weight (of_name x declarer.Parameter) a) (weight (of_name x declarer.Other) b) ∙ (λ j. weight-some x declarer.Parameter a j || weight-some x declarer.Other b j)) i || weight-some x declarer.OwnName c i)
    ∙ ap (λ q. q || is_declared x c) (sym (declared-append x a b))
    ∙ sym (declared-append x (a ++ b) c)
    ∙ ap (is_declared x) (sym (names-by kind m span id ps))

-- the scope of the j-th node with one holds just the names of that node
pub names-built : (t node : Tree) (j : ℕ) (x : List ℕ) → conforms Place.Program t ≡ true → slice_get (opened false t) j ≡ Some node → is_some (get_binding (built_table t) (record { 0 = j }) x) ≡ is_declared x (names_of_node node)
names-built t node j x h at =
    ap (λ (rows : List (Option Scope)). has_name rows j x) (numbered-rows (record { declarations = declared none_declared (entries_of t); ids = []; next_scope = 0 }) (entries_of t))
    ∙ name-declared none_declared (entries_of t) j x (λ s l. absurd (omega arith)) (entries-ordered t)
    ∙ sym (held-some j x (entries_of t))
    ∙ ap some_weight (each-program (of_name x) t node j h at)
    ∙ node-some x node
