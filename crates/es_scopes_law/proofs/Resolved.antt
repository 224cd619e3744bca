-- What references mean: by the scopes of a built table, and by the names that `es_steps` sees at their places.
use Rattle.std.proofs.Common.{◌≡◌, refl, sym, ap, subst, ◌∙◌, ℕ, inl, inr, List, [], ◌∷◌, ◌++◌, length, nat_eq, Bool, true, false, true≢false, cond, ◌&&◌, ◌||◌, not, Option, Some, None}
use Rattle.std.specs.Prelude.{slice_get, is_some, bytes_eq}
use Rattle.std.specs.Option.{option_and_then}
use Rattle.std.proofs.lemmas.Bool.{and_parts}
use Rattle.std.proofs.lemmas.List.{append-nil}
use Rattle.std.proofs.lemmas.Slice.Eq.{bytes_eq-Decides}
use Rattle.es_base.specs.Carried.{symbol_number}
use Rattle.es_base.specs.Tree.{Tree, Parts, Node}
use Rattle.es_base.specs.declared.ids.ScopeId.{ScopeId}
use Rattle.es_base.specs.declared.ids.SymbolId.{SymbolId}
use Rattle.es_base.specs.declared.kind.Kind.{Kind}
use Rattle.es_scopes.specs.Agreement.{carried, names_of_node, own_name}
use Rattle.es_scopes.specs.Bindings.{lookup}
use Rattle.es_scopes.specs.Entries.{entries_of}
use Rattle.es_scopes.specs.Held.{parameter_names, other_names}
use Rattle.es_scopes.specs.NodeScopes.{is_outside}
use Rattle.es_scopes.specs.Opened.{opens_at, opened}
use Rattle.es_scopes.specs.Surroundings.{is_in_own, is_parameter_place}
use Rattle.es_scopes.specs.Table.{row_at, names_of_row, get_binding, or_else, or_none, parents, chain}
use Rattle.es_scopes.specs.Tables.{declared, none_declared, visible, is_in_parameters, first_seen, meant}
use Rattle.es_scopes.specs.declared.declare.Declarations.{Declarations}
use Rattle.es_scopes.specs.declared.surroundings.Surroundings.{Surroundings}
use Rattle.es_scopes.specs.declared.table.Scope.{Scope}
use Rattle.es_scopes.proofs.EachScope.{opens-same}
use Rattle.es_scopes.proofs.HeldTable.{names-built, names-by}
use Rattle.es_scopes.proofs.TreeLemmas.{chain-parent}
use Rattle.es_scopes_law.proofs.Held.{declared-table, visible-some}
use Rattle.es_scopes_law.proofs.Lists.{In, in-left, in-right, in-cases}
use Rattle.es_scopes_law.proofs.Rows.{ScopeOf, scopes_among, scope-parent, scope-place, scope-known, get-below}
use Rattle.es_scopes_law.proofs.ScopesAgree.{IsBuilt, rows, carries-name}
use Rattle.es_scopes_law.proofs.Seen.{seen-from-parameters}
use Rattle.es_steps.specs.Parts.{at}
use Rattle.es_steps.specs.References as steps
use Rattle.es_steps.specs.References.{Reference, is_declared, referent, reference, is_reference, is_target, references, references_in, part_references, item_references, resolve}
use Rattle.es_steps.specs.Scopes.{Declaration, names_at, scope_names, scope_form}

-- ---- the names of a node that a part of it sees

pub data PartNames (kind : Kind) (m : ℕ) (ps : Parts) (is_body : Bool) (i : ℕ) : Type 0 where
  -- none: it stands outside of the scope of the node
  outside : (opens_at kind is_body && not (is_outside kind i)) ≡ false → names_at is_body kind m ps i ≡ [] → PartNames kind m ps is_body i
  -- parameters, and an own name
  parameters : (opens_at kind is_body && not (is_outside kind i)) ≡ true → is_parameter_place kind i ≡ true → names_at is_body kind m ps i ≡ parameter_names kind ps ++ own_name kind ps → PartNames kind m ps is_body i
  -- all
  all_names : (opens_at kind is_body && not (is_outside kind i)) ≡ true → is_parameter_place kind i ≡ false → names_at is_body kind m ps i ≡ (parameter_names kind ps ++ other_names kind m ps) ++ own_name kind ps → PartNames kind m ps is_body i

part-names : (kind : Kind) (m : ℕ) (ps : Parts) (is_body : Bool) (i : ℕ) → PartNames kind m ps is_body i
part-names Kind.Program m ps is_body i = all_names refl refl (sym (append-nil _))
part-names Kind.StaticBlock m ps is_body i = all_names refl refl (sym (append-nil _))
part-names Kind.ClassExpression m ps is_body i = all_names refl refl (sym (append-nil _))
part-names Kind.ClassDeclaration m ps is_body i = all_names refl refl refl
part-names Kind.ForStatement m ps is_body i = all_names refl refl (sym (append-nil _))
part-names Kind.ForInStatement m ps is_body i = all_names refl refl (sym (append-nil _))
part-names Kind.ForOfStatement m ps is_body i = all_names refl refl (sym (append-nil _))
part-names Kind.CatchClause m ps is_body i = all_names refl refl (sym (append-nil _))
part-names Kind.BlockStatement m ps true i = outside refl refl
part-names Kind.BlockStatement m ps false i = all_names refl refl (sym (append-nil _))
part-names Kind.SwitchStatement m ps is_body i = by (nat_eq i 0) refl
  where
    by : (b : Bool) → nat_eq i 0 ≡ b → PartNames Kind.SwitchStatement m ps is_body i
    by true e = outside (ap not e) (ap (λ b. cond b [] (scope_names (scope_form Kind.SwitchStatement) m ps)) e)
    by false e = all_names (ap not e) refl (ap (λ b. cond b [] (scope_names (scope_form Kind.SwitchStatement) m ps)) e ∙ sym (append-nil _))
part-names Kind.FunctionDeclaration m ps is_body i = by (nat_eq i 1) refl
  where
    by : (b : Bool) → nat_eq i 1 ≡ b → PartNames Kind.FunctionDeclaration m ps is_body i
    by true e = parameters refl e (ap (λ b. cond b (parameter_names Kind.FunctionDeclaration ps) (scope_names (scope_form Kind.FunctionDeclaration) m ps)) e ∙ sym (append-nil _))
    by false e = all_names refl e (ap (λ b. cond b (parameter_names Kind.FunctionDeclaration ps) (scope_names (scope_form Kind.FunctionDeclaration) m ps)) e ∙ sym (append-nil _))
part-names Kind.FunctionExpression m ps is_body i = by (nat_eq i 1) refl
  where
    by : (b : Bool) → nat_eq i 1 ≡ b → PartNames Kind.FunctionExpression m ps is_body i
    by true e = parameters refl e (ap (λ b. cond b (parameter_names Kind.FunctionExpression ps) (scope_names (scope_form Kind.FunctionExpression) m ps) ++ own_name Kind.FunctionExpression ps) e)
    by false e = all_names refl e (ap (λ b. cond b (parameter_names Kind.FunctionExpression ps) (scope_names (scope_form Kind.FunctionExpression) m ps) ++ own_name Kind.FunctionExpression ps) e)
part-names Kind.ArrowFunctionExpression m ps is_body i = by (nat_eq i 0) refl
  where
    by : (b : Bool) → nat_eq i 0 ≡ b → PartNames Kind.ArrowFunctionExpression m ps is_body i
    by true e = parameters refl e (ap (λ b. cond b (parameter_names Kind.ArrowFunctionExpression ps) (scope_names (scope_form Kind.ArrowFunctionExpression) m ps)) e ∙ sym (append-nil _))
    by false e = all_names refl e (ap (λ b. cond b (parameter_names Kind.ArrowFunctionExpression ps) (scope_names (scope_form Kind.ArrowFunctionExpression) m ps)) e ∙ sym (append-nil _))
part-names kind m ps is_body i = outside refl refl

-- ---- the first declaration of a name

data First (x : List ℕ) (A B : List Declaration) : Type 0 where
  not_there : is_declared x A ≡ false → steps.declared x (A ++ B) ≡ steps.declared x B → First x A B
  there : (d : Declaration) → In d A → d.spelling ≡ x → is_declared x A ≡ true → steps.declared x (A ++ B) ≡ Some d → First x A B

first : (x : List ℕ) (A B : List Declaration) → First x A B
first x [] B = not_there refl refl
first x (d ∷ A) B = by (bytes_eq x d.spelling) refl (first x A B)
  where
    by : (b : Bool) → bytes_eq x d.spelling ≡ b → First x A B → First x (d ∷ A) B
    by true e rest = there d (inl refl) (sym ((bytes_eq-Decides x d.spelling).0 e)) (ap (λ b. b || is_declared x A) e) (ap (λ b. cond b (Some d) (steps.declared x (A ++ B))) e)
    by false e (not_there a b) = not_there (ap (λ b. b || is_declared x A) e ∙ a) (ap (λ b. cond b (Some d) (steps.declared x (A ++ B))) e ∙ b)
    by false e (there c among spelled a b) = there c (inr among) spelled (ap (λ b. b || is_declared x A) e ∙ a) (ap (λ b. cond b (Some d) (steps.declared x (A ++ B))) e ∙ b)

-- ---- scopes against names

module _ (t : Tree) (h : IsBuilt t) where
  abbrev D : Declarations
  D = declared none_declared (entries_of t)

  abbrev symbol_of : Option Declaration → Option ℕ
  symbol_of o = option_and_then (λ (d : Declaration). carried t d.number) o

  -- a name means the same in a scope and by these names
  abbrev pub Means : List Declaration → Option ScopeId → Bool → Type 0
  Means names scope b = (x : List ℕ) → symbol_number (meant D scope b x) ≡ symbol_of (steps.declared x names)

  -- what a name means in the scope numbered j
  meant-scope : (j : ℕ) (y : ScopeOf) (b : Bool) (x : List ℕ) → slice_get (scopes_among (entries_of t)) j ≡ Some y → meant D (Some (record { 0 = j })) b x ≡ or_else (visible D b (get_binding D.scoping (record { 0 = j }) x)) (meant D y.parent y.in_parameters x)
  meant-scope j y b x at =
      let s : ScopeId = record { 0 = j } in
      let live = (declared-table t).trees s (scope-known (entries_of t) j (get-below (scopes_among (entries_of t)) j y at)) in
      ap (first_seen D x b) (chain-parent (parents D.scoping.scopes) (length D.scoping.scopes) s live ∙ ap (λ o. s ∷ or_none o (chain (parents D.scoping.scopes) (length D.scoping.scopes))) (scope-parent (entries_of t) j y at))
      ∙ above y.parent
      ∙ ap (λ c. or_else (visible D b (get_binding D.scoping s x)) (meant D y.parent c x)) (scope-place (entries_of t) j y at)
    where
      above : (p : Option ScopeId) → first_seen (declared none_declared (entries_of t)) x b (record { 0 = j } ∷ or_none (Some p) (chain (parents (declared none_declared (entries_of t)).scoping.scopes) (length (declared none_declared (entries_of t)).scoping.scopes))) ≡ or_else (visible (declared none_declared (entries_of t)) b (get_binding (declared none_declared (entries_of t)).scoping (record { 0 = j }) x)) (meant (declared none_declared (entries_of t)) p (is_in_parameters (declared none_declared (entries_of t)) (record { 0 = j })) x)
      above None = refl
      above (Some p) = refl

  -- a scope around which names mean the same
  means-inside : (j : ℕ) (y : ScopeOf) (b : Bool) (A names : List Declaration) → slice_get (scopes_among (entries_of t)) j ≡ Some y
      → ((x : List ℕ) → is_some (visible D b (get_binding D.scoping (record { 0 = j }) x)) ≡ is_declared x A)
      → ((d : Declaration) → In d A → carried t d.number ≡ symbol_number (get_binding D.scoping (record { 0 = j }) d.spelling))
      → Means names y.parent y.in_parameters → Means (A ++ names) (Some (record { 0 = j })) b
  means-inside j y b A names at shown each around x = ap symbol_number (meant-scope j y b x at) ∙ by (first x A names) (visible D b (get_binding D.scoping (record { 0 = j }) x)) refl
    where
      by : First x A names → (o : Option SymbolId) → visible (declared none_declared (entries_of t)) b (get_binding (declared none_declared (entries_of t)).scoping (record { 0 = j }) x) ≡ o → symbol_number (or_else o (meant (declared none_declared (entries_of t)) y.parent y.in_parameters x)) ≡ option_and_then (λ (d : Declaration). carried t d.number) (steps.declared x (A ++ names))
      by (not_there none is) None e = around x ∙ ap (option_and_then (λ (d : Declaration). carried t d.number)) (sym is)
      by (not_there none is) (Some z) e = absurd (true≢false (sym (ap is_some e) ∙ shown x ∙ none))
      by (there d among spelled some is) None e = absurd (true≢false (sym some ∙ sym (shown x) ∙ ap is_some e))
      by (there d among spelled some is) (Some z) e =
          ap symbol_number (sym (visible-some (declared none_declared (entries_of t)) b (get_binding (declared none_declared (entries_of t)).scoping (record { 0 = j }) x) z e))
          ∙ ap (λ n. symbol_number (get_binding (declared none_declared (entries_of t)).scoping (record { 0 = j }) n)) (sym spelled)
          ∙ sym (each d among)
          ∙ ap (option_and_then (λ (d : Declaration). carried t d.number)) (sym is)

  -- the numbers on the names of the j-th node with a scope
  name-carries : (j : ℕ) (x : Tree) (d : Declaration) → slice_get (opened false t) j ≡ Some x → In d (names_of_node x) → carried t d.number ≡ symbol_number (get_binding D.scoping (record { 0 = j }) d.spelling)
  name-carries j x d at among = carries-name t h j x d at among ∙ ap (λ (l : List (Option Scope)). symbol_number (lookup d.spelling (names_of_row (row_at l j)))) (rows t h)

  -- a part of a node that has the scope numbered j, or none
  pub means-part : (kind : Kind) (m : ℕ) (span : Option (ℕ × ℕ)) (id : Option ℕ) (ps : Parts) (s : Surroundings) (j i : ℕ) (names : List Declaration)
      → (opens_at kind s.is_body ≡ true → slice_get (scopes_among (entries_of t)) j ≡ Some (record { node = m; parent = s.scope; in_parameters = s.in_parameters }))
      → (opens_at kind s.is_body ≡ true → slice_get (opened false t) j ≡ Some (Node kind m span id ps))
      → Means names s.scope s.in_parameters
      → Means (names_at s.is_body kind m ps i ++ names) (cond (is_in_own kind s i) (Some (record { 0 = j })) s.scope) (cond (is_in_own kind s i) (is_parameter_place kind i) s.in_parameters)
  means-part kind m span id ps s j i names here opens_here around = by (part-names kind m ps s.is_body i)
    where
      own : is_in_own kind s i ≡ (opens_at kind s.is_body && not (is_outside kind i))
      own = ap (λ b. b && not (is_outside kind i)) (opens-same kind s)

      moved : (ns : List Declaration) (b c : Bool) → names_at s.is_body kind m ps i ≡ ns → (opens_at kind s.is_body && not (is_outside kind i)) ≡ b → is_parameter_place kind i ≡ c → Means (ns ++ names) (cond b (Some (record { 0 = j })) s.scope) (cond b c s.in_parameters)
          → Means (names_at s.is_body kind m ps i ++ names) (cond (is_in_own kind s i) (Some (record { 0 = j })) s.scope) (cond (is_in_own kind s i) (is_parameter_place kind i) s.in_parameters)
      moved ns b c e f g means = subst (λ (v : List Declaration × Bool × Bool). Means (v.0 ++ names) (cond v.1 (Some (record { 0 = j })) s.scope) (cond v.1 v.2 s.in_parameters)) (λ k. (sym e k, sym (own ∙ f) k, sym g k)) means

      by : PartNames kind m ps s.is_body i → Means (names_at s.is_body kind m ps i ++ names) (cond (is_in_own kind s i) (Some (record { 0 = j })) s.scope) (cond (is_in_own kind s i) (is_parameter_place kind i) s.in_parameters)
      by (outside e none) = moved [] false (is_parameter_place kind i) none e refl around
      by (parameters e place are) =
          let opens_it = (and_parts (opens_at kind s.is_body) (not (is_outside kind i)) e).0 in
          moved (parameter_names kind ps ++ own_name kind ps) true true are e place
          (means-inside j (record { node = m; parent = s.scope; in_parameters = s.in_parameters }) true (parameter_names kind ps ++ own_name kind ps) names (here opens_it)
          (λ x. seen-from-parameters t kind m span id ps j x h.conforming (opens_here opens_it))
          (λ d among. name-carries j (Node kind m span id ps) d (opens_here opens_it) (subst (In d) (sym (names-by kind m span id ps)) (widened d among)))
          around)
        where
          widened : (d : Declaration) → In d (parameter_names kind ps ++ own_name kind ps) → In d ((parameter_names kind ps ++ other_names kind m ps) ++ own_name kind ps)
          widened d among = elim (in-cases d (parameter_names kind ps) (own_name kind ps) among) [
            | inl k ↦ in-left d (parameter_names kind ps ++ other_names kind m ps) (own_name kind ps) (in-left d (parameter_names kind ps) (other_names kind m ps) k)
            | inr k ↦ in-right d (parameter_names kind ps ++ other_names kind m ps) (own_name kind ps) k
          ]
      by (all_names e place are) =
          let opens_it = (and_parts (opens_at kind s.is_body) (not (is_outside kind i)) e).0 in
          moved ((parameter_names kind ps ++ other_names kind m ps) ++ own_name kind ps) true false are e place
          (means-inside j (record { node = m; parent = s.scope; in_parameters = s.in_parameters }) false ((parameter_names kind ps ++ other_names kind m ps) ++ own_name kind ps) names (here opens_it)
          (λ x. shown (get_binding D.scoping (record { 0 = j }) x) ∙ ap (λ (l : List (Option Scope)). is_some (lookup x (names_of_row (row_at l j)))) (sym (rows t h)) ∙ names-built t (Node kind m span id ps) j x h.conforming (opens_here opens_it) ∙ ap (is_declared x) (names-by kind m span id ps))
          (λ d among. name-carries j (Node kind m span id ps) d (opens_here opens_it) (subst (In d) (sym (names-by kind m span id ps)) among))
          around)
        where
          shown : (o : Option SymbolId) → is_some (visible (declared none_declared (entries_of t)) false o) ≡ is_some o
          shown None = refl
          shown (Some y) = refl
