-- In a tree that carries the numbers of its table, scopes agree: their parents, their names, and the symbols of these.
use Rattle.std.proofs.Common.{◌≡◌, refl, sym, ap, subst, ◌∙◌, ℕ, zero, suc, ◌+◌, inl, inr, List, [], ◌∷◌, Bool, true, false, Option, Some, None, arith}
use Rattle.std.specs.Prelude.{option_map, slice_get, is_some}
use Rattle.std.specs.Option.{option_and_then}
use Rattle.es_base.specs.Carried.{scope_number, symbol_number}
use Rattle.es_base.specs.Conforms.{conforms}
use Rattle.es_base.specs.Numbered.{numbers, EachOnce}
use Rattle.es_base.specs.Preorder.{number_of}
use Rattle.es_base.specs.Tree.{Tree}
use Rattle.es_base.specs.declared.ids.NodeId.{NodeId}
use Rattle.es_base.specs.declared.ids.ScopeId.{ScopeId}
use Rattle.es_base.specs.declared.ids.SymbolId.{SymbolId}
use Rattle.es_base.specs.declared.table.Place.{Place}
use Rattle.es_scopes.specs.Agreement.{carried, names_held, names_of_node, CarriesScope}
use Rattle.es_scopes.specs.Built.{built_table}
use Rattle.es_scopes.specs.Entries.{entries_of}
use Rattle.es_scopes.specs.NodeBindings.{NodeBinding, bindings_of}
use Rattle.es_scopes.specs.NodeReferences.{NodeReference}
use Rattle.es_scopes.specs.NodeScopes.{NodeScope, scopes_of}
use Rattle.es_scopes.specs.Opened.{opened}
use Rattle.es_scopes.specs.Shown.{bindings_in, references_in}
use Rattle.es_scopes.specs.Table.{Table, HasScope, HasSymbol, row_at, parent_of, parents, get_binding}
use Rattle.es_scopes.specs.Tables.{held_symbol, declared, none_declared}
use Rattle.es_scopes.specs.declared.entry.Entry.{Entry}
use Rattle.es_scopes.specs.declared.entry.Entry.TheVariants as entry
use Rattle.es_scopes.specs.declared.flags.SymbolFlags.{SymbolFlags}
use Rattle.es_scopes.specs.declared.surroundings.Declarer.{Declarer}
use Rattle.es_scopes.specs.declared.table.Scope.{Scope}
use Rattle.es_scopes.proofs.BindingOrder.{bindings-entries}
use Rattle.es_scopes.proofs.HeldTable.{names-built}
use Rattle.es_scopes.proofs.NameLemmas.{symbol-there}
use Rattle.es_scopes.proofs.OrderLemmas.{entries-ordered}
use Rattle.es_scopes.proofs.TableShown.{numbered-rows}
use Rattle.es_scopes_law.proofs.Around.{scope_node, around-program, opened-scopes}
use Rattle.es_scopes_law.proofs.Borne.{given, bearing, carried-bearing}
use Rattle.es_scopes_law.proofs.Held.{built-table}
use Rattle.es_scopes_law.proofs.Holders.{names-declared, opened-preorder, names-node}
use Rattle.es_scopes_law.proofs.Lists.{In, in-at, at-in, in-Contains}
use Rattle.es_scopes_law.proofs.Rows.{ScopeOf, scopes_among, get-map, get-some, get-below, scope-parent, scope-known, parent-before}
use Rattle.es_steps.specs.References.{is_declared}
use Rattle.es_steps.specs.Scopes.{Declaration}

-- ---- the numbers of entries

pub scope-given : (table : Table) (n r : ℕ) (es : List Entry) (j : ℕ) (x : ScopeOf) → slice_get (scopes_among es) j ≡ Some x → In (x.node, Some (n + j)) (given table n r es)
scope-given table n r [] j x h = absurd (cc h)
scope-given table n r (entry.Scope node parent in_parameters flags ∷ es) zero x h = inl ((let same : n ≡ n + 0 = omega arith in λ i. (first-node (record { node = node.0; parent = parent; in_parameters = in_parameters }) x h i, Some (same i))))
  where
    first-node : (a x : ScopeOf) → Some a ≡ Some x → a.node ≡ x.node
    first-node a x e = let same : a ≡ x = cc in ap (λ (y : ScopeOf). y.node) same
scope-given table n r (entry.Scope node parent in_parameters flags ∷ es) (suc j) x h = inr (let same : (n + 1) + j ≡ n + suc j = omega arith in subst (λ (k : ℕ). In (x.node, Some k) (given table (n + 1) r es)) same (scope-given table (n + 1) r es j x h))
scope-given table n r (entry.Body node ∷ es) j x h = inr (scope-given table n r es j x h)
scope-given table n r (entry.Binding node holder who name flags head ∷ es) j x h = inr (scope-given table n r es j x h)
scope-given table n r (entry.Reference node scope in_parameters name flags ∷ es) j x h = inr (scope-given table n (r + 1) es j x h)

pub binding-given : (table : Table) (n r : ℕ) (es : List Entry) (node : NodeId) (holder : Option ScopeId) (who : Declarer) (name : List ℕ) (flags : SymbolFlags) (head : Bool) → In (entry.Binding node holder who name flags head) es → In (node.0, held_symbol table holder name) (given table n r es)
binding-given table n r [] node holder who name flags head h = absurd h
binding-given table n r (e ∷ es) node holder who name flags head (inl is) = subst (λ (x : Entry). In (node.0, held_symbol table holder name) (given table n r (x ∷ es))) (sym is) (inl refl)
binding-given table n r (entry.Scope m parent in_parameters f ∷ es) node holder who name flags head (inr h) = inr (binding-given table (n + 1) r es node holder who name flags head h)
binding-given table n r (entry.Body m ∷ es) node holder who name flags head (inr h) = inr (binding-given table n r es node holder who name flags head h)
binding-given table n r (entry.Binding m o w x f b ∷ es) node holder who name flags head (inr h) = inr (binding-given table n r es node holder who name flags head h)
binding-given table n r (entry.Reference m scope in_parameters x f ∷ es) node holder who name flags head (inr h) = inr (binding-given table n (r + 1) es node holder who name flags head h)

pub reference-given : (table : Table) (n r : ℕ) (es : List Entry) (k : ℕ) (x : NodeReference) → slice_get (references_in es) k ≡ Some x → In (x.node, Some (r + k)) (given table n r es)
reference-given table n r [] k x h = absurd (cc h)
reference-given table n r (entry.Scope m parent in_parameters f ∷ es) k x h = inr (reference-given table (n + 1) r es k x h)
reference-given table n r (entry.Body m ∷ es) k x h = inr (reference-given table n r es k x h)
reference-given table n r (entry.Binding m o w name f b ∷ es) k x h = inr (reference-given table n r es k x h)
reference-given table n r (entry.Reference node scope in_parameters name flags ∷ es) zero x h = inl ((let same : r ≡ r + 0 = omega arith in λ i. (first-node (record { node = node.0; name = name; flags = flags }) x h i, Some (same i))))
  where
    first-node : (a x : NodeReference) → Some a ≡ Some x → a.node ≡ x.node
    first-node a x e = let same : a ≡ x = cc in ap (λ (y : NodeReference). y.node) same
reference-given table n r (entry.Reference node scope in_parameters name flags ∷ es) (suc k) x h = inr (let same : (r + 1) + k ≡ r + suc k = omega arith in subst (λ (j : ℕ). In (x.node, Some j) (given table n (r + 1) es)) same (reference-given table n (r + 1) es k x h))

-- ---- entries, by what is listed of them

pub record BindingEntry (es : List Entry) (b : NodeBinding) : Type 0 where
  pub holder : Option ScopeId
  pub who : Declarer
  pub node : NodeId
  pub flags : SymbolFlags
  pub among : In (entry.Binding node holder who b.name flags b.head_var) es
  pub number : node.0 ≡ b.node

pub binding-entry : (es : List Entry) (b : NodeBinding) → In b (bindings_in es) → BindingEntry es b
binding-entry [] b h = absurd h
binding-entry (entry.Scope m parent in_parameters f ∷ es) b h = let k = binding-entry es b h in record { holder = k.holder; who = k.who; node = k.node; flags = k.flags; among = inr k.among; number = k.number }
binding-entry (entry.Body m ∷ es) b h = let k = binding-entry es b h in record { holder = k.holder; who = k.who; node = k.node; flags = k.flags; among = inr k.among; number = k.number }
binding-entry (entry.Reference m scope in_parameters x f ∷ es) b h = let k = binding-entry es b h in record { holder = k.holder; who = k.who; node = k.node; flags = k.flags; among = inr k.among; number = k.number }
binding-entry (entry.Binding m o w x f v ∷ es) b (inr h) = let k = binding-entry es b h in record { holder = k.holder; who = k.who; node = k.node; flags = k.flags; among = inr k.among; number = k.number }
binding-entry (entry.Binding m o w x f v ∷ es) b (inl e) = record { holder = o; who = w; node = m; flags = f; among = inl (λ i. entry.Binding m o w (e i).name f (e i).head_var); number = ap (λ (y : NodeBinding). y.node) e }

pub some-same : {X : Type 0} (a b : X) → Some a ≡ Some b → a ≡ b
some-same a b e = cc

pub map-some : {X Y : Type 0} (f : X → Y) (o : Option X) (y : Y) → option_map f o ≡ Some y → (x : X) × (o ≡ Some x) × (f x ≡ y)
map-some f None y e = absurd (cc e)
map-some f (Some x) y e = (x, refl, cc)

-- ---- a tree that carries the numbers of its table

pub record IsBuilt (t : Tree) : Type 0 where
  pub conforming : conforms Place.Program t ≡ true
  pub once : EachOnce (numbers t)
  pub bears : bearing t ≡ given (built_table t) 0 0 (entries_of t)

module _ (t : Tree) (h : IsBuilt t) where
  pub carries : (n : ℕ) (id : Option ℕ) → In (n, id) (given (built_table t) 0 0 (entries_of t)) → carried t n ≡ id
  carries n id among = carried-bearing t n id h.once (subst (In (n, id)) (sym h.bears) among)

  pub rows : (built_table t).scopes ≡ (declared none_declared (entries_of t)).scoping.scopes
  rows = numbered-rows (record { declarations = declared none_declared (entries_of t); ids = []; next_scope = 0 }) (entries_of t)

  pub carries-scope : (j : ℕ) (x : ScopeOf) → slice_get (scopes_among (entries_of t)) j ≡ Some x → carried t x.node ≡ Some j
  carries-scope j x at = carries x.node (Some j) (let same : 0 + j ≡ j = omega arith in subst (λ (k : ℕ). In (x.node, Some k) (given (built_table t) 0 0 (entries_of t))) same (scope-given (built_table t) 0 0 (entries_of t) j x at))

  pub carries-binding : (node : NodeId) (holder : Option ScopeId) (who : Declarer) (name : List ℕ) (flags : SymbolFlags) (head : Bool) → In (entry.Binding node holder who name flags head) (entries_of t) → carried t node.0 ≡ held_symbol (built_table t) holder name
  carries-binding node holder who name flags head among = carries node.0 (held_symbol (built_table t) holder name) (binding-given (built_table t) 0 0 (entries_of t) node holder who name flags head among)

  -- a name of the j-th node with a scope carries the symbol that the scope holds for it
  pub carries-name : (j : ℕ) (x : Tree) (d : Declaration) → slice_get (opened false t) j ≡ Some x → In d (names_of_node x) → carried t d.number ≡ symbol_number (get_binding (built_table t) (record { 0 = j }) d.spelling)
  carries-name j x d at among =
      let found = names-declared t x j d h.conforming at among in
      let holder = found.holder in
      ap (carried t) (sym found.number) ∙ carries-binding holder.node (Some (record { 0 = j })) holder.who holder.name holder.flags holder.head holder.among
      ∙ ap (λ name. symbol_number (get_binding (built_table t) (record { 0 = j }) name)) found.spelling

  -- ---- the j-th scope

  pub record ScopeNumbered (x : NodeScope) : Type 0 where
    pub number : ℕ
    pub entry : ScopeOf
    pub at : slice_get (scopes_among (entries_of t)) number ≡ Some entry
    pub node : entry.node ≡ x.node
    pub around : option_and_then (scope_node t) (scope_number entry.parent) ≡ x.around
    pub tree : Tree
    pub opens : slice_get (opened false t) number ≡ Some tree
    pub of : number_of tree ≡ x.node

  pub scope-numbered : (x : NodeScope) → In x (scopes_of t) → ScopeNumbered x
  scope-numbered x among =
      let where_ = in-at x (scopes_of t) among in
      let j = where_.0 in
      let told = map-some (λ (y : ScopeOf). (y.node, option_and_then (scope_node t) (scope_number y.parent))) (slice_get (scopes_among (entries_of t)) j) (x.node, x.around)
      (sym (get-map _ (scopes_among (entries_of t)) j) ∙ ap (λ l. slice_get l j) (around-program t) ∙ get-map (λ (y : NodeScope). (y.node, y.around)) (scopes_of t) j ∙ ap (option_map (λ (y : NodeScope). (y.node, y.around))) where_.1) in
      let node = map-some number_of (slice_get (opened false t) j) x.node
      (sym (get-map number_of (opened false t) j) ∙ ap (λ l. slice_get l j) (opened-scopes t) ∙ get-map (λ (y : NodeScope). y.node) (scopes_of t) j ∙ ap (option_map (λ (y : NodeScope). y.node)) where_.1) in
      record {
        number = j;
        entry = told.0;
        at = told.1;
        node = ap (λ (p : ℕ × Option ℕ). p.0) told.2;
        around = ap (λ (p : ℕ × Option ℕ). p.1) told.2;
        tree = node.0;
        opens = node.1;
        of = node.2;
      }

  parent-around : (j : ℕ) (x : ScopeOf) → slice_get (scopes_among (entries_of t)) j ≡ Some x → (o : Option ScopeId) → x.parent ≡ o → scope_number o ≡ option_and_then (carried t) (option_and_then (scope_node t) (scope_number o))
  parent-around j x at None is = refl
  parent-around j x at (Some q) is =
      let above = parent-before 0 (entries_of t) j x (entries-ordered t) at q is in
      let below = get-below (scopes_among (entries_of t)) j x at in
      let y = get-some (scopes_among (entries_of t)) q.0 (omega arith) in
      sym (ap (option_and_then (carried t)) (ap (option_map (λ (z : ScopeOf). z.node)) y.1) ∙ carries-scope q.0 y.0 y.1)

  parent-is : (j : ℕ) (x : ScopeOf) → slice_get (scopes_among (entries_of t)) j ≡ Some x → parent_of (built_table t) (record { 0 = j }) ≡ x.parent
  parent-is j x at = ap (λ (l : List (Option Scope)). option_and_then (λ p. p) (parents l (record { 0 = j }))) rows ∙ ap (option_and_then (λ p. p)) (scope-parent (entries_of t) j x at)

  pub there-scope : (j : ℕ) (x : ScopeOf) → slice_get (scopes_among (entries_of t)) j ≡ Some x → HasScope (built_table t) (record { 0 = j })
  there-scope j x at = subst (λ (l : List (Option Scope)). is_some (row_at l j) ≡ true) (sym rows) (scope-known (entries_of t) j (get-below (scopes_among (entries_of t)) j x at))

  pub names-of : (x : NodeScope) (k : ScopeNumbered x) → names_held t x.node ≡ names_of_node k.tree
  names-of x k = ap (names_held t) (sym k.of) ∙ names-node t k.tree h.once (opened-preorder k.tree t (at-in k.tree (opened false t) k.number k.opens))

  pub carries-scope_of : (x : NodeScope) → In x (scopes_of t) → (s : ScopeId) × CarriesScope (built_table t) t x s
  carries-scope_of x among =
      let k = scope-numbered x among in
      let s : ScopeId = record { 0 = k.number } in (
        s,
        record {
          carries = ap (carried t) (sym k.node) ∙ carries-scope k.number k.entry k.at;
          there = there-scope k.number k.entry k.at;
          parent = ap scope_number (parent-is k.number k.entry k.at) ∙ parent-around k.number k.entry k.at k.entry.parent refl ∙ ap (option_and_then (carried t)) k.around;
          names = λ name. names-built t k.tree k.number name h.conforming k.opens ∙ ap (is_declared name) (sym (names-of x k));
          symbols = λ d held. carries-name k.number k.tree d k.opens (subst (In d) (names-of x k) (in-Contains d (names_held t x.node) held));
        },
      )

  -- each scope is of one node
  pub scopes-apart : (x y : NodeScope) → In x (scopes_of t) → In y (scopes_of t) → carried t x.node ≡ carried t y.node → x.node ≡ y.node
  scopes-apart x y in-x in-y same =
      let a = scope-numbered x in-x in
      let b = scope-numbered y in-y in
      let numbers : a.number ≡ b.number = some-same a.number b.number (sym (ap (carried t) (sym a.node) ∙ carries-scope a.number a.entry a.at) ∙ same ∙ ap (carried t) (sym b.node) ∙ carries-scope b.number b.entry b.at) in
      let one : a.entry ≡ b.entry = some-same a.entry b.entry (sym a.at ∙ ap (slice_get (scopes_among (entries_of t))) numbers ∙ b.at) in
      sym a.node ∙ ap (λ (z : ScopeOf). z.node) one ∙ b.node

  -- what an identifier carries is a symbol of the table
  pub held-there : (o : Option ScopeId) (name : List ℕ) (y : SymbolId) → held_symbol (built_table t) o name ≡ Some y.0 → (s : ScopeId) × (o ≡ Some s) × (get_binding (built_table t) s name ≡ Some y)
  held-there None name y e = absurd (cc e)
  held-there (Some s) name y e = (s, refl, by (get_binding (built_table t) s name) e)
    where
      by : (b : Option SymbolId) → symbol_number b ≡ Some y.0 → b ≡ Some y
      by None e = absurd (cc e)
      by (Some z) e = ap (λ (n : ℕ). Some (record { 0 = n })) (some-same z.0 y.0 e)

  pub record SymbolNumbered (b : NodeBinding) (y : SymbolId) : Type 0 where
    pub scope : ScopeId
    pub who : Declarer
    pub node : NodeId
    pub flags : SymbolFlags
    pub among : In (entry.Binding node (Some scope) who b.name flags b.head_var) (entries_of t)
    pub number : node.0 ≡ b.node
    pub held : get_binding (built_table t) scope b.name ≡ Some y

  pub symbol-numbered : (b : NodeBinding) (y : SymbolId) → In b (bindings_of t) → carried t b.node ≡ Some y.0 → SymbolNumbered b y
  symbol-numbered b y among carried_by =
      let e = binding-entry (entries_of t) b (subst (In b) (sym (bindings-entries t)) among) in
      let found = held-there e.holder b.name y (sym (carries-binding e.node e.holder e.who b.name e.flags b.head_var e.among) ∙ ap (carried t) e.number ∙ carried_by) in
      record { scope = found.0; who = e.who; node = e.node; flags = e.flags; among = subst (λ (o : Option ScopeId). In (entry.Binding e.node o e.who b.name e.flags b.head_var) (entries_of t)) found.1 e.among; number = e.number; held = found.2 }

  pub symbol-is-there : (b : NodeBinding) (y : SymbolId) → In b (bindings_of t) → carried t b.node ≡ Some y.0 → HasSymbol (built_table t) y
  symbol-is-there b y among carried_by =
      let k = symbol-numbered b y among carried_by in
      symbol-there (built_table t) y b.name k.scope ((built-table t).named k.scope b.name y k.held)
