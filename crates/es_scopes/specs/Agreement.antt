-- The agreement of a scope table with a tree: what the numbers on the nodes say is what the definitions of `es_steps` say.
-- Flags and the order of names and numbers are no part of it.
use Rattle.std.specs.Prelude.{◌≡◌, ℕ, List, [], ◌∷◌, ◌++◌, true, false, cond, nat_eq, Option, Some, None, is_some, option_and_then, Contains, ◌↔◌}
use Rattle.es_base.specs.Carried.{scope_number, symbol_number}
use Rattle.es_base.specs.Conforms.{is_among}
use Rattle.es_base.specs.Preorder.{preorder, number_of}
use Rattle.es_base.specs.Tree.{Tree, Parts, Node}
use Rattle.es_base.specs.declared.ids.ScopeId.{ScopeId}
use Rattle.es_base.specs.declared.ids.SymbolId.{SymbolId}
use Rattle.es_base.specs.declared.ids.ReferenceId.{ReferenceId}
use Rattle.es_base.specs.declared.kind.Kind.{Kind}
use Rattle.es_scopes.specs.NodeBindings.{NodeBinding, bindings_of}
use Rattle.es_scopes.specs.NodeScopes.{NodeScope, scopes_of}
use Rattle.es_scopes.specs.Table.{Table, HasScope, HasSymbol, HasReference, reference_at, parent_of, get_binding, name_of, IsMutated}
use Rattle.es_steps.specs.Parts.{at}
use Rattle.es_steps.specs.References.{Reference, resolve, written, has_number, is_declared}
use Rattle.es_steps.specs.Scopes.{Declaration, no_class, bound_part, scope_form, scope_names}
use Rattle.es_steps.specs.Values.{Referent, Bound, Free}

-- ---- what nodes carry

abbrev pub carried_by : ℕ → List Tree → Option ℕ
carried_by n [] = None
carried_by n (Node kind m span id ps ∷ ts) = cond (nat_eq n m) id (carried_by n ts)

-- the semantic id of the node of this number
abbrev pub carried : Tree → ℕ → Option ℕ
carried t n = carried_by n (preorder t)

-- the number of the symbol that a reference means: that of the identifier that declares it first
abbrev pub meant_symbol : Tree → Referent → Option ℕ
meant_symbol t (Bound d) = carried t d
meant_symbol t (Free s) = None

-- ---- the names of a scope

-- the own name of a function expression stands behind all others
abbrev pub own_name : Kind → Parts → List Declaration
own_name Kind.FunctionExpression ps = bound_part no_class (at 0 ps)
own_name kind ps = []

abbrev pub names_of_node : Tree → List Declaration
names_of_node (Node kind m span id ps) = scope_names (scope_form kind) m ps ++ own_name kind ps

abbrev pub names_in : ℕ → List Tree → List Declaration
names_in n [] = []
names_in n (t ∷ ts) = cond (nat_eq n (number_of t)) (names_of_node t) (names_in n ts)

-- those that the scope of the node of this number holds
abbrev pub names_held : Tree → ℕ → List Declaration
names_held t n = names_in n (preorder t)

-- ---- agreement

-- the number of what a reference means
abbrev pub target_number : Table → ReferenceId → Option ℕ
target_number table r = symbol_number (option_and_then (λ x. x.symbol_id) (reference_at table r))

-- A node carries this scope: its parent is that of the node around, it holds just the names of the node, and each identifier
-- that declares one of them carries its symbol.
pub record CarriesScope (table : Table) (t : Tree) (x : NodeScope) (s : ScopeId) : Type 0 where
  pub carries : carried t x.node ≡ Some s.0
  pub there : HasScope table s
  pub parent : scope_number (parent_of table s) ≡ option_and_then (carried t) x.around
  pub names : (name : List ℕ) → is_some (get_binding table s name) ≡ is_declared name (names_held t x.node)
  pub symbols : (d : Declaration) → Contains (names_held t x.node) d → carried t d.number ≡ symbol_number (get_binding table s d.spelling)

-- A node carries this reference, which means what it resolves to.
pub record CarriesReference (table : Table) (t : Tree) (r : Reference) (k : ReferenceId) : Type 0 where
  pub carries : carried t r.number ≡ Some k.0
  pub there : HasReference table k
  pub target : target_number table k ≡ meant_symbol t r.to

-- an identifier of a symbol is written somewhere
abbrev pub IsWritten : Tree → SymbolId → Type 0
IsWritten t y = (n : ℕ) × (has_number n (written t) ≡ true) × (carried t n ≡ Some y.0)

-- The table agrees with the tree; what the symbols of these generated names do is left open.
pub record Agrees (generated : List (List ℕ)) (table : Table) (t : Tree) : Type 0 where
  pub scopes : (x : NodeScope) → Contains (scopes_of t) x → (s : ScopeId) × CarriesScope table t x s
  pub apart : (x y : NodeScope) → Contains (scopes_of t) x → Contains (scopes_of t) y → carried t x.node ≡ carried t y.node → x.node ≡ y.node
  pub references : (r : Reference) → Contains (resolve t) r → (k : ReferenceId) × CarriesReference table t r k
  pub symbols : (b : NodeBinding) (y : SymbolId) → Contains (bindings_of t) b → carried t b.node ≡ Some y.0 → HasSymbol table y
  pub mutated : (b : NodeBinding) (y : SymbolId) → Contains (bindings_of t) b → carried t b.node ≡ Some y.0 → is_among (name_of table y) generated ≡ false → IsMutated table y ↔ IsWritten t y

-- ---- what of a table a tree tells

abbrev pub HasScopeOf : Tree → ScopeId → Type 0
HasScopeOf t s = (x : NodeScope) × Contains (scopes_of t) x × (carried t x.node ≡ Some s.0)

abbrev pub HasSymbolOf : Tree → SymbolId → Type 0
HasSymbolOf t y = (b : NodeBinding) × Contains (bindings_of t) b × (carried t b.node ≡ Some y.0)

abbrev pub HasReferenceOf : Tree → ReferenceId → Type 0
HasReferenceOf t k = (r : Reference) × Contains (resolve t) r × (carried t r.number ≡ Some k.0)

-- Two tables are alike for a tree: in its scopes but for their flags, in what its references mean, and in which of its symbols
-- are mutated.
pub record AreAlike (t : Tree) (before after : Table) : Type 0 where
  pub there : (s : ScopeId) → HasScopeOf t s → HasScope before s → HasScope after s
  pub parent : (s : ScopeId) → HasScopeOf t s → HasScope before s → parent_of after s ≡ parent_of before s
  pub names : (s : ScopeId) → HasScopeOf t s → HasScope before s → (name : List ℕ) → get_binding after s name ≡ get_binding before s name
  pub references : (k : ReferenceId) → HasReferenceOf t k → HasReference before k → HasReference after k
  pub targets : (k : ReferenceId) → HasReferenceOf t k → HasReference before k → target_number after k ≡ target_number before k
  pub symbols : (y : SymbolId) → HasSymbolOf t y → HasSymbol before y → HasSymbol after y
  pub mutated : (y : SymbolId) → HasSymbolOf t y → HasSymbol before y → IsMutated after y ↔ IsMutated before y
  pub called : (y : SymbolId) → HasSymbolOf t y → HasSymbol before y → name_of after y ≡ name_of before y
