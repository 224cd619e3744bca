-- The scope table as finite maps: from a scope's number to its row, and so for symbols and references.
-- Numbers are given from 0 in order. A scope that was removed has no row, and its number is not given again.
use Rattle.std.specs.Prelude.{◌≡◌, ◌<◌, ◌-◌, ◌^◌, ℕ, zero, suc, List, [], ◌∷◌, ◌++◌, Bool, true, false, Option, Some, None, IsSome, MatchOption, ◌⊎◌, unwrap_or, if◌then◌else◌, nat_eq, length, map, slice_get, option_map, option_and_then, Contains}
use Rattle.std.specs.Option.{ForSome}
use Rattle.std.specs.FinSet as set
use Rattle.es_base.specs.declared.ids.ScopeId.{ScopeId}
use Rattle.es_base.specs.declared.ids.SymbolId.{SymbolId}
use Rattle.es_base.specs.declared.ids.ReferenceId.{ReferenceId}
use Rattle.es_scopes.specs.declared.flags.ScopeFlags.{ScopeFlags}
use Rattle.es_scopes.specs.declared.flags.SymbolFlags.{SymbolFlags}
use Rattle.es_scopes.specs.declared.flags.ReferenceFlags.{ReferenceFlags}
use Rattle.es_scopes.specs.declared.table.Scope.{Scope}
use Rattle.es_scopes.specs.declared.table.Symbol.{Symbol}
use Rattle.es_scopes.specs.declared.table.Reference.{Reference}
use Rattle.es_scopes.specs.Bindings.{Names, lookup, renamed}
use Rattle.es_scopes.specs.References.{HoldsWrite}

pub record Table : Type 0 where
  pub scopes : List (Option Scope)
  pub symbols : List Symbol
  pub references : List Reference

-- ---- rows

-- a row that may be gone, of a list of them
abbrev pub row_at : {X : Type 0} → List (Option X) → ℕ → Option X
row_at rows i = option_and_then (λ row. row) (slice_get rows i)

abbrev pub scope_at : Table → ScopeId → Option Scope
scope_at t s = row_at t.scopes s.0

abbrev pub symbol_at : Table → SymbolId → Option Symbol
symbol_at t y = slice_get t.symbols y.0

abbrev pub reference_at : Table → ReferenceId → Option Reference
reference_at t r = slice_get t.references r.0

abbrev pub HasScope : Table → ScopeId → Type 0
HasScope t s = IsSome (scope_at t s)

abbrev pub HasSymbol : Table → SymbolId → Type 0
HasSymbol t y = IsSome (symbol_at t y)

abbrev pub HasReference : Table → ReferenceId → Type 0
HasReference t r = IsSome (reference_at t r)

-- a table gives at most 2^32 - 1 numbers of each kind
abbrev pub HasRoom : {X : Type 0} → List X → Type 0
HasRoom rows = length rows < 2 ^ 32 - 1

-- ---- scopes: parents and ancestors

-- the parent of a scope of the table, unless it is a root
abbrev pub parents : List (Option Scope) → ScopeId → Option (Option ScopeId)
parents scopes s = option_map (λ x. x.parent) (row_at scopes s.0)

abbrev pub parent_of : Table → ScopeId → Option ScopeId
parent_of t s = option_and_then (λ p. p) (parents t.scopes s)

abbrev pub or_none : Option (Option ScopeId) → (ScopeId → List ScopeId) → List ScopeId
or_none (Some (Some p)) above = above p
or_none parent above = []

-- a scope, its parent, and so on, at most n of them
abbrev pub chain : (ScopeId → Option (Option ScopeId)) → ℕ → ScopeId → List ScopeId
chain parent zero s = []
chain parent (suc n) s = s ∷ or_none (parent s) (chain parent n)

-- a scope and those around it, up to the root: no chain is longer than the table
abbrev pub scope_ancestors : Table → ScopeId → List ScopeId
scope_ancestors t s = chain (parents t.scopes) (length t.scopes) s

-- those from a scope, where there is one
abbrev pub ancestors_from : Table → Option ScopeId → List ScopeId
ancestors_from t None = []
ancestors_from t (Some s) = scope_ancestors t s

-- a scope is s, or stands below it
abbrev pub IsWithin : Table → ScopeId → ScopeId → Type 0
IsWithin t s p = Contains (scope_ancestors t p) s

abbrev pub HasScopeIfAny : Table → Option ScopeId → Type 0
HasScopeIfAny t s = ForSome s (HasScope t)

-- ---- names

abbrev pub names_of_row : Option Scope → Names
names_of_row None = []
names_of_row (Some x) = x.names

-- the names that a scope holds
abbrev pub names_at : Table → ScopeId → Names
names_at t s = names_of_row (scope_at t s)

-- the symbol that a scope holds for a name
abbrev pub get_binding : Table → ScopeId → List ℕ → Option SymbolId
get_binding t s name = lookup name (names_at t s)

abbrev pub or_else : Option SymbolId → Option SymbolId → Option SymbolId
or_else None other = other
or_else (Some y) other = Some y

-- the symbol that the first of these scopes holds that holds the name
abbrev pub first_binding : Table → List ℕ → List ScopeId → Option SymbolId
first_binding t name [] = None
first_binding t name (s ∷ ss) = or_else (get_binding t s name) (first_binding t name ss)

-- what a name means in a scope: the symbol of the nearest scope from there upwards that holds it
abbrev pub find_binding : Table → ScopeId → List ℕ → Option SymbolId
find_binding t s name = first_binding t name (scope_ancestors t s)

-- the name of a symbol
abbrev pub name_of : Table → SymbolId → List ℕ
name_of t y = unwrap_or (option_map (λ x. x.name) (symbol_at t y)) []

-- a scope holds a symbol
abbrev pub Holds : Table → ScopeId → SymbolId → Type 0
Holds t s y = get_binding t s (name_of t y) ≡ Some y

-- a symbol is marked, or a reference on its list writes
abbrev pub IsMutated : Table → SymbolId → Type 0
IsMutated t y = MatchOption (symbol_at t y) ⊥ (λ x. (x.is_marked ≡ true) ⊎ HoldsWrite x.references t.references)

-- ---- the table after a call

-- a list with one element changed
abbrev pub changed_at : {X : Type 0} → (X → X) → ℕ → List X → List X
changed_at f i [] = []
changed_at f zero (x ∷ xs) = f x ∷ xs
changed_at f (suc i) (x ∷ xs) = x ∷ changed_at f i xs

abbrev pub with_scope : Table → ScopeId → (Scope → Scope) → Table
with_scope t s f = record t { scopes = changed_at (option_map f) s.0 t.scopes }

abbrev pub with_symbol : Table → SymbolId → (Symbol → Symbol) → Table
with_symbol t y f = record t { symbols = changed_at f y.0 t.symbols }

abbrev pub with_reference : Table → ReferenceId → (Reference → Reference) → Table
with_reference t r f = record t { references = changed_at f r.0 t.references }

-- other flags of a scope
abbrev pub scope_flagged : ScopeFlags → Scope → Scope
scope_flagged f x = record x { flags = f }

abbrev pub with_scope_flags : Table → ScopeId → ScopeFlags → Table
with_scope_flags t s f = with_scope t s (scope_flagged f)

-- another parent, or none
abbrev pub below : Option ScopeId → Scope → Scope
below p x = record x { parent = p }

abbrev pub with_parent : Table → ScopeId → Option ScopeId → Table
with_parent t s p = with_scope t s (below p)

-- other flags of a symbol
abbrev pub symbol_flagged : SymbolFlags → Symbol → Symbol
symbol_flagged f x = record x { flags = f }

abbrev pub with_symbol_flags : Table → SymbolId → SymbolFlags → Table
with_symbol_flags t y f = with_symbol t y (symbol_flagged f)

-- with the mark
abbrev pub marked : Symbol → Symbol
marked x = record x { is_marked = true }

abbrev pub with_mark : Table → SymbolId → Table
with_mark t y = with_symbol t y marked

-- other flags of a reference
abbrev pub reference_flagged : ReferenceFlags → Reference → Reference
reference_flagged f x = record x { flags = f }

abbrev pub with_reference_flags : Table → ReferenceId → ReferenceFlags → Table
with_reference_flags t r f = with_reference t r (reference_flagged f)

-- another target
abbrev pub targeted : SymbolId → Reference → Reference
targeted y x = record x { symbol_id = Some y }

abbrev pub with_target : Table → ReferenceId → SymbolId → Table
with_target t r y = with_reference t r (targeted y)

-- a reference more on the list of a symbol
abbrev pub listing : ℕ → Symbol → Symbol
listing r x = record x { references = set.insert x.references r }

abbrev pub with_listed : Table → SymbolId → ReferenceId → Table
with_listed t y r = with_symbol t y (listing r.0)

-- and one less
abbrev pub unlisting : ℕ → Symbol → Symbol
unlisting r x = record x { references = set.remove x.references r }

abbrev pub without_listed : Table → SymbolId → ReferenceId → Table
without_listed t y r = with_symbol t y (unlisting r.0)

-- a new scope, without names
abbrev pub new_scope : Option ScopeId → ScopeFlags → Scope
new_scope p f = record { parent = p; flags = f; names = [] }

abbrev pub with_new_scope : Table → Option ScopeId → ScopeFlags → Table
with_new_scope t p f = record t { scopes = t.scopes ++ Some (new_scope p f) ∷ [] }

-- a new symbol, without references and mark
abbrev pub new_symbol : List ℕ → ScopeId → SymbolFlags → Symbol
new_symbol name s f = record { name = name; scope = s; flags = f; references = set.empty; is_marked = false }

-- one name more
abbrev pub holding : List ℕ → SymbolId → Scope → Scope
holding name y x = record x { names = x.names ++ (name, y) ∷ [] }

-- a new symbol, as the last name of a scope
abbrev pub with_binding : Table → ScopeId → List ℕ → SymbolFlags → Table
with_binding t s name f = with_scope (record t { symbols = t.symbols ++ new_symbol name s f ∷ [] }) s (holding name (record { 0 = length t.symbols }))

-- another name in the place of one
abbrev pub renaming : List ℕ → List ℕ → Scope → Scope
renaming old new x = record x { names = renamed old new x.names }

abbrev pub called : List ℕ → Symbol → Symbol
called name x = record x { name = name }

-- another name for a symbol that a scope holds, in its place
abbrev pub with_name : Table → SymbolId → ScopeId → List ℕ → Table
with_name t y s name = with_symbol (with_scope t s (renaming (name_of t y) name)) y (called name)

-- a new reference, which is on the list of its symbol
abbrev pub with_new_reference : Table → Option SymbolId → ReferenceFlags → Table
with_new_reference t y f = record t { references = t.references ++ record { symbol_id = y; flags = f } ∷ [] }

abbrev pub with_created_reference : Table → Option SymbolId → ReferenceFlags → Table
with_created_reference t None f = with_new_reference t None f
with_created_reference t (Some y) f = with_listed (with_new_reference t (Some y) f) y (record { 0 = length t.references })

abbrev pub is_scope : ScopeId → Option ScopeId → Bool
is_scope s None = false
is_scope s (Some p) = nat_eq s.0 p.0

-- the row of a scope, with this parent in the place of s
abbrev pub lifted : ScopeId → Option ScopeId → Scope → Scope
lifted s p x = record x { parent = if is_scope s x.parent then p else x.parent }

-- no scope s: those right below it stand below its parent
abbrev pub without_scope : Table → ScopeId → Table
without_scope t s = record t { scopes = changed_at (λ row. None) s.0 (map (option_map (lifted s (parent_of t s))) t.scopes) }

-- ---- what holds of every table

abbrev pub ends_from : Option (Option ScopeId) → (ScopeId → Bool) → Bool
ends_from None above = false
ends_from (Some None) above = true
ends_from (Some (Some p)) above = above p

-- a chain of parents within the table ends after at most n scopes
abbrev pub ends : (ScopeId → Option (Option ScopeId)) → ℕ → ScopeId → Bool
ends parent zero s = false
ends parent (suc n) s = ends_from (parent s) (ends parent n)

-- parents form trees
abbrev pub AreTrees : List (Option Scope) → Type 0
AreTrees scopes = (s : ScopeId) → IsSome (row_at scopes s.0) → ends (parents scopes) (length scopes) s ≡ true

-- a symbol has this name, and this scope holds it
abbrev pub IsNamed : List Symbol → SymbolId → List ℕ → ScopeId → Type 0
IsNamed symbols y name s = option_map {U = List ℕ × ScopeId} (λ x. (x.name, x.scope)) (slice_get symbols y.0) ≡ Some (name, s)

-- a name that a scope holds is that of its symbol, which knows its scope
abbrev pub AreNamed : List (Option Scope) → List Symbol → Type 0
AreNamed scopes symbols = (s : ScopeId) (name : List ℕ) (y : SymbolId) → lookup name (names_of_row (row_at scopes s.0)) ≡ Some y → IsNamed symbols y name s

-- what a reference means is a symbol of the table
abbrev pub HaveTargets : List Reference → ℕ → Type 0
HaveTargets references n = (r : ℕ) (y : SymbolId) → option_and_then (λ x. x.symbol_id) (slice_get references r) ≡ Some y → y.0 < n

abbrev pub listed : Option Symbol → ℕ → Bool
listed None r = false
listed (Some x) r = set.contains x.references r

-- the list of a symbol is of references of the table
abbrev pub AreListed : List Symbol → ℕ → Type 0
AreListed symbols n = (y r : ℕ) → listed (slice_get symbols y) r ≡ true → r < n

pub record IsTable (t : Table) : Type 0 where
  pub trees : AreTrees t.scopes
  pub named : AreNamed t.scopes t.symbols
  pub targets : HaveTargets t.references (length t.symbols)
  pub listed : AreListed t.symbols (length t.references)
