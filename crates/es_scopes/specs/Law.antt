-- The laws of agreement and of built tables, as the contracts of src/law.rt name them.
use Rattle.std.specs.Prelude.{◌≡◌, ℕ, List, ◌+◌, ◌<◌, length, is_some, true, false, Option, Some, map, option_map, slice_get, Contains}
use Rattle.es_base.specs.Conforms.{conforms}
use Rattle.es_base.specs.Tree.{Tree, Parts, Node}
use Rattle.es_base.specs.declared.ids.ScopeId.{ScopeId}
use Rattle.es_base.specs.declared.ids.SymbolId.{SymbolId}
use Rattle.es_base.specs.declared.ids.ReferenceId.{ReferenceId}
use Rattle.es_base.specs.declared.kind.Kind.{Kind}
use Rattle.es_base.specs.declared.table.Place.{Place}
use Rattle.es_scopes.specs.Agreement.{Agrees, AreAlike, HasScopeOf, HasSymbolOf, HasReferenceOf, carried, target_number, meant_symbol, names_of_node}
use Rattle.es_scopes.specs.Built.{built_table}
use Rattle.es_scopes.specs.Entries.{Collected, collected, entries_of}
use Rattle.es_scopes.specs.Held.{weight, node_weight, scope_gets, held_weight, IsElsewhere, IsNoBody}
use Rattle.es_scopes.specs.NodeBindings.{bindings_of}
use Rattle.es_scopes.specs.NodeReferences.{references_of}
use Rattle.es_scopes.specs.NodeScopes.{scopes_of, has_scope, opens}
use Rattle.es_scopes.specs.Opened.{opened}
use Rattle.es_scopes.specs.References.{writes}
use Rattle.es_scopes.specs.Shown.{bindings_in, references_in, ids_from, targets_from}
use Rattle.es_scopes.specs.Surroundings.{scope_place}
use Rattle.es_scopes.specs.Tables.{AreOrdered, scopes_in, numbering_of, declared, none_declared}
use Rattle.es_scopes.specs.declared.surroundings.Declarer.{Declarer}
use Rattle.es_scopes.specs.declared.surroundings.Declarer.TheVariants as declarer
use Rattle.es_scopes.specs.declared.surroundings.Declares.TheVariants as declares
use Rattle.es_scopes.specs.declared.surroundings.Surroundings.{Surroundings}
use Rattle.es_scopes.specs.Table.{Table, IsTable, IsMutated, parent_of, reference_at, without_scope, with_listed, without_listed, with_created_reference, get_binding, with_scope_flags, with_parent, with_new_scope, with_binding, with_name, with_symbol_flags, with_mark, with_reference_flags, with_target, with_new_reference, reference_flagged}
use Rattle.es_scopes.specs.declared.flags.ScopeFlags.{ScopeFlags}
use Rattle.es_scopes.specs.declared.flags.SymbolFlags.{SymbolFlags}
use Rattle.es_scopes.specs.declared.flags.ReferenceFlags.{ReferenceFlags}
use Rattle.es_scopes.specs.declared.table.Reference.{Reference}
use Rattle.es_steps.specs.References as steps
use Rattle.es_steps.specs.References.{is_declared}
use Rattle.es_steps.specs.Scopes.{lexical_names, var_names}

-- a table that is alike for a tree agrees with it still
abbrev pub AlikeLaw : Type 0
AlikeLaw = (generated : List (List ℕ)) (t : Tree) (before after : Table) → AreAlike t before after → Agrees generated before t → Agrees generated after t

-- in a tree that agrees with a table, what a reference means is what its number says
abbrev pub MeaningLaw : Type 0
MeaningLaw = (generated : List (List ℕ)) (table : Table) (t : Tree) → Agrees generated table t → (r : steps.Reference) → Contains (steps.resolve t) r → (k : ReferenceId) → carried t r.number ≡ Some k.0 → target_number table k ≡ meant_symbol t r.to

-- other flags of scopes and symbols
abbrev pub ScopeFlagsLaw : Type 0
ScopeFlagsLaw = (t : Tree) (table : Table) (s : ScopeId) (f : ScopeFlags) → AreAlike t table (with_scope_flags table s f)

abbrev pub SymbolFlagsLaw : Type 0
SymbolFlagsLaw = (t : Tree) (table : Table) (y : SymbolId) (f : SymbolFlags) → AreAlike t table (with_symbol_flags table y f)

-- a new scope, and what is done to a scope that is no node's
abbrev pub NewScopeLaw : Type 0
NewScopeLaw = (t : Tree) (table : Table) (p : Option ScopeId) (f : ScopeFlags) → AreAlike t table (with_new_scope table p f)

abbrev pub ParentLaw : Type 0
ParentLaw = (t : Tree) (table : Table) (s : ScopeId) (p : Option ScopeId) → (HasScopeOf t s → ⊥) → AreAlike t table (with_parent table s p)

abbrev pub BindingLaw : Type 0
BindingLaw = (t : Tree) (table : Table) (s : ScopeId) (name : List ℕ) (f : SymbolFlags) → (HasScopeOf t s → ⊥) → AreAlike t table (with_binding table s name f)

abbrev pub NameLaw : Type 0
NameLaw = (t : Tree) (table : Table) (y : SymbolId) (s : ScopeId) (name : List ℕ) → (HasScopeOf t s → ⊥) → (HasSymbolOf t y → ⊥) → AreAlike t table (with_name table y s name)

-- the mark of a symbol that is no identifier's
abbrev pub MarkLaw : Type 0
MarkLaw = (t : Tree) (table : Table) (y : SymbolId) → (HasSymbolOf t y → ⊥) → AreAlike t table (with_mark table y)

-- flags of a reference that write where the old ones do, the target of a reference that is no node's, and a new reference
abbrev pub ReferenceFlagsLaw : Type 0
ReferenceFlagsLaw = (t : Tree) (table : Table) → IsTable table → (r : ReferenceId) (f : ReferenceFlags) → ((x : Reference) → slice_get table.references r.0 ≡ Some x → writes (Some (reference_flagged f x)) ≡ writes (Some x)) → AreAlike t table (with_reference_flags table r f)

abbrev pub TargetLaw : Type 0
TargetLaw = (t : Tree) (table : Table) → IsTable table → (r : ReferenceId) (y : SymbolId) → (HasReferenceOf t r → ⊥) → AreAlike t table (with_target table r y)

abbrev pub NewReferenceLaw : Type 0
NewReferenceLaw = (t : Tree) (table : Table) → IsTable table → (y : Option SymbolId) (f : ReferenceFlags) → AreAlike t table (with_new_reference table y f)

-- a scope removed that is no node's, and that no scope of a node stands right below
abbrev pub RemovedScopeLaw : Type 0
RemovedScopeLaw = (t : Tree) (table : Table) (s : ScopeId) → (HasScopeOf t s → ⊥) → ((q : ScopeId) → HasScopeOf t q → parent_of table q ≡ Some s → ⊥) → AreAlike t table (without_scope table s)

-- a reference put on the list of a symbol or taken off it: where an identifier carries the symbol and the reference writes, the
-- symbol is mutated before, or still
abbrev pub ListedLaw : Type 0
ListedLaw = (t : Tree) (table : Table) (y : SymbolId) (r : ReferenceId) → (HasSymbolOf t y → writes (reference_at table r) ≡ true → IsMutated table y) → AreAlike t table (with_listed table y r)

abbrev pub UnlistedLaw : Type 0
UnlistedLaw = (t : Tree) (table : Table) (y : SymbolId) (r : ReferenceId) → (HasSymbolOf t y → writes (reference_at table r) ≡ true → IsMutated (without_listed table y r) y) → AreAlike t table (without_listed table y r)

-- a new reference, on the list of its symbol
abbrev pub CreatedReferenceLaw : Type 0
CreatedReferenceLaw = (t : Tree) (table : Table) → IsTable table → (o : Option SymbolId) (f : ReferenceFlags) → ((y : SymbolId) → o ≡ Some y → HasSymbolOf t y → writes (Some (record { symbol_id = o; flags = f })) ≡ true → IsMutated table y) → AreAlike t table (with_created_reference table o f)

-- ---- what a table is built from

-- the entries of a tree have its identifiers that declare and its references, in order
abbrev pub BindingsLaw : Type 0
BindingsLaw = (t : Tree) → bindings_in (entries_of t) ≡ bindings_of t

abbrev pub ReferencesLaw : Type 0
ReferencesLaw = (t : Tree) → references_in (entries_of t) ≡ references_of t

-- each names scopes that stand before it
abbrev pub OrderLaw : Type 0
OrderLaw = (t : Tree) → AreOrdered 0 (entries_of t)

-- the scopes of a built table are those of the tree, by their flags, and so are its references
abbrev pub BuiltScopesLaw : Type 0
BuiltScopesLaw = (t : Tree) → map (option_map (λ x. x.flags)) (built_table t).scopes ≡ map (λ x. Some x.flags) (scopes_of t)

abbrev pub BuiltReferencesLaw : Type 0
BuiltReferencesLaw = (t : Tree) → map (λ r. r.flags) (built_table t).references ≡ map (λ r. r.flags) (references_of t)

-- the numbers that are written on the nodes: on an identifier that declares, the symbol that its scope holds for its name
abbrev pub BuiltIdsLaw : Type 0
BuiltIdsLaw = (t : Tree) → (numbering_of (entries_of t)).ids ≡ ids_from (built_table t) 0 0 (entries_of t)

-- a reference means the symbol of the nearest scope where its name is seen, whatever is declared before it or behind
abbrev pub BuiltTargetsLaw : Type 0
BuiltTargetsLaw = (t : Tree) → map (λ r. r.symbol_id) (built_table t).references ≡ targets_from (declared none_declared (entries_of t)) (entries_of t)

-- ---- the names of scopes

-- In a tree that conforms, a node's own scope gets the names that `es_steps` collects for it, and nothing else of what stands
-- below it: `var` out of nested statements, parameters, the own name of a function expression.
abbrev pub OwnNamesLaw : Type 0
OwnNamesLaw = (w : Declarer → ℕ → List ℕ → ℕ) (place : Place) (s : Surroundings) (c : Collected) (kind : Kind) (m : ℕ) (span : Option (ℕ × ℕ)) (id : Option ℕ) (ps : Parts) → conforms place (Node kind m span id ps) ≡ true → has_scope kind ≡ true → opens kind (scope_place s) ≡ true → IsElsewhere c.next s.declares → (kind ≡ Kind.BlockStatement → IsNoBody s.declares)
    → held_weight w c.next (collected s c (Node kind m span id ps)).entries ≡ held_weight w c.next c.entries + node_weight w (Node kind m span id ps)

-- so the scope of a program holds the names of the program
abbrev pub ProgramNamesLaw : Type 0
ProgramNamesLaw = (w : Declarer → ℕ → List ℕ → ℕ) (m : ℕ) (span : Option (ℕ × ℕ)) (id : Option ℕ) (ps : Parts) → conforms Place.Program (Node Kind.Program m span id ps) ≡ true → held_weight w 0 (entries_of (Node Kind.Program m span id ps)) ≡ node_weight w (Node Kind.Program m span id ps)

-- and the scope of each node with one, in preorder, gets the names of that node, and no others
abbrev pub EachNamesLaw : Type 0
EachNamesLaw = (w : Declarer → ℕ → List ℕ → ℕ) (t x : Tree) (j : ℕ) → conforms Place.Program t ≡ true → slice_get (opened false t) j ≡ Some x → held_weight w j (entries_of t) ≡ node_weight w x

-- so each scope of a built table holds just the names of its node
abbrev pub BuiltNamesLaw : Type 0
BuiltNamesLaw = (t node : Tree) (j : ℕ) (name : List ℕ) → conforms Place.Program t ≡ true → slice_get (opened false t) j ≡ Some node → is_some (get_binding (built_table t) (record { 0 = j }) name) ≡ is_declared name (names_of_node node)

-- as many scopes are counted as nodes have one
abbrev pub ScopeCountLaw : Type 0
ScopeCountLaw = (t : Tree) → scopes_in (entries_of t) ≡ length (opened false t)

-- a scope around a statement gets the lexical names or the `var` that `es_steps` collects of it, or both
abbrev pub StatementNamesLaw : Type 0
StatementNamesLaw = (w : Declarer → ℕ → List ℕ → ℕ) (n : ℕ) (s : Surroundings) (c : Collected) (lexical var : Option ScopeId) (t : Tree) → conforms Place.Statement t ≡ true → s.declares ≡ declares.Statement lexical var → n < c.next → held_weight w n (collected s c t).entries ≡ held_weight w n c.entries + (scope_gets n lexical (weight (w declarer.Other) (lexical_names t)) + scope_gets n var (weight (w declarer.Other) (var_names t)))
