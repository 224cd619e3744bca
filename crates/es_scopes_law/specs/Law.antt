-- The laws of built tables, and of what agrees with a tree, as the contracts of src/law.rt name them.
use Rattle.std.specs.Prelude.{◌≡◌, ℕ, List, [], true, Some, option_map}
use Rattle.es_base.specs.Conforms.{conforms}
use Rattle.es_base.specs.Numbered.{numbers, EachOnce}
use Rattle.es_base.specs.Tree.{Tree}
use Rattle.es_base.specs.declared.ids.ScopeId.{ScopeId}
use Rattle.es_base.specs.declared.ids.SymbolId.{SymbolId}
use Rattle.es_base.specs.declared.table.Place.{Place}
use Rattle.es_scopes.specs.Agreement.{Agrees, HasScopeOf}
use Rattle.es_scopes.specs.Built.{built_table}
use Rattle.es_scopes.specs.Entries.{entries_of}
use Rattle.es_scopes.specs.NodeBindings.{symbol_flags}
use Rattle.es_scopes.specs.Table.{Table, symbol_at, get_binding, without_scope}
use Rattle.es_scopes_law.specs.Build.{built_tree}
use Rattle.es_scopes_law.specs.Symbols.{declaring, counted, is_marked}

-- the table of a program of the grammar, of whose nodes no two have one number, agrees with its tree
abbrev pub BuiltAgreesLaw : Type 0
BuiltAgreesLaw = (t : Tree) → conforms Place.Program t ≡ true → EachOnce (numbers t) → Agrees [] (built_table t) (built_tree t)

-- a scope that no node of the tree has may be removed
abbrev pub RemovedAgreesLaw : Type 0
RemovedAgreesLaw = (generated : List (List ℕ)) (table : Table) (t : Tree) (s : ScopeId) → Agrees generated table t → (HasScopeOf t s → ⊥) → Agrees generated (without_scope table s) t

-- the symbol that a scope of a built table holds for a name has the flags and the mark of the identifiers that declare the name
-- in the scope
abbrev pub BuiltFlagsLaw : Type 0
BuiltFlagsLaw = (t : Tree) (s : ScopeId) (x : List ℕ) (y : SymbolId) → get_binding (built_table t) s x ≡ Some y → option_map (λ r. r.flags) (symbol_at (built_table t) y) ≡ Some (symbol_flags (counted (declaring s x (entries_of t))))

abbrev pub BuiltMarksLaw : Type 0
BuiltMarksLaw = (t : Tree) (s : ScopeId) (x : List ℕ) (y : SymbolId) → get_binding (built_table t) s x ≡ Some y → option_map (λ r. r.is_marked) (symbol_at (built_table t) y) ≡ Some (is_marked (declaring s x (entries_of t)))
