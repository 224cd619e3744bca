-- What the entries of a tree are: its scopes by their flags, its identifiers that declare, and its references.
use Rattle.std.specs.Prelude.{ℕ, ◌+◌, List, [], ◌∷◌, Option, Some, None}
use Rattle.es_base.specs.declared.ids.SymbolId.{SymbolId}
use Rattle.es_scopes.specs.NodeBindings.{NodeBinding}
use Rattle.es_scopes.specs.NodeReferences.{NodeReference}
use Rattle.es_scopes.specs.declared.flags.ScopeFlags.{ScopeFlags}
use Rattle.es_scopes.specs.Table.{Table}
use Rattle.es_scopes.specs.Tables.{held_symbol, meant}
use Rattle.es_scopes.specs.declared.declare.Declarations.{Declarations}
use Rattle.es_scopes.specs.declared.entry.Entry.{Entry}
use Rattle.es_scopes.specs.declared.entry.Entry.TheVariants as entry

abbrev pub references_in : List Entry → List NodeReference
references_in [] = []
references_in (entry.Reference node scope in_parameters name flags ∷ es) = record { node = node.0; name = name; flags = flags } ∷ references_in es
references_in (e ∷ es) = references_in es

abbrev pub bindings_in : List Entry → List NodeBinding
bindings_in [] = []
bindings_in (entry.Binding node holder who name flags head ∷ es) = record { node = node.0; name = name; flags = flags.0; head_var = head } ∷ bindings_in es
bindings_in (e ∷ es) = bindings_in es

abbrev pub scope_flags_in : List Entry → List ScopeFlags
scope_flags_in [] = []
scope_flags_in (entry.Scope node parent in_parameters flags ∷ es) = flags ∷ scope_flags_in es
scope_flags_in (e ∷ es) = scope_flags_in es

-- the semantic ids of entries: of a scope and of a reference the next number, of an identifier that declares the symbol that
-- its scope holds for its name in this table
abbrev pub ids_from : Table → ℕ → ℕ → List Entry → List (Option ℕ)
ids_from t n r [] = []
ids_from t n r (entry.Scope node parent in_parameters flags ∷ es) = Some n ∷ ids_from t (n + 1) r es
ids_from t n r (entry.Body node ∷ es) = None ∷ ids_from t n r es
ids_from t n r (entry.Binding node holder who name flags head ∷ es) = held_symbol t holder name ∷ ids_from t n r es
ids_from t n r (entry.Reference node scope in_parameters name flags ∷ es) = Some r ∷ ids_from t n (r + 1) es

-- what the references mean: the symbol of the nearest scope where the name is seen
abbrev pub targets_from : Declarations → List Entry → List (Option SymbolId)
targets_from d [] = []
targets_from d (entry.Reference node scope in_parameters name flags ∷ es) = meant d scope in_parameters name ∷ targets_from d es
targets_from d (e ∷ es) = targets_from d es
