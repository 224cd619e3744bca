-- The flags and the mark of a symbol: by the identifiers that declare its name in its scope.
use Rattle.std.specs.Prelude.{ℕ, List, [], ◌∷◌, ◌++◌, map, length, Bool, cond, ◌||◌, ◌&&◌, nat_eq, nat_le, bytes_eq, Some}
use Rattle.std.specs.List.{list_any}
use Rattle.es_base.specs.declared.ids.ScopeId.{ScopeId}
use Rattle.es_scopes.specs.NodeBindings.{NodeBinding}
use Rattle.es_scopes.specs.Tables.{is_own_name}
use Rattle.es_scopes.specs.declared.entry.Entry.{Entry}
use Rattle.es_scopes.specs.declared.entry.Entry.TheVariants as entry
use Rattle.es_scopes.specs.declared.surroundings.Declarer.{Declarer}

-- an identifier that declares, and as what
pub record Declaring : Type 0 where
  pub who : Declarer
  pub binding : NodeBinding

-- those of entries that declare this name in this scope
abbrev pub declaring : ScopeId → List ℕ → List Entry → List Declaring
declaring s x [] = []
declaring s x (entry.Binding node (Some q) who name flags head ∷ es) = cond (nat_eq q.0 s.0 && bytes_eq x name) (record { who = who; binding = record { node = node.0; name = name; flags = flags.0; head_var = head } } ∷ []) [] ++ declaring s x es
declaring s x (e ∷ es) = declaring s x es

abbrev pub bindings : List Declaring → List NodeBinding
bindings ds = map (λ d. d.binding) ds

-- but for own names of function expressions
abbrev pub beside : List Declaring → List NodeBinding
beside [] = []
beside (d ∷ ds) = cond (is_own_name d.who) (beside ds) (d.binding ∷ beside ds)

-- own names count where nothing else declares the name
abbrev pub or_all : List NodeBinding → List NodeBinding → List NodeBinding
or_all [] all = all
or_all (b ∷ bs) all = b ∷ bs

abbrev pub counted : List Declaring → List NodeBinding
counted ds = or_all (beside ds) (bindings ds)

-- a name is marked that two identifiers declare, own names aside, or a `var` in the head of a for-in or for-of
abbrev pub is_marked : List Declaring → Bool
is_marked ds = list_any (λ b. b.head_var) (bindings ds) || nat_le 2 (length (beside ds))
