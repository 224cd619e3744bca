-- What generating a name does: to the names that are taken, to the scope table, and to the ledger.
use Rattle.std.specs.Prelude.{◌≡◌, ℕ, List, [], ◌∷◌, ◌++◌, false, None, length}
use Rattle.es_base.specs.Conforms.{is_among}
use Rattle.es_base.specs.declared.ids.ScopeId.{ScopeId}
use Rattle.es_base.specs.declared.ledger.GeneratedKind.{GeneratedKind}
use Rattle.es_builders.specs.declared.bound_identifier.BoundIdentifier.{BoundIdentifier}
use Rattle.es_names.specs.Candidates.{base_of, first_free}
use Rattle.es_scopes.specs.Bindings as bindings
use Rattle.es_scopes.specs.Table.{names_at, with_binding}
use Rattle.es_scopes.specs.declared.flags.SymbolFlags.{SymbolFlags}
use Rattle.es_uids.specs.declared.traverse_scoping.TraverseScoping.{TraverseScoping}

-- each name that a scope holds is taken
abbrev pub AreTaken : TraverseScoping → ScopeId → Type 0
AreTaken t s = (name : List ℕ) → is_among name t.names ≡ false → bindings.lookup name (names_at t.scoping s) ≡ None

-- a name was generated from a base, and a symbol of this name bound in a scope
pub record IsGenerated (old new : TraverseScoping) (base : List ℕ) (scope : ScopeId) (flags : SymbolFlags) (kind : GeneratedKind) (b : BoundIdentifier) : Type 0 where
  -- the first candidate that is not taken, which is then taken
  pub name : b.name ≡ first_free old.names (base_of base)
  pub free : is_among b.name old.names ≡ false
  pub names : new.names ≡ old.names ++ b.name ∷ []
  -- a new symbol, the last name of the scope
  pub symbol : b.symbol_id.0 ≡ length old.scoping.symbols
  pub table : new.scoping ≡ with_binding old.scoping scope b.name flags
  -- one entry more
  pub ledger : new.ledger ≡ old.ledger ++ record { name = b.name; kind = kind } ∷ []
