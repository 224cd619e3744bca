-- What one node declares as a function.
use Rattle.std.specs.Prelude.{ℕ, List, [], ◌∷◌}
use Rattle.es_base.specs.Tree.{Tree, Node, end, more, absent, string}
use Rattle.es_base.specs.declared.kind.Kind.{Kind}
use Rattle.es_base.specs.declared.ledger.LedgerEntry.{LedgerEntry}
use Rattle.es_steps.specs.Context.{generated_as}
use Rattle.es_steps.specs.Meaning.{unless_generated}

-- a function under the number of its identifier
abbrev pub named_function : List LedgerEntry → Tree → ℕ → List (ℕ × ℕ)
named_function ledger (Node Kind.BindingIdentifier b span semantic_id (more (string x) end)) f = unless_generated (generated_as x ledger) (b, f)
named_function ledger t f = []

-- a function without name under the number of the export
abbrev pub default_function : ℕ → Tree → List (ℕ × ℕ)
default_function m (Node Kind.FunctionDeclaration f span semantic_id (more absent ps)) = (m, f) ∷ []
default_function m t = []
