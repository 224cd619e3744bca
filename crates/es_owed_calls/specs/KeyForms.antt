-- Computed keys of the source, as code finds them.
use Rattle.std.specs.Prelude.{ℕ, List, Bool, false, ◌&&◌, bytes_eq}
use Rattle.es_base.specs.Tree.{Tree, Node}
use Rattle.es_base.specs.declared.kind.Kind.{Kind}
use Rattle.es_base.specs.declared.ledger.LedgerEntry.{LedgerEntry}
use Rattle.es_lowered.specs.Definitions.{spelling}
use Rattle.es_lowered.specs.HelperCalls.{is_key_part}
use Rattle.es_steps.specs.Parts.{at}
use Rattle.es_steps.specs.Values.{String}

-- a node gives a key to this name
abbrev pub gives_key_at : ℕ → List LedgerEntry → List ℕ → String → Tree → Bool
gives_key_at first ledger keys s (Node Kind.AssignmentExpression m span semantic_id ps) = bytes_eq s (spelling (at 1 ps)) && is_key_part first ledger keys (at 2 ps)
gives_key_at first ledger keys s t = false
