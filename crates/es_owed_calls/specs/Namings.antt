-- Calls that name classes, node by node.
use Rattle.std.specs.Prelude.{ℕ, List, []}
use Rattle.es_base.specs.Tree.{Tree, Node}
use Rattle.es_base.specs.declared.kind.Kind.{Kind}
use Rattle.es_base.specs.declared.ledger.LedgerEntry.{LedgerEntry}
use Rattle.es_lowered.specs.HelperCalls.{body_naming, method_keys}
use Rattle.es_steps.specs.Parts.{at, items}

abbrev pub naming_of_node : ℕ → List LedgerEntry → Tree → List ℕ
naming_of_node first ledger (Node Kind.ClassBody m span semantic_id ps) = body_naming first ledger (method_keys first ledger (items (at 0 ps))) (items (at 0 ps))
naming_of_node first ledger t = []
