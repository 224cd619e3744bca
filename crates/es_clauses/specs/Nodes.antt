-- The node that tells of a clause that is not met.
use Rattle.std.specs.Prelude.{ℕ, List, Option, Some, None}
use Rattle.es_base.specs.Preorder.{preorder}
use Rattle.es_base.specs.Tree.{Tree}
use Rattle.es_base.specs.declared.ledger.LedgerEntry.{LedgerEntry}
use Rattle.es_clauses.specs.declared.clause.Clause.{Clause}
use Rattle.es_left.specs.Left.{first_left}
use Rattle.es_owed_definitions.specs.Unfit.{first_unfit}
use Rattle.es_steps.specs.PrivateNames.{private_members}
use Rattle.es_steps.specs.declared.options.Options.{Options}

abbrev pub or_none : Option ℕ → ℕ
or_none (Some n) = n
or_none None = 0

-- the first that is left to be lowered, the first class that does not have its definitions, and else none
abbrev pub node_of : Clause → ℕ → Options → List LedgerEntry → Tree → Tree → ℕ
node_of Clause.Left first o ledger p q = or_none (first_left o q)
node_of Clause.Definitions first o ledger p q = or_none (first_unfit first o ledger (private_members p) p q (preorder p))
node_of c first o ledger p q = 0
