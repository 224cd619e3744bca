-- What is made of a program that is judged to be right.
use Rattle.std.proofs.Common.{List, ℕ}
use Rattle.es_base.specs.Tree.{Tree}
use Rattle.es_base.specs.declared.ledger.LedgerEntry.{LedgerEntry}
use Rattle.es_steps.specs.declared.options.Options.{Options}
use Rattle.lower_run.specs.Lowering.{IsOwed, IsPlain}
use Rattle.lower_with.specs.Judged.{IsMade}

-- a right one that the lowering makes
pub made_of_right : (Makes : Options → Tree → List LedgerEntry → Tree → Type 0) (o : Options) (p q : Tree) (foreign : List ℕ) (names : List LedgerEntry) → IsOwed (IsPlain o p) o p names q → Makes o p names q → IsMade Makes o p foreign names q
made_of_right Makes o p q foreign names owed made = record { owed = owed; made = λ some. made }
