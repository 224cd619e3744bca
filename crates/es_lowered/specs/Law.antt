-- The law of what a lowered program owes, as the contract of src/law.rt names it.
use Rattle.std.specs.Prelude.{◌≡◌, ℕ, List, true}
use Rattle.es_base.specs.Numbered.{EachOnce, numbers}
use Rattle.es_base.specs.Preorder.{renumbered}
use Rattle.es_base.specs.Tree.{Tree}
use Rattle.es_base.specs.declared.ledger.LedgerEntry.{LedgerEntry}
use Rattle.es_lowered.specs.Lowered.{MeetsClauses, IsLowered}
use Rattle.es_steps.specs.Standing.{all_old, all_numbers, ledger_numbers}
use Rattle.es_steps.specs.declared.options.Options.{Options}

-- new numbers in preorder give a program that owes nothing but its numbers what it owes, where the source and the ledger tell of
-- no new node
abbrev pub ClausesLaw : Type 0
ClausesLaw = (first : ℕ) (o : Options) (ledger : List LedgerEntry) (p q : Tree) → EachOnce (numbers q) → all_old first (numbers p) ≡ true → all_old first (all_numbers ledger_numbers ledger) ≡ true → MeetsClauses first o ledger p q → IsLowered first o ledger p (renumbered first first q)
