-- The first class that does not have its definitions.
use Rattle.std.specs.Prelude.{ℕ, List, [], ◌∷◌, cond, Option, Some, None}
use Rattle.es_base.specs.Preorder.{number_of}
use Rattle.es_base.specs.Tree.{Tree}
use Rattle.es_base.specs.declared.ledger.LedgerEntry.{LedgerEntry}
use Rattle.es_owed_definitions.specs.Fields.{class_stands}
use Rattle.es_steps.specs.PrivateNames.{PrivateMember}
use Rattle.es_steps.specs.declared.options.Options.{Options}

abbrev pub first_unfit : ℕ → Options → List LedgerEntry → List PrivateMember → Tree → Tree → List Tree → Option ℕ
first_unfit first o ledger members p q [] = None
first_unfit first o ledger members p q (t ∷ ts) = cond (class_stands first o ledger members p q t) (first_unfit first o ledger members p q ts) (Some (number_of t))
