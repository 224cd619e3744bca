-- What is written is read again (our own).
use Rattle.std.specs.Prelude.{◌≡◌, List, Some}
use Rattle.es_base.specs.Tree.{Tree}
use Rattle.es_base.specs.declared.diagnostic.Diagnostic.{Diagnostic}
use Rattle.es_base.specs.declared.ledger.LedgerEntry.{LedgerEntry}
use Rattle.es_base.specs.declared.shape.Shape.{Shape}
use Rattle.es_ledger.specs.Ledger.{ledger_in}
use Rattle.es_writing.specs.Lowered.{NamesFit, write_lowered}

-- the value of a lowered program lists the names that it was written with
abbrev pub WrittenNamesAreRead : Type 0
WrittenNamesAreRead =
    (t : Tree) (names : List LedgerEntry) (warnings : List Diagnostic) (shapes : List Shape)
    → NamesFit names → ledger_in (write_lowered t names warnings shapes) ≡ Some names
