-- What a value, and its text, fix of the program that was written (our own).
use Rattle.std.specs.Prelude.{◌≡◌, List, true}
use Rattle.serde_json.specs.Written.{compact_text}
use Rattle.es_base.specs.Carried.{stripped}
use Rattle.es_base.specs.Conforms.{conforms}
use Rattle.es_base.specs.Tree.{Tree}
use Rattle.es_base.specs.declared.diagnostic.Diagnostic.{Diagnostic}
use Rattle.es_base.specs.declared.ledger.LedgerEntry.{LedgerEntry}
use Rattle.es_base.specs.declared.shape.Shape.{Shape}
use Rattle.es_base.specs.declared.table.Place.{Place}
use Rattle.es_writing.specs.Kept.{IsKept}
use Rattle.es_writing.specs.Lowered.{NamesAreStrings, NumbersFit, WarningsFit, write_lowered}
use Rattle.es_writing.specs.Writing.{write}

-- programs with the same value are the same but for their semantic ids
abbrev pub ValueFixesTree : Type 0
ValueFixesTree =
    (s t : Tree) → conforms Place.Program s ≡ true → conforms Place.Program t ≡ true → IsKept s → IsKept t
    → write s ≡ write t → stripped s ≡ stripped t

-- so are programs with the same text
abbrev pub TextFixesTree : Type 0
TextFixesTree =
    (s t : Tree) → conforms Place.Program s ≡ true → conforms Place.Program t ≡ true → IsKept s → IsKept t
    → compact_text (write s) ≡ compact_text (write t) → stripped s ≡ stripped t

-- lowered programs with the same value are the same but for their semantic ids, ..
abbrev pub LoweredValueFixesTree : Type 0
LoweredValueFixesTree =
    (s t : Tree) (names names' : List LedgerEntry) (warnings warnings' : List Diagnostic) (shapes shapes' : List Shape)
    → conforms Place.Program s ≡ true → conforms Place.Program t ≡ true → IsKept s → IsKept t
    → write_lowered s names warnings shapes ≡ write_lowered t names' warnings' shapes' → stripped s ≡ stripped t

-- .. and have the same generated names, ..
abbrev pub LoweredValueFixesNames : Type 0
LoweredValueFixesNames =
    (s t : Tree) (names names' : List LedgerEntry) (warnings warnings' : List Diagnostic) (shapes shapes' : List Shape)
    → NamesAreStrings names → NamesAreStrings names'
    → write_lowered s names warnings shapes ≡ write_lowered t names' warnings' shapes' → names ≡ names'

-- .. warnings, ..
abbrev pub LoweredValueFixesWarnings : Type 0
LoweredValueFixesWarnings =
    (s t : Tree) (names names' : List LedgerEntry) (warnings warnings' : List Diagnostic) (shapes shapes' : List Shape)
    → write_lowered s names warnings shapes ≡ write_lowered t names' warnings' shapes' → warnings ≡ warnings'

-- .. and shapes, each list in its order
abbrev pub LoweredValueFixesShapes : Type 0
LoweredValueFixesShapes =
    (s t : Tree) (names names' : List LedgerEntry) (warnings warnings' : List Diagnostic) (shapes shapes' : List Shape)
    → write_lowered s names warnings shapes ≡ write_lowered t names' warnings' shapes' → shapes ≡ shapes'

-- lowered programs with the same text have the same value
abbrev pub LoweredTextFixesValue : Type 0
LoweredTextFixesValue =
    (s t : Tree) (names names' : List LedgerEntry) (warnings warnings' : List Diagnostic) (shapes shapes' : List Shape)
    → IsKept s → IsKept t → NumbersFit names → NumbersFit names' → WarningsFit warnings → WarningsFit warnings'
    → compact_text (write_lowered s names warnings shapes) ≡ compact_text (write_lowered t names' warnings' shapes')
    → write_lowered s names warnings shapes ≡ write_lowered t names' warnings' shapes'
