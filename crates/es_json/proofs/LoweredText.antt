-- The text of a lowered program fixes its value.
use Rattle.std.proofs.Common.{◌≡◌, ℕ, ◌<◌, ◌^◌, List, [], ◌∷◌, map, Option, Some, None, arith}
use Rattle.serde_json.specs.View.{items_of}
use Rattle.serde_json.specs.Written.{compact_text}
use Rattle.es_base.specs.Tree.{Tree, Node}
use Rattle.es_base.specs.Carried.{span_of}
use Rattle.es_base.specs.Shape.{shape_number}
use Rattle.es_base.specs.declared.diagnostic.Diagnostic.{Diagnostic}
use Rattle.es_base.specs.declared.ids.NodeId.{NodeId}
use Rattle.es_base.specs.declared.ids.Span.{Span}
use Rattle.es_base.specs.declared.ledger.GeneratedKind.{GeneratedKind}
use Rattle.es_base.specs.declared.ledger.LedgerEntry.{LedgerEntry}
use Rattle.es_base.specs.declared.shape.Shape.{Shape}
use Rattle.es_writing.specs.Lowered.{NumbersFit, WarningsFit, entry_value, warning_value, number_in, write_lowered}
use Rattle.es_writing.specs.Kept.{IsKept, SpanFits}
use Rattle.es_writing.specs.Writing.{number_of}
use Rattle.es_json.specs.Printed.{IsPrintedWell, ItemsAreWell}
use Rattle.es_json.proofs.Lowered.{more_members}
use Rattle.es_json.proofs.JsonText.{one_text}
use Rattle.es_json.proofs.Well.{well_put_all, written_well, short_fits}

entry_well : (name : List ℕ) (kind : GeneratedKind) → number_in kind < 2 ^ 32 → IsPrintedWell (entry_value (record { name = name; kind = kind }))
entry_well name GeneratedKind.Temp fits = (tt, (tt, tt))
entry_well name GeneratedKind.Param fits = (tt, (tt, tt))
entry_well name (GeneratedKind.ClassTemp n) fits = (short_fits n.0 fits, (tt, (tt, tt)))
entry_well name (GeneratedKind.WeakMap n) fits = (tt, (short_fits n.0 fits, (tt, tt)))
entry_well name (GeneratedKind.StaticField n) fits = (tt, (short_fits n.0 fits, (tt, tt)))
entry_well name (GeneratedKind.Brand n) fits = (short_fits n.0 fits, (tt, (tt, tt)))
entry_well name (GeneratedKind.Method n) fits = (tt, (short_fits n.0 fits, (tt, tt)))
entry_well name (GeneratedKind.LooseKey n) fits = (tt, (short_fits n.0 fits, (tt, tt)))
entry_well name (GeneratedKind.SuperFn n) fits = (short_fits n.0 fits, (tt, (tt, tt)))
entry_well name GeneratedKind.Args fits = (tt, (tt, tt))
entry_well name GeneratedKind.Closure fits = (tt, (tt, tt))
entry_well name (GeneratedKind.Private n) fits = (short_fits n.0 fits, (tt, (tt, tt)))

names_well : (names : List LedgerEntry) → NumbersFit names → ItemsAreWell (items_of (map entry_value names))
names_well [] fits = tt
names_well (e ∷ es) fits = (entry_well e.name e.kind fits.0, names_well es fits.1)

warning_well : (node : NodeId) (span : Option Span) → node.0 < 2 ^ 32 → SpanFits (span_of span) → IsPrintedWell (warning_value (record { node = node; span = span }))
warning_well node None here fits = (tt, (short_fits node.0 here, tt))
warning_well node (Some s) here fits = (short_fits s.end fits.1, (tt, (short_fits node.0 here, (short_fits s.start fits.0, tt))))

warnings_well : (warnings : List Diagnostic) → WarningsFit warnings → ItemsAreWell (items_of (map warning_value warnings))
warnings_well [] fits = tt
warnings_well (d ∷ ds) fits = (warning_well d.node d.span fits.0 fits.1, warnings_well ds fits.2)

shape_well : (s : Shape) → IsPrintedWell (number_of (shape_number s))
shape_well Shape.S1 = omega arith
shape_well _ = omega arith

shapes_well : (shapes : List Shape) → ItemsAreWell (items_of (map (λ s. number_of (shape_number s)) shapes))
shapes_well [] = tt
shapes_well (s ∷ ss) = (shape_well s, shapes_well ss)

pub lowered_well : (t : Tree) (names : List LedgerEntry) (warnings : List Diagnostic) (shapes : List Shape) → IsKept t → NumbersFit names → WarningsFit warnings → IsPrintedWell (write_lowered t names warnings shapes)
lowered_well (Node kind id span semantic_id ps) names warnings shapes kept small fits =
    well_put_all _ (more_members names warnings shapes) (written_well (Node kind id span semantic_id ps) kept) (names_well names small, (warnings_well warnings fits, (shapes_well shapes, tt)))

pub lowered_text_fixes_value : (s t : Tree) (names names' : List LedgerEntry) (warnings warnings' : List Diagnostic) (shapes shapes' : List Shape) → IsKept s → IsKept t → NumbersFit names → NumbersFit names' → WarningsFit warnings → WarningsFit warnings'
    → compact_text (write_lowered s names warnings shapes) ≡ compact_text (write_lowered t names' warnings' shapes') → write_lowered s names warnings shapes ≡ write_lowered t names' warnings' shapes'
lowered_text_fixes_value s t names names' warnings warnings' shapes shapes' kept well small little fits good same =
    one_text _ _ (lowered_well s names warnings shapes kept small fits) (lowered_well t names' warnings' shapes' well little good) same
