-- What is written of a lowered program whose warnings are in order.
use Rattle.std.proofs.Common.{◌≡◌, ap, ◌∙◌, subst, ℕ, List, ◌∷◌, [], ◌++◌}
use Rattle.serde_json.specs.Written.{compact_text}
use Rattle.es_base.specs.Tree.{Tree}
use Rattle.es_base.specs.declared.diagnostic.Diagnostic.{Diagnostic}
use Rattle.es_base.specs.declared.ledger.LedgerEntry.{LedgerEntry}
use Rattle.es_base.specs.declared.shape.Shape.{Shape}
use Rattle.es_writing.specs.Lowered.{IsArranged, NamesFit, WarningsFit, WritesText, entry_cmp, warning_cmp, write_lowered}
use Rattle.lower_edge.specs.Lines.{line}
use Rattle.lower_run.specs.Outcome.{IsTextOf}

pub record IsWrittenSo (text : List ℕ) (t : Tree) (names : List LedgerEntry) (warnings : List Diagnostic) (outside : List Shape) : Type 0 where
  pub ordered : List LedgerEntry
  pub written : text ≡ line (compact_text (write_lowered t ordered warnings outside))
  pub arranged : IsArranged entry_cmp names ordered
  pub names_kept : NamesFit ordered
  pub kept : WarningsFit warnings

pub written-text : (text : List ℕ) (t : Tree) (names : List LedgerEntry) (warnings : List Diagnostic) (outside : List Shape) → IsTextOf text t names warnings outside → ((ordered : List Diagnostic) → IsArranged warning_cmp warnings ordered → ordered ≡ warnings) → IsWrittenSo text t names warnings outside
written-text text t names warnings outside of arranged =
    let w = of.writes in
    let same : w.ordered ≡ warnings = arranged w.ordered w.warnings_in_order in record {
      ordered = w.names;
      written = of.fed ∙ ap line (w.written ∙ ap (λ all. compact_text (write_lowered t w.names all outside)) same);
      arranged = w.names_in_order;
      names_kept = w.names_fit;
      kept = subst WarningsFit same w.warnings_fit;
    }

-- and of one with these warnings and shapes
pub text-of : (text bytes : List ℕ) (t : Tree) (names : List LedgerEntry) (warnings ws : List Diagnostic) (outside os : List Shape) → warnings ≡ ws → outside ≡ os → WritesText text t names warnings outside → bytes ≡ text ++ 10 ∷ [] → IsTextOf bytes t names ws os
text-of text bytes t names warnings ws outside os same shaped w put_in =
    record { program = text; writes = subst (λ (ss : List Shape). WritesText text t names ws ss) shaped (subst (λ (ds : List Diagnostic). WritesText text t names ds outside) same w); fed = put_in }
