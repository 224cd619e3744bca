use Rattle.std.proofs.Common.{ap₂, ◌∙◌, subst, List, map, Bor}
use Rattle.es_base.specs.declared.diagnostic.Diagnostic.{Diagnostic}
use Rattle.es_base.specs.declared.ledger.LedgerEntry.{LedgerEntry}
use Rattle.es_writing.specs.Lowered.{IsArranged, NamesFit, WarningsFit, entry_cmp, write_lowered}
use Rattle.es_writing.proofs.Tokens.{text_is}
use Rattle.es_writing.proofs.program.lowered_text.Goals as goal

pub returns-clause-text : goal.returns-clause-text
returns-clause-text c =
    let shown : List (Bor LedgerEntry) → List LedgerEntry = map (λ e. e.now) in
    let t = c.args.program.now in
    let shapes = c.args.outside.now in
    record {
      names = shown c.in_ok-names.names.items;
      ordered = c.in_ok-ordered.ordered.items;
      names_in_order = subst (λ (es : List LedgerEntry). IsArranged entry_cmp es (shown c.in_ok-names.names.items)) c.as_slice.ensures c.in_ok-names.ensures;
      warnings_in_order = c.in_ok-ordered.ensures;
      names_fit = subst (λ (bs : List (Bor LedgerEntry)). NamesFit (shown bs)) c.as_slice-2.ensures.value c.visit_names.ensures;
      warnings_fit = subst (λ (ds : List Diagnostic). WarningsFit ds) c.as_slice-3.ensures.value c.visit_warnings.ensures;
      written = text_is _ _ _ _ _ _ c.into_inner.ensures.items (c.in_ok-write_program.ensures.before ∙ c.new-out.ensures.before ∙ c.in_ok-with_capacity.ensures.items) c.new-out.ensures.tokens c.in_ok-write_program.ensures.ok
          (ap₂ (λ bs ds. write_lowered t (shown bs) ds shapes) c.as_slice-4.ensures.value c.as_slice-5.ensures.value);
    }
