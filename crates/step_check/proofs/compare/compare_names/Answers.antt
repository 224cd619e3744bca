use Rattle.std.proofs.Common.{subst, IfOk, List}
use Rattle.es_base.specs.declared.ledger.LedgerEntry.{LedgerEntry}
use Rattle.es_steps.specs.Meaning.{means}
use Rattle.step_check.specs.Comparison.{IsComparison}
use Rattle.step_check.specs.Facts.{behind, terms_with}
use Rattle.step_check.proofs.compare.compare_names.Goals as goal

pub returns : goal.returns
returns c =
    let f = c.args.facts in
    let p = c.args.source.now.program.now in
    let q = c.args.lowered.now.program.now in
    subst (λ (es : List LedgerEntry). IfOk c.compare_beside.result (λ v. IsComparison (means (terms_with f es) p) (means (behind f) q) v)) c.new-none.ensures c.compare_beside.ensures
