use Rattle.std.proofs.Common.{subst, IfOk}
use Rattle.es_base.specs.Tree.{Tree}
use Rattle.es_steps.specs.Meaning.{means}
use Rattle.step_check.specs.Comparison.{IsComparison}
use Rattle.step_check.specs.Facts.{before, behind}
use Rattle.step_check.proofs.compare.compare_under.Goals as goal

pub returns : goal.returns
returns c =
    let f = c.args.facts in
    let r = c.compare_names.result in
    let p = c.args.source.now.names.program.now in
    subst (λ (t : Tree). IfOk r (λ v. IsComparison (means (before f) t) (means (behind f) c.args.lowered.now.program.now) v)) c.args.source.now.are_named
    (subst (λ (t : Tree). IfOk r (λ v. IsComparison (means (before f) p) (means (behind f) t) v)) c.args.lowered.now.are_named c.compare_names.ensures)
