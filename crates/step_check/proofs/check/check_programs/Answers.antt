use Rattle.es_base.specs.Preorder.{nodes}
use Rattle.step_check.proofs.Judging.{of_members}
use Rattle.step_check.specs.Judged.{AreJudgedFrom}
use Rattle.step_check.proofs.check.check_programs.Goals as goal

pub returns : goal.returns
returns c =
    let x = c.in_ok-pair.pair in
    let is = c.in_ok-pair.ensures in
    let source = c.args.source.now in
    of_members AreJudgedFrom c.judge_clauses.result x.first (nodes source) x.options.now c.args.options.now x.ledger.now c.args.ledger.now x.source.program.now source x.lowered.program.now c.args.lowered.now
    is.first is.ledger.0 is.ledger.1 is.programs.0 is.programs.1 c.judge_clauses.ensures
