use Rattle.std.proofs.Common.{◌++◌, option_map, Bor}
use Rattle.es_base.specs.Tree.{Tree, trees}
use Rattle.es_by_number.specs.Numbered.{pairs}
use Rattle.es_lowered.specs.Lowered.{pairs_behind}
use Rattle.es_owed_initialized.proofs.PairsBehind.{pairs_more}
use Rattle.es_owed_initialized.proofs.behind.add_behind.Goals as goal

pub loop-statement-preserved : goal.loop-statement-preserved
loop-statement-preserved c =
    let statements = c.args.statements.now in
    let before = option_map (λ (x : Bor Tree). x.now) c.loop-statement.before in
    let all = pairs c.args.found.now.items ++ pairs_behind (trees statements) in
    pairs_more before statements c.loop-statement.statement-index c.statement-item.result (pairs c.loop-statement.found.items) (pairs c.add_pair.new.found.items) all c.loop-statement-test.true c.statement-item.is c.in_ok-add_pair.ensures c.loop-statement.invariant
