use Rattle.std.proofs.Common.{rules, tests}
use Rattle.check_run.proofs.Pairs.{pair_of_items-other}
use Rattle.check_run.proofs.pair.read_items.Goals as goal
use Rattle.check_run.proofs.pair.read_items.Goals.{in_default-via-then-items-lt2, in_default-via-else-items-lt2+else-items-lt3}

pub returns-in_default-clause-err : goal.returns-in_default-clause-err
returns-in_default-clause-err c = λ e.
    elim c.in_default.branch [
      | in_default-via-then-items-lt2 w ↦ search (rules, tests, pair_of_items-other)
      | in_default-via-else-items-lt2+else-items-lt3 w ↦ search (rules, tests, pair_of_items-other)
    ]
