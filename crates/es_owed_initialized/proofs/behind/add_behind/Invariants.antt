use Rattle.std.proofs.Common.{◌≡◌, ◌++◌, drop, option_map}
use Rattle.es_base.specs.Tree.{trees}
use Rattle.es_by_number.specs.Numbered.{pairs}
use Rattle.es_lowered.specs.Lowered.{pairs_behind}
use Rattle.es_owed_initialized.specs.Behind.{pairs_from}
use Rattle.es_owed_initialized.proofs.behind.add_behind.Given as goal

abbrev pub invariant-loop-statement : goal.invariant-loop-statement
invariant-loop-statement l = pairs l.found.items ++ pairs_from (option_map (λ x. x.now) l.before) (trees (drop l.statement-index l.statements)) ≡ pairs l.fn.found.items ++ pairs_behind (trees l.statements)
