use Rattle.std.proofs.Common.{◌≡◌, drop}
use Rattle.es_base.specs.Tree.{trees}
use Rattle.es_lowered.specs.HelperCalls.{any_runs}
use Rattle.es_owed_initialized.proofs.runs.any_runs.Given as goal

abbrev pub invariant-loop-element : goal.invariant-loop-element
invariant-loop-element l = any_runs (trees (drop l.element-index l.elements)) ≡ any_runs (trees l.elements)
