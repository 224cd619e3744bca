use Rattle.std.proofs.Common.{take}
use Rattle.es_by_number.specs.Numbered.{pairs}
use Rattle.es_grouped.specs.Runs.{AreRuns}
use Rattle.es_grouped.proofs.runs.runs_of.Given as goal

abbrev pub invariant-loop-i : goal.invariant-loop-i
invariant-loop-i g l = AreRuns l.runs (pairs (take l.i l.items))
