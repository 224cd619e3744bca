use Rattle.std.proofs.Common.{drop}
use Rattle.es_writing.specs.Lowered.{WarningsFit}
use Rattle.es_writing.proofs.warnings.visit_warnings.Given as goal

abbrev pub invariant-loop-warning : goal.invariant-loop-warning
invariant-loop-warning l = WarningsFit (drop l.warning-index l.warnings) → WarningsFit l.warnings
