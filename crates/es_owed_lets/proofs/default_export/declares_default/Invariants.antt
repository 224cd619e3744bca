use Rattle.std.proofs.Common.{◌≡◌, drop}
use Rattle.es_base.specs.Tree.{trees}
use Rattle.es_binding_faults.specs.Seen.{seen}
use Rattle.es_lowered.specs.DefaultExport.{declares_default, holds}
use Rattle.es_owed_lets.proofs.default_export.declares_default.Given as goal

abbrev pub invariant-loop-statement : goal.invariant-loop-statement
invariant-loop-statement l = holds declares_default (trees (seen (drop l.statement-index l.statements))) ≡ holds declares_default (trees (seen l.statements))
