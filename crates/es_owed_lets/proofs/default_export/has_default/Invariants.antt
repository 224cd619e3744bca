use Rattle.std.proofs.Common.{◌≡◌, drop}
use Rattle.es_base.specs.Tree.{trees}
use Rattle.es_binding_faults.specs.Seen.{seen}
use Rattle.es_lowered.specs.DefaultExport.{holds, is_default}
use Rattle.es_owed_lets.proofs.default_export.has_default.Given as goal

abbrev pub invariant-loop-statement : goal.invariant-loop-statement
invariant-loop-statement l = holds is_default (trees (seen (drop l.statement-index l.statements))) ≡ holds is_default (trees (seen l.statements))
