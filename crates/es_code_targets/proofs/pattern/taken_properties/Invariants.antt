use Rattle.std.proofs.Common.{◌≡◌, drop}
use Rattle.es_codes.specs.CodeView.{codes_of}
use Rattle.es_steps.specs.Code.{joined}
use Rattle.es_steps.specs.Statements.{taken_properties}
use Rattle.es_code_targets.proofs.pattern.taken_properties.Given as goal

abbrev pub invariant-loop-property : goal.invariant-loop-property
invariant-loop-property l = joined (codes_of l.taken) (taken_properties l.node (codes_of (drop l.property-index l.properties))) ≡ taken_properties l.node (codes_of l.fn.properties)
