use Rattle.std.proofs.Common.{◌≡◌, drop}
use Rattle.es_base.specs.Tree.{trees}
use Rattle.es_steps.specs.Printable.{are_names}
use Rattle.es_printable.proofs.directives.are_names.Given as goal

abbrev pub invariant-loop-parameter : goal.invariant-loop-parameter
invariant-loop-parameter l = are_names (trees (drop l.parameter-index l.parameters)) ≡ are_names (trees l.parameters)
