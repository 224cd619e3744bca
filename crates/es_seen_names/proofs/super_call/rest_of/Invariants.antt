use Rattle.std.proofs.Common.{◌≡◌, drop}
use Rattle.es_base.specs.Tree.{trees}
use Rattle.es_steps.specs.Context.{rest_among}
use Rattle.es_seen_names.proofs.super_call.rest_of.Given as goal

abbrev pub invariant-loop-parameter : goal.invariant-loop-parameter
invariant-loop-parameter l = rest_among (trees (drop l.parameter-index l.parameters)) ≡ rest_among (trees l.parameters)
