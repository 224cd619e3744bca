use Rattle.std.proofs.Common.{◌≡◌, ◌++◌, drop}
use Rattle.es_opening.specs.Assigned.{names_of}
use Rattle.es_opening.specs.Gathered.{added_by, codes_seen}
use Rattle.es_steps.specs.Opening.{assigned_by}
use Rattle.es_opening.proofs.assigned.assigned_by_all.Given as goal

abbrev pub invariant-loop-code : goal.invariant-loop-code
invariant-loop-code l = names_of l.names.items ++ added_by assigned_by (codes_seen (drop l.code-index l.codes)) ≡ added_by assigned_by (codes_seen l.codes)
