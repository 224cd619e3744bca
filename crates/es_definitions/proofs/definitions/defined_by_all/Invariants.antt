use Rattle.std.proofs.Common.{◌≡◌, ◌++◌, drop, map}
use Rattle.es_code_rules.specs.Elsewhere.{definition_of}
use Rattle.es_opening.specs.Gathered.{added_by, codes_seen}
use Rattle.es_steps.specs.Opening.{defined_by}
use Rattle.es_definitions.proofs.definitions.defined_by_all.Given as goal

abbrev pub invariant-loop-code : goal.invariant-loop-code
invariant-loop-code l = map definition_of l.definitions ++ added_by defined_by (codes_seen (drop l.code-index l.codes)) ≡ added_by defined_by (codes_seen l.codes)
