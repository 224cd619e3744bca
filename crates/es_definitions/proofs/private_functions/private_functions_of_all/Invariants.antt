use Rattle.std.proofs.Common.{◌≡◌, ◌++◌, drop}
use Rattle.es_by_number.specs.Numbered.{pairs}
use Rattle.es_opening.specs.Gathered.{added_by, codes_seen}
use Rattle.es_steps.specs.Meaning.{private_function_by}
use Rattle.es_definitions.proofs.private_functions.private_functions_of_all.Given as goal

abbrev pub invariant-loop-code : goal.invariant-loop-code
invariant-loop-code l = pairs l.functions.items ++ added_by private_function_by (codes_seen (drop l.code-index l.codes)) ≡ added_by private_function_by (codes_seen l.codes)
