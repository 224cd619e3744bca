use Rattle.std.proofs.Common.{◌≡◌, ◌++◌, drop, map}
use Rattle.es_by_number.specs.Numbered as by_number
use Rattle.es_code_rules.specs.Elsewhere.{definition_behind, definition_of}
use Rattle.es_code_rules.specs.Indexed.{numbered_definitions}
use Rattle.es_code_rules.proofs.definitions.with_numbers.Given as goal

abbrev pub invariant-loop-definition : goal.invariant-loop-definition
invariant-loop-definition l = by_number.numbered definition_behind l.items.items ++ numbered_definitions l.spellings (map definition_of (drop l.definition-index l.definitions)) ≡ numbered_definitions l.spellings (map definition_of l.definitions)
