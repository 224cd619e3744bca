use Rattle.std.proofs.Common.{◌≡◌, drop}
use Rattle.es_steps.specs.Opening as of
use Rattle.es_codes.specs.CodeView.{opened_of}
use Rattle.es_code_rules.specs.Elsewhere.{definitions_behind}
use Rattle.es_code_rules.proofs.definitions.first_among.Given as goal

-- what is left to look through
abbrev pub invariant-loop-definition : goal.invariant-loop-definition
invariant-loop-definition l = of.definition_of (opened_of l.opened) (definitions_behind (drop l.definition-index l.definitions)) ≡ of.definition_of (opened_of l.opened) (definitions_behind l.definitions)
