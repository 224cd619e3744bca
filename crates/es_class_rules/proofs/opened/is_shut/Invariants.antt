use Rattle.std.proofs.Common.{◌≡◌, drop}
use Rattle.es_codes.specs.CodeView.{opened_of}
use Rattle.es_code_rules.specs.Elsewhere.{definitions_behind, is_shut}
use Rattle.es_class_rules.proofs.opened.is_shut.Given as goal

-- what is left to look through
abbrev pub invariant-loop-definition : goal.invariant-loop-definition
invariant-loop-definition l = is_shut (opened_of l.opened) (definitions_behind (drop l.definition-index l.shut)) ≡ is_shut (opened_of l.opened) (definitions_behind l.shut)
