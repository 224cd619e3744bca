use Rattle.std.proofs.Common.{◌≡◌, ◌++◌, map, drop}
use Rattle.es_codes.specs.CodeView.{codes_of, string_of}
use Rattle.es_steps.specs.Expressions.{template_strings}
use Rattle.es_code_calls.proofs.template.add_strings.Given as goal

abbrev pub invariant-loop-code : goal.invariant-loop-code
invariant-loop-code l = map string_of l.strings ++ template_strings (codes_of (drop l.code-index l.codes)) ≡ map string_of l.fn.strings ++ template_strings (codes_of l.fn.codes)
