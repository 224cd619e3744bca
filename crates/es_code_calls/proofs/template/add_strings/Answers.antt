use Rattle.std.proofs.Common.{◌≡◌, sym, ap, ◌∙◌, ◌++◌, ◌≤◌, ◌<◌, length, get_or, map, arith}
use Rattle.es_codes.specs.CodeView.{code_of, string_of}
use Rattle.es_codes.specs.declared.code.Code.{Code}
use Rattle.es_steps.specs.Code.{and, done}
use Rattle.es_steps.specs.Expressions.{template_strings}
use Rattle.es_code_calls.proofs.Templates.{strings_ended, strings_step}
use Rattle.es_code_calls.proofs.template.add_strings.Goals as goal

pub loop-code-preserved : goal.loop-code-preserved
loop-code-preserved c =
    let here : c.loop-code.code-index < length c.loop-code.codes = omega arith in
    let this : c.code-item.result ≡ get_or c.loop-code.codes c.loop-code.code-index c.code-item.result = cc in
    strings_step c.loop-code.codes c.loop-code.code-index c.code-item.result c.add_string.new.code (map string_of c.loop-code.strings) (map string_of c.add_string.new.strings) _ here this (c.in_ok-add_string.ensures ∙ ap (λ (z : Code). map string_of c.loop-code.strings ++ template_strings (and (code_of z) done)) (sym this)) c.loop-code.invariant

pub returns : goal.returns
returns c =
    let past : length c.loop-code.codes ≤ c.loop-code.code-index = omega arith in
    strings_ended c.loop-code.codes c.loop-code.code-index _ _ past c.loop-code.invariant
