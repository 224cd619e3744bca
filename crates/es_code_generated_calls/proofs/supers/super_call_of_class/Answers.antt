use Rattle.std.proofs.Common.{◌≡◌, sym, ap, ◌∙◌, List, false}
use Rattle.std.specs.Str.{chars}
use Rattle.es_codes.specs.CodeView.{codes_of}
use Rattle.es_codes.specs.declared.code.Code.{Code}
use Rattle.es_steps.specs.Code as of
use Rattle.es_code_reading.specs.Contexts.{context_of}
use Rattle.es_code_generated_calls.proofs.SuperForms.{with_some}
use Rattle.es_code_generated_calls.specs.SuperCalls.{passes_in}
use Rattle.es_code_generated_calls.proofs.supers.super_call_of_class.Goals as goal

pub returns-else-passes_all : goal.returns-else-passes_all
returns-else-passes_all c =
    let rest = chars c.args.c.now.around.rest_name.now in
    let some : passes_in rest (codes_of c.args.arguments) ≡ false = ap (λ (zs : List Code). passes_in rest (codes_of zs)) (sym c.as_slice.ensures) ∙ sym c.passes_all.ensures ∙ c.if-passes_all.false in
    c.super_call.ensures
    ∙ ap (λ o. of.super_call c.args.node c.args.class o (codes_of c.args.arguments)) c.initializers_behind-behind.ensures
    ∙ with_some (context_of c.args.c.now) c.args.node c.args.class (codes_of c.args.arguments) some
