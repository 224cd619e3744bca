use Rattle.std.proofs.Common.{◌≡◌, List, true, false, sym, ap, ◌∙◌}
use Rattle.std.specs.Prelude.{◌&&◌}
use Rattle.es_codes.specs.CodeView.{codes_of, helper_of}
use Rattle.es_codes.specs.declared.code.Code.{Code}
use Rattle.es_code_declarations.proofs.GivenForms.{a_helper_call}
use Rattle.es_code_declarations.specs.Given.{is_loose_key, is_one_constant}
use Rattle.es_code_declarations.proofs.given.is_loose_key_call.Goals as goal

pub returns-then-is_loose_key : goal.returns-then-is_loose_key
returns-then-is_loose_key c =
    let loose : is_loose_key (helper_of c.in-HelperCall.helper) ≡ true = cc (c.is_loose_key.ensures, c.if-is_loose_key.true) in
    c.is_one_constant.ensures
    ∙ ap (λ (cs : List Code). is_one_constant (codes_of cs)) c.as_slice.ensures
    ∙ ap (λ b. b && is_one_constant (codes_of c.in-HelperCall.arguments)) (sym loose)
    ∙ sym (a_helper_call c.args.code.now c.in-HelperCall.node c.in-HelperCall.helper c.in-HelperCall.arguments c.in-HelperCall.is)

pub returns-else-is_loose_key : goal.returns-else-is_loose_key
returns-else-is_loose_key c =
    let loose : is_loose_key (helper_of c.in-HelperCall.helper) ≡ false = cc (c.is_loose_key.ensures, c.if-is_loose_key.false) in
    c.if-is_loose_key.false
    ∙ ap (λ b. b && is_one_constant (codes_of c.in-HelperCall.arguments)) (sym loose)
    ∙ sym (a_helper_call c.args.code.now c.in-HelperCall.node c.in-HelperCall.helper c.in-HelperCall.arguments c.in-HelperCall.is)
