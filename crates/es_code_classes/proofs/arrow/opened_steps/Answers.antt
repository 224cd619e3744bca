use Rattle.std.proofs.Common.{◌≡◌, ◌<◌, sym, ap, ◌∙◌, List, ◌++◌, length, arith}
use Rattle.std.proofs.lemmas.Result.{IfOk-weaker}
use Rattle.std.specs.Prelude.{IsSome, option_to_list}
use Rattle.es_codes.specs.CodeView.{codes_of}
use Rattle.es_codes.specs.declared.code.Code.{Code}
use Rattle.es_steps.specs.Code as of
use Rattle.es_steps.specs.Code.{joined}
use Rattle.es_steps.specs.GeneratedForms.{ended}
use Rattle.es_code_classes.proofs.Returns.{taken_off}
use Rattle.es_code_classes.proofs.arrow.opened_steps.Goals as goal

pub returns : goal.returns
returns c =
    let before = c.pop-last.new.self.items in
    let last = c.pop-last.result in
    let parts : c.args.all ≡ before ++ option_to_list last = sym c.into_vec-before.ensures ∙ c.pop-last.ensures.items in
    let some : 0 < length c.args.all → IsSome last = λ h. c.pop-last.ensures.variant.1 (omega (arith, h, ap length c.into_vec-before.ensures, c.into_vec-before.result.ok.0)) in
    IfOk-weaker c.ended_by.result _ _ (λ e h.
    h
    ∙ ap (λ (cs : List Code). of.sequence (joined (codes_of cs) (ended (codes_of (option_to_list last))))) c.from_vec.ensures
    ∙ ap of.sequence (taken_off c.args.all before last parts some)) c.ended_by.ensures
