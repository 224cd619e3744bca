use Rattle.std.proofs.Common.{◌≡◌, ap, ◌∙◌}
use Rattle.std.proofs.lemmas.Result.{on_ok_weaker}
use Rattle.es_codes.specs.CodeView.{codes_of}
use Rattle.es_steps.specs.Code.{joined}
use Rattle.es_code_classes.proofs.Returns.{with_argument, without_argument}
use Rattle.es_code_classes.proofs.arrow.add_returned.Goals as goal

pub returns-then-is_empty : goal.returns-then-is_empty
returns-then-is_empty c = on_ok_weaker c.add_undefined.result (λ e. e ∙ ap (joined (codes_of c.args.to.now)) (without_argument c.is_empty.result c.args.argument c.is_empty.ensures c.if-is_empty.true)) c.add_undefined.ensures

pub returns : goal.returns
returns c =
    let same : c.as_mut_slice.result.now ≡ c.args.argument = cc (c.as_mut_slice.ensures.value) in
    on_ok_weaker c.move_codes.result (λ e. e ∙ ap (joined (codes_of c.args.to.now)) (ap codes_of same ∙ with_argument c.is_empty.result c.args.argument c.is_empty.ensures c.if-is_empty.false)) c.move_codes.ensures
