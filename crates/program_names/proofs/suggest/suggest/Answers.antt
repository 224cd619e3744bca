use Rattle.std.proofs.Common.{◌≡◌, ◌∙◌, ap, fold, take, []}
use Rattle.std.specs.Str.{chars}
use Rattle.std.proofs.lemmas.Result.{IfOk-weaker}
use Rattle.std.proofs.lemmas.Str.{chars-nil}
use Rattle.program_names.specs.Suggested.{name_parts, or_ref, suggested, with_part}
use Rattle.program_names.proofs.suggest.suggest.Goals as goal

pub returns : goal.returns
returns c =
    let parts : chars c.as_str.result.now ≡ fold with_part [] (name_parts c.args.expression.now) =
    ap chars c.as_str.ensures.value ∙ c.in_ok-add_parts.ensures ∙ ap (λ s. fold with_part s (name_parts c.args.expression.now)) (ap chars c.new-parts.ensures.bytes ∙ chars-nil) in
    let cut : chars c.as_str-2.result.now ≡ take 20 (fold with_part [] (name_parts c.args.expression.now)) =
    ap chars c.as_str-2.ensures.value ∙ c.in_ok-name.ensures ∙ ap (take 20) parts in
    IfOk-weaker c.or_ref.result _ _ (λ name is. is ∙ ap or_ref cut) c.or_ref.ensures
