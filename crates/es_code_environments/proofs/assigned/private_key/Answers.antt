use Rattle.std.proofs.Common.{◌≡◌, subst, ap, ◌∙◌, ℕ, List, ◌++◌}
use Rattle.std.specs.Prelude.{IfOk}
use Rattle.std.specs.Str.{chars}
use Rattle.es_steps.specs.Evaluation.{private_key}
use Rattle.es_evaluator.proofs.Strings.{key_chars}
use Rattle.es_code_environments.proofs.assigned.private_key.Goals as goal

pub returns : goal.returns
returns c =
    let base = c.as_str.result.now in
    let bytes = c.as_str-2.ensures.value ∙ c.in_ok-push_str.ensures.bytes ∙ ap (λ (t : List ℕ). t ++ base) c.in_ok-string.ensures.ok in
    subst (λ (z : List ℕ). IfOk c.new.result (λ n. n ≡ z)) (ap chars bytes ∙ key_chars base ∙ ap private_key c.as_str.ensures) c.new.ensures
