use Rattle.std.proofs.Common.{◌≡◌}
use Rattle.std.proofs.lemmas.Result.{IfOk-weaker}
use Rattle.check_run.proofs.Answered.{agreed-output}
use Rattle.check_run.specs.Lines.{agreed_line}
use Rattle.check_run.specs.Outcome.{IsOutputOfPair}
use Rattle.check_run.specs.ReadPair.{pair_of}
use Rattle.check_run.specs.declared.status.CheckStatus.{CheckStatus}
use Rattle.check_run.proofs.answer.of_valid.Goals as goal

pub returns-in-Ok-Yes : goal.returns-in-Ok-Yes
returns-in-Ok-Yes c =
    IfOk-weaker c.output_with.result (λ s. (s.status ≡ CheckStatus.Agreed) × (s.text.items ≡ agreed_line)) (λ s. IsOutputOfPair c.args.options.now (pair_of c.args.pair.now) s.status s.text.items)
    (λ s h. agreed-output c.args.options.now (pair_of c.args.pair.now) c.as_slice-names.result.now c.in-Ok-Yes.field-0 s.status s.text.items c.requires.valid c.as_slice-names.ensures c.in-Ok-Yes.field-0-is c.in-Ok-Yes.ensures h.0 h.1)
    c.output_with.ensures
