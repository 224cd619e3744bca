-- What is said of programs that agree.
use Rattle.std.proofs.Common.{◌≡◌, sym, subst, ℕ, List}
use Rattle.check_run.specs.Lines.{agreed_line}
use Rattle.check_run.specs.Outcome.{HasValidSource, IsOutputOfPair}
use Rattle.check_run.specs.Pair.{Pair}
use Rattle.check_run.specs.declared.status.CheckStatus.{CheckStatus}
use Rattle.es_base.specs.declared.ledger.LedgerEntry.{LedgerEntry}
use Rattle.es_steps.specs.declared.options.Options.{Options}
use Rattle.step_check.specs.Judged.{IsJudged}
use Rattle.step_check.specs.declared.verdict.Verdict.{Verdict}

pub agreed-output : (o : Options) (pair : Pair) (names : List LedgerEntry) (verdict : Verdict) (status : CheckStatus) (text : List ℕ)
    → HasValidSource o pair → names ≡ pair.names → verdict ≡ Verdict.Yes → IsJudged verdict o names pair.source pair.lowered → status ≡ CheckStatus.Agreed → text ≡ agreed_line → IsOutputOfPair o pair status text
agreed-output o pair names verdict status text valid same agrees judged is written =
    subst (λ (s : CheckStatus). IsOutputOfPair o pair s text) (sym is)
    (valid, subst (λ (v : Verdict). IsJudged v o pair.names pair.source pair.lowered) agrees (subst (λ (ns : List LedgerEntry). IsJudged verdict o ns pair.source pair.lowered) same judged), written)
