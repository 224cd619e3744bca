use Rattle.std.proofs.Common.{sym, subst}
use Rattle.lower_with.proofs.Right.{judged_owed}
use Rattle.lower_with.specs.Judged.{IsJudged}
use Rattle.lower_with.proofs.judged.fault_of.Goals as goal

pub returns-in-Ok-Yes-clause-fault : goal.returns-in-Ok-Yes-clause-fault
returns-in-Ok-Yes-clause-fault c =
    let o = c.args.options.now in
    let judged = subst (λ v. IsJudged v o c.args.names.now c.args.source.now c.args.lowered.now) c.in-Ok-Yes.field-0-is c.in-Ok-Yes.ensures.judged in
    record { program = sym c.if-not-conforms.ensures; owed = judged_owed o c.args.names.now c.args.source.now c.args.lowered.now c.requires.changed c.requires.classes judged }
