use Rattle.lower_with.proofs.Reasons.{refused_reason}
use Rattle.lower_with.proofs.judged.lower_changed.Goals as goal

pub returns-in-Err-shapes_if_right-clause-declined : goal.returns-in-Err-shapes_if_right-clause-declined
returns-in-Err-shapes_if_right-clause-declined g c =
    let r = c.in-Ok.lowered in
    refused_reason g.L.Lowering.makes g.L.Lowering.declines c.args.options.now r.names.entries c.args.source.now r.program c.in-Err-shapes_if_right.error c.in-Ok.ensures.made c.in-Err-shapes_if_right.ensures.refused
