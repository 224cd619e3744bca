use Rattle.std.proofs.Common.{◌∙◌}
use Rattle.es_owed_calls.proofs.SourceClasses.{by_candidates}
use Rattle.es_owed_calls.proofs.kept_keys.names_one_class.Goals as goal

pub returns : goal.returns
returns c =
    let x = c.args.lowering.now in
    c.any_names.ensures ∙ by_candidates x.first x.ledger.now x.source.now.program.now x.lowered.now.program.now c.args.number c.classes_meant.result.now c.classes_meant.ensures
