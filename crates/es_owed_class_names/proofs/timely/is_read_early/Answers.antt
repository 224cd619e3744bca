use Rattle.std.proofs.Common.{sym, ap, ◌∙◌, ◌&&◌}
use Rattle.es_lowered.specs.ClassNames.{any_name, names_holding}
use Rattle.es_owed_references.proofs.Steps.{same_holding}
use Rattle.es_owed_references.specs.Moved.{functions_of, names_of}
use Rattle.es_owed_class_names.proofs.timely.is_read_early.Goals as goal

pub returns : goal.returns
returns c =
    let names = c.args.names.now in
    let fs = functions_of c.args.functions.now in
    c.any_name.ensures
    ∙ ap (λ ss. any_name (names_of ss)) c.as_slice.ensures.value
    ∙ ap (λ ss. any_name ss) (c.in_ok-holding.ensures ∙ same_holding c.in_ok-held.held names fs c.in_ok-held.ensures)
    ∙ ap (λ b. b && any_name (names_holding names fs)) (sym c.if-not-class_runs.false ∙ c.class_runs.ensures)
