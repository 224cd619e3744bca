use Rattle.std.proofs.Common.{◌≡◌, ◌∙◌}
use Rattle.std.specs.Str.{chars}
use Rattle.es_binding_faults.proofs.Appending.{IfOk-map}
use Rattle.es_lowered.specs.Temporaries.{chosen}
use Rattle.es_owed_temporaries.specs.Steady.{test_of}
use Rattle.es_owed_temporaries.specs.Touches.{touches_all}
use Rattle.es_owed_temporaries.proofs.steady.chosen.Goals as goal

pub returns : goal.returns
returns c =
    let test = test_of c.args.used in
    let name = chars c.args.name.now in
    IfOk-map c.chosen_among.result
    (λ r. touches_all r.items ≡ chosen test name (touches_all c.of_name.result.now))
    (λ r. touches_all r.items ≡ chosen test name (touches_all c.args.touches.now.touches.now))
    (λ r is. is ∙ c.of_name.ensures test)
    c.chosen_among.ensures
