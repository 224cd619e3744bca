use Rattle.std.proofs.Common.{◌++◌, ◌∙◌, ap}
use Rattle.es_binding_faults.proofs.Appending.{OnOk-map}
use Rattle.es_binding_faults.specs.Leasts.{number_of}
use Rattle.es_binding_faults.specs.Named.{named}
use Rattle.es_by_number.specs.Numbered.{pairs}
use Rattle.es_shared_names.proofs.Nearest.{among_firsts}
use Rattle.es_shared_names.proofs.earlier.add_shared_with_firsts.Goals as goal

pub returns : goal.returns
returns c = λ front same. OnOk-map c.add_shared_among.result _ _ (λ e. e ∙ ap (λ xs. pairs c.args.found.now.items ++ xs) (among_firsts (λ s. number_of s c.args.firsts.now) front (named c.args.names.now) same)) c.add_shared_among.ensures
