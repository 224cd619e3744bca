use Rattle.std.proofs.Common.{refl, sym, ap, ◌∙◌, get_or}
use Rattle.es_steps.specs.References.{has_number}
use Rattle.es_owed_class_names.proofs.Sets.{one_among}
use Rattle.es_owed_class_names.proofs.timely.all_classes_timely.Goals as goal

pub class_timely-requires : goal.class_timely-requires
class_timely-requires c =
    let items = c.as_slice-class-items.result.now in
    let i = c.loop-class.class-index in
    ap (has_number (get_or items i 0)) (sym c.as_slice-class-items.ensures.value) ∙ one_among items i 0 (get_or items i 0) c.loop-class-test.true refl
