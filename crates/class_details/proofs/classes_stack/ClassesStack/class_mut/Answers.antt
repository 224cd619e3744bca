use Rattle.std.proofs.Common.{◌∙◌, refl, sym, ap, Some}
use Rattle.std.proofs.lemmas.Option.{slice_get-get_or}
use Rattle.class_details.proofs.Lent.{same_stack}
use Rattle.class_details.proofs.classes_stack.ClassesStack.class_mut.Goals as goal

pub returns : goal.returns
returns c = (
  (refl, λ w. same_stack _ _ _),
  record { writes_back = tt; value = slice_get-get_or c.args.self.now.classes.items c.args.place c.index_mut.result.now c.requires ∙ ap (λ x. Some x) (sym c.index_mut.ensures.value) },
)
