use Rattle.std.proofs.Common.{◌∙◌, ap}
use Rattle.es_grouped.specs.Groups.{having}
use Rattle.es_owed_timely.specs.Functions.{super_functions_of}
use Rattle.es_owed_timely.proofs.functions.SuperFunctions.of.Goals as goal

pub invariant_of-result : goal.invariant_of-result
invariant_of-result c = record {
  classes_are = λ m. c.in_ok-classes.ensures m ∙ ap (λ fs. having m (super_functions_of fs)) c.as_slice.ensures.value;
}
