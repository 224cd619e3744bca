-- Stacks with the same classes are the same: that the first is never taken away has one proof.
use Rattle.std.proofs.Common.{◌≡◌, ◌<◌, Vec, Global, vec_len}
use Rattle.std.proofs.Math.Bridge.{le_prop}
use Rattle.class_details.specs.declared.class_details.ClassDetails.{ClassDetails}
use Rattle.class_details.specs.declared.classes_stack.ClassesStack.{ClassesStack}

abbrev stack : (classes : Vec ClassDetails Global) → 0 < vec_len classes → ClassesStack
stack classes dummy = record { classes = classes; dummy = dummy }

pub same_stack : (classes : Vec ClassDetails Global) (p q : 0 < vec_len classes) → stack classes p ≡ stack classes q
same_stack classes p q = λ i. record { classes = classes; dummy = le_prop p q i }
