-- A class of the stack that is lent to be changed.
use Rattle.std.specs.Prelude.{ℕ}
use Rattle.std.specs.Borrow.{Lends, MutBor, Fml}
use Rattle.std.specs.Vec.{with_item}
use Rattle.class_details.specs.contracts.class_details.ClassDetails as class
use Rattle.class_details.specs.contracts.classes_stack.ClassesStack as stack
use Rattle.class_details.specs.declared.class_details.ClassDetails.{ClassDetails}
use Rattle.class_details.specs.declared.classes_stack.ClassesStack.{ClassesStack}

-- the stack with another class at a place
abbrev pub with_class : ClassesStack → ℕ → ClassDetails → ClassesStack
with_class s place c = record s { classes = with_item s.classes place c; dummy = s.dummy }

-- s ends with what r holds last at this place
abbrev pub LendsClass : MutBor ClassesStack → ℕ → MutBor ClassDetails → Fml
LendsClass s place r = Lends stack.the_row class.the_row s r (with_class s.now place)
