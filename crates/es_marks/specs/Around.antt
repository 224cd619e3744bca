-- What is around a place, as definitions see it.
use Rattle.std.specs.Prelude.{ℕ, List, [], ◌∷◌, map, Bool}
use Rattle.std.specs.Str.{chars}
use Rattle.es_lowered.specs.Timely as spec
use Rattle.es_steps.specs.Values.{String}
use Rattle.es_marks.specs.declared.around.Around.{Around}
use Rattle.es_marks.specs.declared.around.HeldPart.{HeldPart}
use Rattle.es_marks.specs.declared.around.HeldParts as held
use Rattle.es_marks.specs.declared.around.HeldParts.{HeldParts}
use Rattle.es_marks.specs.declared.around.LaterFunction.{LaterFunction}
use Rattle.es_marks.specs.declared.around.LaterFunctions as later
use Rattle.es_marks.specs.declared.around.LaterFunctions.{LaterFunctions}
use Rattle.es_marks.specs.declared.around.RunningClass.{RunningClass}
use Rattle.es_marks.specs.declared.around.RunningClasses as running
use Rattle.es_marks.specs.declared.around.RunningClasses.{RunningClasses}
use Rattle.es_marks.specs.declared.around.Surroundings.{Surroundings}

abbrev pub held_part : HeldPart → ℕ × ℕ
held_part x = (x.node, x.part)

abbrev pub held_parts : List HeldPart → List (ℕ × ℕ)
held_parts xs = map held_part xs

abbrev pub held_in : HeldParts → List (ℕ × ℕ)
held_in held.None = []
held_in (held.Inside' x at outer) = held_part x ∷ held_in outer

abbrev pub later_function : LaterFunction → ℕ × Bool
later_function x = (x.node, x.is_early)

abbrev pub later_functions : List LaterFunction → List (ℕ × Bool)
later_functions xs = map later_function xs

abbrev pub later_in : LaterFunctions → List (ℕ × Bool)
later_in later.None = []
later_in (later.Inside' x at outer) = later_function x ∷ later_in outer

abbrev pub running_class : RunningClass → ℕ × String
running_class x = (x.node, chars x.name.now)

abbrev pub running_classes : List RunningClass → List (ℕ × String)
running_classes xs = map running_class xs

abbrev pub running_in : RunningClasses → List (ℕ × String)
running_in running.None = []
running_in (running.Inside' x at outer) = running_class x ∷ running_in outer

abbrev pub around_here : Around → spec.Around
around_here x = record { held = held_in x.held; later = later_in x.later; called = later_in x.called; is_called = x.is_called; running = running_in x.running; class_name = chars x.class_name.now }

abbrev pub surroundings_of : Surroundings → spec.Around
surroundings_of x = record { held = held_parts x.held.items; later = later_functions x.later.items; called = later_functions x.called.items; is_called = x.is_called; running = running_classes x.running.items; class_name = chars x.class_name.now }
