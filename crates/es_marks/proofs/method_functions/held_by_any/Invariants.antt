use Rattle.std.proofs.Common.{◌≡◌, ◌++◌, drop}
use Rattle.es_lowered.specs.Timely.{held_by}
use Rattle.es_marks.specs.Around.{held_parts, later_functions}
use Rattle.es_marks.specs.Marks.{marks_of}
use Rattle.es_marks.specs.MethodFunctions.{method_functions}
use Rattle.es_marks.proofs.method_functions.held_by_any.Given as goal

abbrev pub invariant-loop-function : goal.invariant-loop-function
invariant-loop-function l =
    let of = held_by (marks_of l.needing.marks.now) (later_functions l.later) in
    held_parts l.held.items ++ of (method_functions (drop l.function-index l.functions)) ≡ of (method_functions l.functions)
