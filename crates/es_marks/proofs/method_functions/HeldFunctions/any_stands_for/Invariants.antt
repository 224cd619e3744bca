use Rattle.std.proofs.Common.{◌≡◌, drop}
use Rattle.std.specs.List.{list_any}
use Rattle.es_marks.specs.Around.{later_functions}
use Rattle.es_marks.specs.Marks.{marks_of}
use Rattle.es_marks.specs.MethodFunctions.{helds, method_functions, stands_for}
use Rattle.es_marks.proofs.method_functions.HeldFunctions.any_stands_for.Given as goal

abbrev pub invariant-loop-function : goal.invariant-loop-function
invariant-loop-function l =
    let stands = stands_for (helds (marks_of l.self.needing.now.marks.now) (method_functions l.self.functions.now)) in
    list_any stands (later_functions (drop l.function-index l.functions)) ≡ list_any stands (later_functions l.functions)
