use Rattle.std.proofs.Common.{◌≡◌, ◌++◌, drop}
use Rattle.es_by_number.specs.Numbered.{numbered}
use Rattle.es_marks.specs.Marks.{marks_of}
use Rattle.es_marks.specs.MethodFunctions.{held_list, helds, method_functions}
use Rattle.es_marks.proofs.method_functions.with_nodes.Given as goal

abbrev pub invariant-loop-function : goal.invariant-loop-function
invariant-loop-function l =
    let of = helds (marks_of l.needing.marks.now) in
    numbered held_list l.items.items ++ of (method_functions (drop l.function-index l.functions)) ≡ of (method_functions l.functions)
