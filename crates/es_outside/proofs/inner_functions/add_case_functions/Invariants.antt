use Rattle.std.proofs.Common.{◌≡◌, ◌++◌, drop}
use Rattle.es_base.specs.Tree.{trees}
use Rattle.es_steps.specs.References.{case_functions}
use Rattle.es_outside.specs.InnerFunctions.{texts}
use Rattle.es_outside.proofs.inner_functions.add_case_functions.Given as goal

abbrev pub invariant-loop-case : goal.invariant-loop-case
invariant-loop-case l = texts l.names.items ++ case_functions (trees (drop l.case-index l.cases)) ≡ texts l.fn.names.items ++ case_functions (trees l.cases)
