use Rattle.std.proofs.Common.{◌≡◌, ◌++◌, drop}
use Rattle.es_marks.specs.Around.{held_parts}
use Rattle.es_marks.specs.MethodFunctions.{held_lists, joined}
use Rattle.es_marks.proofs.method_functions.joined.Given as goal

abbrev pub invariant-loop-list : goal.invariant-loop-list
invariant-loop-list l = held_parts l.all.items ++ joined (held_lists (drop l.list-index l.lists)) ≡ joined (held_lists l.lists)
