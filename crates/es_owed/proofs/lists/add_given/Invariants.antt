use Rattle.std.proofs.Common.{◌≡◌, ◌++◌, drop}
use Rattle.es_base.specs.Tree.{trees}
use Rattle.es_steps.specs.KeptNodes.{given_classes}
use Rattle.es_owed.proofs.lists.add_given.Given as goal

abbrev pub invariant-loop-declarator : goal.invariant-loop-declarator
invariant-loop-declarator l = l.numbers.items ++ given_classes (trees (drop l.declarator-index l.declarators)) ≡ l.fn.numbers.items ++ given_classes (trees l.declarators)
