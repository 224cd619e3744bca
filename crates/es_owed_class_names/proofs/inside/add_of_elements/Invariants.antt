use Rattle.std.proofs.Common.{◌≡◌, ◌++◌, drop}
use Rattle.es_base.specs.Tree.{trees}
use Rattle.es_lowered.specs.ClassNames.{element_numbers}
use Rattle.es_owed_class_names.proofs.inside.add_of_elements.Given as goal

abbrev pub invariant-loop-element : goal.invariant-loop-element
invariant-loop-element l = l.numbers.items ++ element_numbers (trees (drop l.element-index l.elements)) ≡ l.fn.numbers.items ++ element_numbers (trees l.elements)
