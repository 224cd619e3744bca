use Rattle.std.proofs.Common.{◌≡◌, ◌++◌, drop}
use Rattle.es_owed.specs.Elements.{all_in}
use Rattle.es_owed.proofs.elements.all_in.Given as goal

abbrev pub invariant-loop-element : goal.invariant-loop-element
invariant-loop-element l = l.numbers.items ++ all_in (drop l.element-index l.elements) ≡ all_in l.elements
