use Rattle.std.proofs.Common.{◌≡◌, ◌++◌, drop}
use Rattle.es_owed.specs.Elements.{kept_in}
use Rattle.es_owed.proofs.elements.kept_in.Given as goal

abbrev pub invariant-loop-element : goal.invariant-loop-element
invariant-loop-element l = l.numbers.items ++ kept_in l.options (drop l.element-index l.elements) ≡ kept_in l.options l.elements
