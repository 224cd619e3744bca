use Rattle.std.proofs.Common.{◌≡◌, drop}
use Rattle.std.specs.List.{list_any}
use Rattle.es_base.specs.Tree.{trees}
use Rattle.es_steps.specs.ClassHeads.{key_nodes}
use Rattle.es_shapes.specs.ClassHeads.{spells}
use Rattle.es_shapes.proofs.class_head.is_read_in_keys.Given as goal

abbrev pub invariant-loop-element : goal.invariant-loop-element
invariant-loop-element l =
    let test = spells l.test.name.now in
    list_any test (key_nodes (trees (drop l.element-index l.elements))) ≡ list_any test (key_nodes (trees l.elements))
