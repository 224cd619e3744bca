use Rattle.std.proofs.Common.{◌≡◌, map, take}
use Rattle.es_base.specs.Shape.{shape_number}
use Rattle.es_writing.specs.Writing.{number_of}
use Rattle.serde_json.specs.View.{view}
use Rattle.es_writing.proofs.lowered.write_shapes.Given as goal

abbrev pub invariant-loop-shape : goal.invariant-loop-shape
invariant-loop-shape l = map view l.items.items ≡ map (λ s. number_of (shape_number s)) (take l.shape-index l.shapes)
