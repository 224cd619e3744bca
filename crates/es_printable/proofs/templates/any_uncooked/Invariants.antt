use Rattle.std.proofs.Common.{◌≡◌, drop}
use Rattle.es_node.specs.View.{parts_of}
use Rattle.es_steps.specs.Printable.{any_uncooked}
use Rattle.es_printable.proofs.templates.any_uncooked.Given as goal

abbrev pub invariant-loop-part : goal.invariant-loop-part
invariant-loop-part l = any_uncooked (parts_of (drop l.part-index l.parts)) ≡ any_uncooked (parts_of l.parts)
