use Rattle.std.proofs.Common.{◌≡◌, drop}
use Rattle.es_steps.specs.KeptNodes.{pair_stands}
use Rattle.es_marks.specs.Around.{held_part, held_parts}
use Rattle.es_marks.proofs.in_time.is_held_among.Given as goal

abbrev pub invariant-loop-other : goal.invariant-loop-other
invariant-loop-other l = pair_stands (held_part l.part) (held_parts (drop l.other-index l.parts)) ≡ pair_stands (held_part l.part) (held_parts l.parts)
