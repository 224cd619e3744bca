use Rattle.std.proofs.Common.{◌≡◌, drop}
use Rattle.es_steps.specs.KeptNodes.{all_pairs_stand}
use Rattle.es_marks.specs.Around.{held_parts}
use Rattle.es_marks.proofs.in_time.all_held.Given as goal

abbrev pub invariant-loop-part : goal.invariant-loop-part
invariant-loop-part l = all_pairs_stand (held_parts (drop l.part-index l.parts)) (held_parts l.others) ≡ all_pairs_stand (held_parts l.parts) (held_parts l.others)
