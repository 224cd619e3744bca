use Rattle.std.proofs.Common.{◌≡◌, drop}
use Rattle.es_steps.specs.KeptNodes.{all_pairs_stand}
use Rattle.es_owed_places.specs.Placed.{part_pairs}
use Rattle.es_owed_places.proofs.same_places.are_among.Given as goal

abbrev pub invariant-loop-part : goal.invariant-loop-part
invariant-loop-part l = all_pairs_stand (part_pairs (drop l.part-index l.parts)) (part_pairs l.others) ≡ all_pairs_stand (part_pairs l.parts) (part_pairs l.others)
