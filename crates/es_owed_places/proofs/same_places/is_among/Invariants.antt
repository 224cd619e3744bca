use Rattle.std.proofs.Common.{◌≡◌, drop}
use Rattle.es_steps.specs.KeptNodes.{pair_stands}
use Rattle.es_owed_places.specs.Placed.{part_pair, part_pairs}
use Rattle.es_owed_places.proofs.same_places.is_among.Given as goal

abbrev pub invariant-loop-other : goal.invariant-loop-other
invariant-loop-other l = pair_stands (part_pair l.part) (part_pairs (drop l.other-index l.others)) ≡ pair_stands (part_pair l.part) (part_pairs l.others)
