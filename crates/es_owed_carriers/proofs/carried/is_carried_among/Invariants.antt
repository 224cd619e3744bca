use Rattle.std.proofs.Common.{◌≡◌, drop}
use Rattle.es_binding_faults.specs.Seen.{seen}
use Rattle.es_owed_carriers.specs.Carried.{is_carried_among}
use Rattle.es_owed_carriers.proofs.carried.is_carried_among.Given as goal

abbrev pub invariant-loop-other : goal.invariant-loop-other
invariant-loop-other l = is_carried_among l.node (seen (drop l.other-index l.nodes)) ≡ is_carried_among l.node (seen l.nodes)
