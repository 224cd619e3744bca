use Rattle.std.proofs.Common.{◌≡◌, drop}
use Rattle.es_steps.specs.KeptNodes.{all_at_home}
use Rattle.es_owed.specs.Homes.{homed_all}
use Rattle.es_owed.proofs.homes.all_at_home.Given as goal

abbrev pub invariant-loop-homed : goal.invariant-loop-homed
invariant-loop-homed l = all_at_home l.first l.blocks (homed_all (drop l.homed-index l.there)) (homed_all l.found.list.items) ≡ all_at_home l.first l.blocks (homed_all l.there) (homed_all l.found.list.items)
