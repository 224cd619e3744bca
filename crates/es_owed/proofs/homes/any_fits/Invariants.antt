use Rattle.std.proofs.Common.{◌≡◌, drop}
use Rattle.es_steps.specs.KeptNodes.{stands_at_home}
use Rattle.es_owed.specs.Homes.{homed_all, homed_here}
use Rattle.es_owed.proofs.homes.any_fits.Given as goal

abbrev pub invariant-loop-other : goal.invariant-loop-other
invariant-loop-other l = stands_at_home l.first l.blocks (homed_here l.homed) (homed_all (drop l.other-index l.found)) ≡ stands_at_home l.first l.blocks (homed_here l.homed) (homed_all l.found)
