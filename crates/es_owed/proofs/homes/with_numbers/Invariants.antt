use Rattle.std.proofs.Common.{◌≡◌, ◌++◌, map, drop}
use Rattle.es_by_number.specs.Numbered.{pairs}
use Rattle.es_owed.specs.declared.homes.Homed.{Homed}
use Rattle.es_owed.proofs.homes.with_numbers.Given as goal

abbrev pub invariant-loop-homed : goal.invariant-loop-homed
invariant-loop-homed l = pairs l.items.items ++ map (λ (h : Homed). (h.number, h)) (drop l.homed-index l.homes) ≡ map (λ (h : Homed). (h.number, h)) l.homes
