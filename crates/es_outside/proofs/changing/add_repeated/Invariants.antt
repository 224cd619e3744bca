use Rattle.std.proofs.Common.{◌≡◌, ◌||◌, ℕ, List, drop}
use Rattle.es_base.specs.Conforms.{is_among}
use Rattle.es_binding_faults.specs.Named.{named}
use Rattle.es_steps.specs.References.{has_number, is_declared, repeated}
use Rattle.es_references.specs.Frames.{ids}
use Rattle.es_outside.proofs.changing.add_repeated.Given as goal

abbrev pub invariant-loop-i : goal.invariant-loop-i
invariant-loop-i l =
    ((s : List ℕ) → is_among s l.later ≡ is_declared s (named (drop l.i l.names)))
    × ((n : ℕ) → has_number n (ids l.bindings.items) ≡ (has_number n (ids l.fn.bindings.items) || has_number n (repeated (named (drop l.i l.names)))))
