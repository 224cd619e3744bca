use Rattle.std.proofs.Common.{◌≡◌, ℕ, drop}
use Rattle.es_outside.specs.Bindings.{binding_in, first_binding}
use Rattle.es_outside.proofs.bindings.Bindings.of.Given as goal

abbrev pub invariant-loop-i : goal.invariant-loop-i
invariant-loop-i l = (m : ℕ) → binding_in m l.bindings ≡ first_binding m (drop l.i l.references)
