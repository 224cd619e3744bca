use Rattle.std.proofs.Common.{◌≡◌, ◌||◌, ℕ, drop}
use Rattle.es_binding_faults.specs.Seen.{seen}
use Rattle.es_steps.specs.References.{has_number, caught_again_in}
use Rattle.es_references.specs.Frames.{ids}
use Rattle.es_outside.proofs.changing.caught_again.Given as goal

abbrev pub invariant-loop-node : goal.invariant-loop-node
invariant-loop-node l = (n : ℕ) → (has_number n (ids l.bindings.items) || has_number n (caught_again_in (seen (drop l.node-index l.nodes)))) ≡ has_number n (caught_again_in (seen l.nodes))
