use Rattle.std.proofs.Common.{◌≡◌, ◌||◌, ℕ, drop}
use Rattle.es_binding_faults.specs.Seen.{seen}
use Rattle.es_steps.specs.References.{has_number, written_by_all}
use Rattle.es_references.specs.Frames.{ids}
use Rattle.es_outside.proofs.changing.redeclared.Given as goal

abbrev pub invariant-loop-node : goal.invariant-loop-node
invariant-loop-node l = (n : ℕ) → (has_number n (ids l.bindings.items) || has_number n (written_by_all (seen (drop l.node-index l.nodes)))) ≡ has_number n (written_by_all (seen l.nodes))
