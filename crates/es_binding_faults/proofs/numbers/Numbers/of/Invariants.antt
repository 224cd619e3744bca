use Rattle.std.proofs.Common.{◌≡◌, ℕ, ◌||◌, map, drop}
use Rattle.es_base.specs.declared.ids.NodeId.{NodeId}
use Rattle.es_steps.specs.References.{has_number}
use Rattle.es_binding_faults.proofs.numbers.Numbers.of.Given as goal

abbrev pub invariant-loop-node : goal.invariant-loop-node
invariant-loop-node l = (n : ℕ) → (has_number n l.numbers || has_number n (map (λ (x : NodeId). x.0) (drop l.node-index l.nodes))) ≡ has_number n (map (λ (x : NodeId). x.0) l.nodes)
