use Rattle.std.proofs.Common.{◌≡◌, drop, map}
use Rattle.class_properties.specs.Least.{least_with, number_in}
use Rattle.class_properties.proofs.not_yet.least.least_of.Given as goal

abbrev pub invariant-loop-node : goal.invariant-loop-node
invariant-loop-node l = least_with (number_in l.least) (map (λ n. n.0) (drop l.node-index l.nodes)) ≡ least_with (number_in l.initial.least) (map (λ n. n.0) l.nodes)
