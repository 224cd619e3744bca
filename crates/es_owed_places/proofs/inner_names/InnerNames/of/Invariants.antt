use Rattle.std.proofs.Common.{◌≡◌, ◌||◌, drop}
use Rattle.es_base.specs.Conforms.{is_among}
use Rattle.es_binding_faults.specs.Seen.{seen}
use Rattle.es_steps.specs.References.{gives_inside}
use Rattle.es_steps.specs.Values.{String}
use Rattle.es_owed_places.proofs.inner_names.InnerNames.of.Given as goal

abbrev pub invariant-loop-node : goal.invariant-loop-node
invariant-loop-node l = (s : String) → (is_among s l.names || gives_inside s (seen (drop l.node-index l.nodes))) ≡ gives_inside s (seen l.nodes)
