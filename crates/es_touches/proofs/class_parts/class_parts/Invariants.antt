use Rattle.std.proofs.Common.{◌≡◌, ◌++◌, drop}
use Rattle.es_binding_faults.specs.Seen.{seen}
use Rattle.es_lowered.specs.DeadZones as spec
use Rattle.es_steps.specs.References.{resolve, written}
use Rattle.es_touches.specs.Touches.{classes_of}
use Rattle.es_touches.proofs.class_parts.class_parts.Given as goal

abbrev pub invariant-loop-node : goal.invariant-loop-node
invariant-loop-node g l = classes_of l.classes.items ++ spec.class_parts l.options (written (g.F.NameFacts.program l.facts)) (resolve (g.F.NameFacts.program l.facts)) (seen (drop l.node-index l.nodes)) ≡ spec.class_parts l.options (written (g.F.NameFacts.program l.facts)) (resolve (g.F.NameFacts.program l.facts)) (seen l.nodes)
