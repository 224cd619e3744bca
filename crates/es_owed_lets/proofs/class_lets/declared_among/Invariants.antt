use Rattle.std.proofs.Common.{◌≡◌, ◌++◌, drop}
use Rattle.es_binding_faults.specs.Seen.{seen}
use Rattle.es_lowered.specs.ClassLets.{nodes_of_declared}
use Rattle.es_lowered.specs.ClassNames.{numbers_of}
use Rattle.es_owed_lets.proofs.class_lets.declared_among.Given as goal

abbrev pub invariant-loop-declaration : goal.invariant-loop-declaration
invariant-loop-declaration l = numbers_of (seen l.nodes.items) ++ nodes_of_declared l.identifier l.class (seen (drop l.declaration-index l.declarations)) ≡ nodes_of_declared l.identifier l.class (seen l.declarations)
