use Rattle.std.proofs.Common.{◌≡◌, ◌++◌, drop}
use Rattle.es_steps.specs.References.{meant}
use Rattle.es_references.specs.Frames.{ids}
use Rattle.es_outside.specs.InnerFunctions.{texts}
use Rattle.es_references.specs.References.{names_in}
use Rattle.es_outside.proofs.given.add_meant.Given as goal

abbrev pub invariant-loop-name : goal.invariant-loop-name
invariant-loop-name l = ids l.bindings.items ++ meant (names_in l.scope) (texts (drop l.name-index l.names)) ≡ ids l.fn.bindings.items ++ meant (names_in l.scope) (texts l.names)
