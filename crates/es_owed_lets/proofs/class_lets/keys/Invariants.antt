use Rattle.std.proofs.Common.{◌≡◌, ◌++◌, drop}
use Rattle.es_binding_faults.specs.Seen.{seen}
use Rattle.es_owed_lets.specs.Lets.{keys}
use Rattle.es_references.specs.Frames.{ids}
use Rattle.es_owed_lets.proofs.class_lets.keys.Given as goal

abbrev pub invariant-loop-declaration : goal.invariant-loop-declaration
invariant-loop-declaration l = ids l.keys.items ++ keys (seen (drop l.declaration-index l.declarations)) ≡ keys (seen l.declarations)
