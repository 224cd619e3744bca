use Rattle.std.proofs.Common.{◌≡◌, ◌++◌, drop}
use Rattle.es_code_copies.proofs.parts.copy_names.Given as goal

abbrev pub invariant-loop-name : goal.invariant-loop-name
invariant-loop-name l = l.copies ++ drop l.name-index l.names ≡ l.names
