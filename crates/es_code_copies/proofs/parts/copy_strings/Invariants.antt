use Rattle.std.proofs.Common.{◌≡◌, ◌++◌, drop}
use Rattle.es_code_copies.proofs.parts.copy_strings.Given as goal

abbrev pub invariant-loop-string : goal.invariant-loop-string
invariant-loop-string l = l.copies ++ drop l.string-index l.strings ≡ l.strings
