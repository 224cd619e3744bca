use Rattle.std.proofs.Common.{◌≡◌, drop}
use Rattle.es_base.specs.Tree.{trees}
use Rattle.es_steps.specs.Printable.{lacks_cooked}
use Rattle.es_printable.proofs.templates.lacks_cooked.Given as goal

abbrev pub invariant-loop-string : goal.invariant-loop-string
invariant-loop-string l = lacks_cooked (trees (drop l.string-index l.strings)) ≡ lacks_cooked (trees l.strings)
