use Rattle.std.proofs.Common.{◌≡◌, drop}
use Rattle.es_base.specs.Tree.{trees}
use Rattle.es_steps.specs.Printable.{only_named}
use Rattle.es_printable.proofs.modules.only_named.Given as goal

abbrev pub invariant-loop-specifier : goal.invariant-loop-specifier
invariant-loop-specifier l = only_named (trees (drop l.specifier-index l.specifiers)) ≡ only_named (trees l.specifiers)
