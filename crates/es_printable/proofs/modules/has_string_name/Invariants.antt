use Rattle.std.proofs.Common.{◌≡◌, drop}
use Rattle.es_base.specs.Tree.{trees}
use Rattle.es_steps.specs.Printable.{has_string_name}
use Rattle.es_printable.proofs.modules.has_string_name.Given as goal

abbrev pub invariant-loop-specifier : goal.invariant-loop-specifier
invariant-loop-specifier l = has_string_name (trees (drop l.specifier-index l.specifiers)) ≡ has_string_name (trees l.specifiers)
