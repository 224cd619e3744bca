use Rattle.std.proofs.Common.{◌≡◌, drop}
use Rattle.es_base.specs.Tree.{trees}
use Rattle.es_steps.specs.Printable.{lacks_initializer}
use Rattle.es_printable.proofs.declarations.lacks_initializer.Given as goal

abbrev pub invariant-loop-declarator : goal.invariant-loop-declarator
invariant-loop-declarator l = lacks_initializer l.is_const (trees (drop l.declarator-index l.declarators)) ≡ lacks_initializer l.is_const (trees l.declarators)
