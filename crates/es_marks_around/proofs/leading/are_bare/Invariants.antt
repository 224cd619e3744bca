use Rattle.std.proofs.Common.{◌≡◌, drop}
use Rattle.es_base.specs.Tree.{trees}
use Rattle.es_lowered.specs.Timely.{are_bare}
use Rattle.es_marks_around.proofs.leading.are_bare.Given as goal

abbrev pub invariant-loop-declarator : goal.invariant-loop-declarator
invariant-loop-declarator l = are_bare (trees (drop l.declarator-index l.declarators)) ≡ are_bare (trees l.declarators)
