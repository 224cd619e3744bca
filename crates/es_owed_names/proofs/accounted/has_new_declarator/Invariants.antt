use Rattle.std.proofs.Common.{◌≡◌, drop}
use Rattle.es_base.specs.Tree.{trees}
use Rattle.es_lowered.specs.Lowered.{has_new_declarator}
use Rattle.es_owed_names.proofs.accounted.has_new_declarator.Given as goal

abbrev pub invariant-loop-declarator : goal.invariant-loop-declarator
invariant-loop-declarator l = has_new_declarator l.first (trees (drop l.declarator-index l.declarators)) ≡ has_new_declarator l.first (trees l.declarators)
