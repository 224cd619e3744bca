use Rattle.std.proofs.Common.{◌≡◌, drop}
use Rattle.es_base.specs.Tree.{trees}
use Rattle.es_steps.specs.Context.{first_super}
use Rattle.es_seen_names.proofs.super_call.first_super.Given as goal

abbrev pub invariant-loop-statement : goal.invariant-loop-statement
invariant-loop-statement l = first_super (trees (drop l.statement-index l.statements)) ≡ first_super (trees l.statements)
