use Rattle.std.proofs.Common.{◌≡◌, ◌++◌, drop, map}
use Rattle.es_base.specs.Tree.{trees}
use Rattle.es_base.specs.declared.ids.NodeId.{NodeId}
use Rattle.es_steps.specs.Printable.{bare_in}
use Rattle.es_owed_printable.proofs.bare_strings.add_bare.Given as goal

abbrev pub invariant-loop-statement : goal.invariant-loop-statement
invariant-loop-statement l = map (λ (n : NodeId). n.0) l.found.items ++ bare_in (trees (drop l.statement-index l.statements)) ≡ map (λ (n : NodeId). n.0) l.fn.found.items ++ bare_in (trees l.statements)
