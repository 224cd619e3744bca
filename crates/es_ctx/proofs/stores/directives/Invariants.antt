use Rattle.std.proofs.Common.{◌≡◌, ◌+◌, drop}
use Rattle.es_base.specs.Tree.{trees}
use Rattle.es_ctx.specs.Stores.{directive_count}
use Rattle.es_ctx.proofs.stores.directives.Given as goal

abbrev pub invariant-loop-i : goal.invariant-loop-i
invariant-loop-i l = l.i + directive_count (trees (drop l.i l.nodes)) ≡ directive_count (trees l.nodes)
