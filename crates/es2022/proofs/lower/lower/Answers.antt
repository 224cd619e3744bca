use Rattle.std.proofs.Common.{sym, ◌∙◌}
use Rattle.es2022.proofs.Counted.{walk_suffices}
use Rattle.es2022.proofs.lower.lower.Goals as goal

pub walk_program-requires-clause-bound : goal.walk_program-requires-clause-bound
walk_program-requires-clause-bound c =
    walk_suffices c.args.source.now c.in_ok-program.program c.nodes-first.result c.in_ok-program.scoping c.args.options.now.assumptions c.in_ok-ctx.ctx c.in_ok-program.ensures.nodes c.nodes-first.ensures (sym c.has_at_most.ensures ∙ c.if-not-has_at_most.false) c.in_ok-program.ensures.table c.in_ok-ctx.ensures
