use Rattle.std.proofs.Common.{arith}
use Rattle.es_node.specs.View.{kind_of}
use Rattle.es_walk.specs.Given.{Ids, load}
use Rattle.es_walk.specs.Hooks as hooks
use Rattle.es_walk.specs.Hooks.{exit_hook_of_kind, is_leaving}
use Rattle.es_walk.specs.Weight.{heft}
use Rattle.es_walk.proofs.hooks.exit_node.Goals as goal

pub exit_by_role-requires-clause-bound : goal.exit_by_role-requires-clause-bound
exit_by_role-requires-clause-bound g c =
    let T = g.T.Hooks in
    let first = λ (ids : Ids). hooks.calls_pay T.does T.weight (load T.spare ids) is_leaving (exit_hook_of_kind (kind_of c.args.node.now)) (heft T.weight) (λ k is. g.met.T.Hooks.leaving_pays k is ids) (c.args.transform.now, c.args.ctx.now) (c.exit_by_kind.new.transform, c.exit_by_kind.new.ctx) c.args.node.now c.exit_by_kind.new.node c.in_ok-exit_by_kind.ensures in
    λ ids. omega (arith, first ids, c.requires.bound ids)

pub returns : goal.returns
returns g c = hooks.leaves (c.exit_by_kind.new.transform, c.exit_by_kind.new.ctx) c.exit_by_kind.new.node c.in_ok-exit_by_kind.ensures (rw (c.role_here-role.ensures, c.kind-kind.ensures) at c.in_ok-exit_by_role.ensures)
