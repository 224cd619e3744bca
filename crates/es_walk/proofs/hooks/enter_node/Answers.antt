use Rattle.std.proofs.Common.{arith}
use Rattle.es_node.specs.View.{kind_of}
use Rattle.es_walk.specs.Given.{Ids, load}
use Rattle.es_walk.specs.Hooks as hooks
use Rattle.es_walk.specs.Hooks.{enter_hook_of_role, is_entering}
use Rattle.es_walk.specs.Weight.{total}
use Rattle.es_walk.proofs.hooks.enter_node.Goals as goal

pub enter_by_kind-requires-clause-bound : goal.enter_by_kind-requires-clause-bound
enter_by_kind-requires-clause-bound g c =
    let T = g.T.Hooks in
    let first = λ (ids : Ids). hooks.calls_pay T.does T.weight (load T.spare ids) is_entering (enter_hook_of_role c.role_here-role.result (kind_of c.args.node.now)) (total T.weight) (λ k is. g.met.T.Hooks.entering_pays k is ids) (c.args.transform.now, c.args.ctx.now) (c.enter_by_role.new.transform, c.enter_by_role.new.ctx) c.args.node.now c.enter_by_role.new.node c.in_ok-enter_by_role.ensures in
    λ ids. omega (arith, first ids, c.requires.bound ids)

pub returns : goal.returns
returns g c = hooks.enters (c.enter_by_role.new.transform, c.enter_by_role.new.ctx) c.enter_by_role.new.node (rw c.role_here-role.ensures at c.in_ok-enter_by_role.ensures) c.in_ok-enter_by_kind.ensures
