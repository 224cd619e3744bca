use Rattle.std.proofs.Common.{◌∙◌, ap, arith}
use Rattle.es_ctx.specs.Stores.{stored}
use Rattle.es_walk.specs.Given.{of_nodes}
use Rattle.es_walk.specs.Laws as laws
use Rattle.es_walk.proofs.Lawful.{none_left, all_settled, kept_whole}
use Rattle.es_walk.proofs.Walked as walked
use Rattle.es_walk.proofs.program.walk_program.Goals as goal

pub returns-clause-ready : goal.returns-clause-ready
returns-clause-ready g c =
    let T = g.T.Traverse in
    let met = g.met.T.Traverse in
    laws.stays _ _ _ _ T.ready met.enter_ready met.leave_ready met.open_ready met.close_ready c.in_ok-walk_node.ensures c.requires.ready

pub returns-clause-numbers : goal.returns-clause-numbers
returns-clause-numbers g c =
    let T = g.T.Traverse in
    let met = g.met.T.Traverse in
    omega (arith, walked.node_pays T.enters T.leaves T.weight T.spare met.weighs_something met.enter_pays met.leave_pays met.enter_keeps_place met.leave_keeps_place of_nodes c.in_ok-walk_node.ensures, ap stored c.requires.stores)

pub returns-clause-budget : goal.returns-clause-budget
returns-clause-budget g c =
    let T = g.T.Traverse in
    let met = g.met.T.Traverse in
    λ ids. omega (arith, walked.node_pays T.enters T.leaves T.weight T.spare met.weighs_something met.enter_pays met.leave_pays met.enter_keeps_place met.leave_keeps_place ids c.in_ok-walk_node.ensures, ap stored c.requires.stores)

pub returns-clause-given : goal.returns-clause-given
returns-clause-given g c =
    let T = g.T.Traverse in
    let met = g.met.T.Traverse in
    (walked.node_place T.enters T.leaves T.weight T.spare met.weighs_something met.enter_pays met.leave_pays met.enter_keeps_place met.leave_keeps_place c.in_ok-walk_node.ensures).given of_nodes

pub returns-clause-onward : goal.returns-clause-onward
returns-clause-onward g c =
    let T = g.T.Traverse in
    let met = g.met.T.Traverse in
    (walked.node_place T.enters T.leaves T.weight T.spare met.weighs_something met.enter_pays met.leave_pays met.enter_keeps_place met.leave_keeps_place c.in_ok-walk_node.ensures).given

pub returns-clause-path : goal.returns-clause-path
returns-clause-path g c =
    let T = g.T.Traverse in
    let met = g.met.T.Traverse in
    (walked.node_place T.enters T.leaves T.weight T.spare met.weighs_something met.enter_pays met.leave_pays met.enter_keeps_place met.leave_keeps_place c.in_ok-walk_node.ensures).path ∙ c.requires.path

pub returns-clause-stores : goal.returns-clause-stores
returns-clause-stores g c =
    let T = g.T.Traverse in
    let met = g.met.T.Traverse in
    let place = walked.node_place T.enters T.leaves T.weight T.spare met.weighs_something met.enter_pays met.leave_pays met.enter_keeps_place met.leave_keeps_place c.in_ok-walk_node.ensures in
    none_left c.args.ctx.now.lists c.walk_node.new.ctx.lists place.depth c.requires.stores

pub returns-clause-settled : goal.returns-clause-settled
returns-clause-settled g c =
    let met = g.met.T.Traverse in
    let lawful = g.met.T.Lawful in
    all_settled _ _ g.T.Traverse.ready met.enter_ready met.leave_ready met.open_ready met.close_ready g.T.Lawful.settled lawful.enter_steady lawful.leave_steady lawful.enter_settles lawful.pass_settles lawful.leave_settles c.in_ok-walk_node.ensures c.requires.ready c.requires.stores

pub returns-clause-kept : goal.returns-clause-kept
returns-clause-kept g c =
    let met = g.met.T.Traverse in
    let lawful = g.met.T.Lawful in
    kept_whole _ _ g.T.Traverse.ready met.enter_ready met.leave_ready met.open_ready met.close_ready
    (g.T.Lawful.kept (c.args.transform.now, c.args.ctx.now) c.args.program.now) met.enter_keeps_place met.leave_keeps_place
    (lawful.enter_keeps (c.args.transform.now, c.args.ctx.now) c.args.program.now)
    (lawful.pass_keeps (c.args.transform.now, c.args.ctx.now) c.args.program.now)
    (lawful.leave_keeps (c.args.transform.now, c.args.ctx.now) c.args.program.now)
    (lawful.open_keeps (c.args.transform.now, c.args.ctx.now) c.args.program.now)
    (lawful.close_keeps (c.args.transform.now, c.args.ctx.now) c.args.program.now)
    c.in_ok-walk_node.ensures c.requires.ready c.requires.path c.requires.kept
