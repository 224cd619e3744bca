use Rattle.std.proofs.Common.{◌∙◌}
use Rattle.es_walk.proofs.Rewrites.{rewritten}
use Rattle.class_properties.specs.Transform.{goes_into, lowered_node, stays}
use Rattle.class_properties.specs.declared.transform.ClassProperties.{ClassProperties}
use Rattle.class_properties.proofs.Changed.{walk_suffices}
use Rattle.class_properties.proofs.transform.lower_classes.Goals as goal

pub walk_program-requires-clause-bound : goal.walk_program-requires-clause-bound
walk_program-requires-clause-bound c =
    let transform : ClassProperties = record { alloc = c.args.alloc } in
    walk_suffices c.args.program.now transform c.root_ctx-ctx.result c.requires (c.root_ctx-ctx.ensures.next ∙ c.nodes.ensures) c.root_ctx-ctx.ensures.lists c.root_ctx-ctx.ensures.table

pub returns : goal.returns
returns c = rewritten goes_into lowered_node stays c.in_ok-walk_program.ensures.walked (rw c.root_ctx-ctx.ensures.lists (tt {0}))
