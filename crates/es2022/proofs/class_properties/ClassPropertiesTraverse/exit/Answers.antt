use Rattle.es2022.specs.Paid.{room_left}
use Rattle.es2022.specs.declared.class_properties.ClassProperties.{ClassProperties}
use Rattle.es2022.proofs.class_properties.ClassPropertiesTraverse.exit.Goals as goal

pub transform-requires : goal.transform-requires
transform-requires c = room_left (λ (x : ClassProperties). x.room) c.args.node.now (c.args.self.now, c.args.ctx.now) c.requires.bound
