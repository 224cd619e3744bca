use Rattle.es2022.specs.Paid.{Spent}
use Rattle.es2022.proofs.class_properties.ClassProperties.insert_each.Given as goal

abbrev pub invariant-loop-node : goal.invariant-loop-node
invariant-loop-node l = Spent l.initial.self.room l.initial.ctx l.self.room l.ctx
