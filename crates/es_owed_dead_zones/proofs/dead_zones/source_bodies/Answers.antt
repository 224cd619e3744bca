use Rattle.std.proofs.Common.{◌≡◌, refl, List, [], ◌∙◌}
use Rattle.es_base.specs.Preorder.{preorder}
use Rattle.es_binding_faults.proofs.Appending.{IfOk-map}
use Rattle.es_lowered.specs.DeadZones as spec
use Rattle.es_owed_dead_zones.proofs.BodiesOfNodes.{bodies_of_alike}
use Rattle.es_owed_dead_zones.specs.Bodies.{kept_bodies}
use Rattle.es_owed_dead_zones.proofs.dead_zones.source_bodies.Goals as goal

pub returns : goal.returns
returns c =
    let first = c.args.first in
    let none = c.new-none.result in
    let asked = c.args.asked.now.program.now in
    let p = c.args.source.now.program.now in
    IfOk-map c.bodies_of.result
    (λ r. kept_bodies r.items ≡ spec.bodies_of first none [] (preorder asked) p)
    (λ r. kept_bodies r.items ≡ spec.bodies_of first [] [] (preorder asked) p)
    (λ r e. e ∙ bodies_of_alike first none [] [] [] asked asked p c.new-none.ensures refl refl)
    c.bodies_of.ensures
