use Rattle.std.proofs.Common.{◌≡◌, ◌∙◌, ap}
use Rattle.es_base.specs.Preorder.{preorder}
use Rattle.es_binding_faults.proofs.Appending.{IfOk-map}
use Rattle.es_binding_faults.specs.Seen.{seen}
use Rattle.es_lowered.specs.DeadZones as spec
use Rattle.es_steps.specs.References.{resolve, written}
use Rattle.es_touches.specs.Touches.{classes_of}
use Rattle.es_owed_dead_zones.proofs.BodiesOfNodes.{parts_alike}
use Rattle.es_owed_dead_zones.proofs.dead_zones.source_classes.Goals as goal

pub returns : goal.returns
returns c =
    let o = c.args.options.now in
    let n = c.args.source.now.names.program.now in
    let p = c.args.source.now.program.now in
    let ts = seen c.as_slice-nodes.result.now in
    IfOk-map c.class_parts.result
    (λ r. classes_of r.items ≡ spec.class_parts o (written n) (resolve n) ts)
    (λ r. classes_of r.items ≡ spec.class_parts o (written p) (resolve p) (preorder p))
    (λ r e. e ∙ parts_alike o n p ts (preorder p) c.args.source.now.are_named (ap seen c.as_slice-nodes.ensures.value ∙ c.args.source.now.in_preorder))
    c.class_parts.ensures
