use Rattle.std.proofs.Common.{◌≡◌, refl, [], ◌∙◌, ap}
use Rattle.es_base.specs.Preorder.{preorder}
use Rattle.es_binding_faults.specs.Seen.{seen}
use Rattle.es_lowered.specs.DeadZones as spec
use Rattle.es_steps.specs.References.{resolve, written}
use Rattle.es_touches.specs.Touches.{classes_of, closures_of}
use Rattle.es_owed_dead_zones.proofs.BodiesOfNodes.{bodies_of_alike, fitted}
use Rattle.es_owed_dead_zones.specs.Bodies.{kept_bodies}
use Rattle.es_owed_dead_zones.proofs.dead_zones.touches_stay.Goals as goal

pub returns : goal.returns
returns c =
    let first = c.args.first in
    let o = c.args.options.now in
    let ledger = c.args.ledger.now in
    let p = c.args.source.now.program.now in
    let q = c.args.lowered.now.program.now in
    let asked = c.in_ok-asked.asked.program.now in
    let closures = spec.closures ledger (preorder q) in
    let called : closures_of c.in_ok-called.called.items ≡ closures = c.in_ok-called.ensures ∙ ap (λ ts. spec.closures ledger ts) (ap seen c.as_slice.ensures.value ∙ c.args.lowered.now.in_preorder) in
    let lent : closures_of c.as_slice-2.result.now ≡ closures = ap closures_of c.as_slice-2.ensures.value ∙ called in
    let supers : c.as_slice-4.result.now ≡ spec.super_calls (preorder p) = c.as_slice-4.ensures.value ∙ c.in_ok-supers.ensures ∙ ap (λ ts. spec.super_calls ts) (ap seen c.as_slice-3.ensures.value ∙ c.args.source.now.in_preorder) in
    let classes : classes_of c.as_slice-5.result.now ≡ spec.class_parts o (written p) (resolve p) (preorder p) = ap classes_of c.as_slice-5.ensures.value ∙ c.in_ok-classes.ensures in
    let there : kept_bodies c.as_slice-7.result.now ≡ spec.bodies_of first [] [] (preorder p) p = ap kept_bodies c.as_slice-7.ensures.value ∙ c.in_ok-there.ensures ∙ bodies_of_alike first [] [] [] [] asked p p refl refl c.in_ok-asked.ensures in
    let here : kept_bodies c.as_slice-8.result.now ≡ spec.bodies_of first ledger closures (preorder p) q = ap kept_bodies c.as_slice-8.ensures.value ∙ c.in_ok-here.ensures ∙ bodies_of_alike first ledger ledger (closures_of c.as_slice-2.result.now) closures asked p q refl lent c.in_ok-asked.ensures in
    fitted c.kept_fit.result first
    c.as_slice-4.result.now (spec.super_calls (preorder p))
    (classes_of c.as_slice-5.result.now) (spec.class_parts o (written p) (resolve p) (preorder p))
    (closures_of c.as_slice-6.result.now) closures
    (kept_bodies c.as_slice-7.result.now) (spec.bodies_of first [] [] (preorder p) p)
    (kept_bodies c.as_slice-8.result.now) (spec.bodies_of first ledger closures (preorder p) q)
    supers classes (ap closures_of c.as_slice-6.ensures.value ∙ called) there here c.kept_fit.ensures
