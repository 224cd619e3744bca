use Rattle.std.proofs.Common.{◌≡◌, ◌∙◌, ap}
use Rattle.es_base.specs.Preorder.{preorder}
use Rattle.es_binding_faults.proofs.Appending.{IfOk-map}
use Rattle.es_binding_faults.specs.Seen.{seen}
use Rattle.es_lowered.specs.DeadZones as spec
use Rattle.es_lowered.specs.Timely.{super_functions}
use Rattle.es_owed.specs.declared.listed.Listed.{Listed}
use Rattle.es_owed_timely.specs.Functions.{super_functions_of}
use Rattle.es_references.specs.References.{references_of}
use Rattle.es_steps.specs.References.{resolve}
use Rattle.es_touches.specs.Touches.{closures_of}
use Rattle.es_owed_dead_zones.proofs.BodiesOfNodes.{bodies_alike}
use Rattle.es_owed_dead_zones.specs.Bodies.{kept_bodies}
use Rattle.es_owed_dead_zones.proofs.dead_zones.bodies_of.Goals as goal

pub returns : goal.returns
returns c =
    let first = c.args.first in
    let ledger = c.args.ledger.now in
    let facts = c.args.facts.now in
    let listed = c.args.program.now in
    let ps = preorder facts.program.now in
    let q = listed.program.now in
    let ts = preorder q in
    let here = closures_of c.in_ok-called.called in
    let references = references_of listed.references.list.items in
    let given = super_functions_of c.in_ok-given.given.functions.items in
    let us = seen c.in_ok-classes.classes.listed.now.nodes.items in
    let nodes : seen c.as_slice-nodes.result.now ≡ ts = ap (λ ns. seen ns) c.as_slice-nodes.ensures.value ∙ listed.in_preorder in
    let derived_are = c.in_ok-derived.ensures ∙ c.in_ok-derived_functions.ensures ∙ ap (λ ns. spec.derived_functions ps ns) nodes in
    let given_are = c.in_ok-given.ensures ∙ ap (λ ns. super_functions ledger ns) nodes in
    let us_are : us ≡ ts = ap (λ (l : Listed). seen l.nodes.items) c.in_ok-classes.ensures ∙ listed.in_preorder in
    let alike = bodies_alike first here facts.variables (spec.variables ps) facts.class_names (spec.class_names ps) references (resolve q) c.in_ok-derived.derived (spec.derived_functions ps ts) given (super_functions ledger ts) us ts facts.variables_are facts.class_names_are listed.are_resolved derived_are given_are us_are in
    IfOk-map c.bodies_by.result
    (λ r. kept_bodies r.items ≡ spec.bodies first here facts.variables facts.class_names references c.in_ok-derived.derived given us us)
    (λ r. kept_bodies r.items ≡ spec.bodies_of first ledger (closures_of c.args.called.now) ps q)
    (λ r e. e ∙ alike ∙ ap (λ cs. spec.bodies_of first ledger cs ps q) (ap closures_of c.in_ok-called.ensures))
    c.bodies_by.ensures
