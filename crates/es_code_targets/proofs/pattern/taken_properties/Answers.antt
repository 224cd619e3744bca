use Rattle.std.proofs.Common.{◌≡◌, refl, sym, ap, ◌∙◌, ◌≤◌, ◌<◌, length, get_or, arith}
use Rattle.es_codes.specs.CodeView.{code_of, codes_of}
use Rattle.es_codes.specs.declared.code.Code.{Code}
use Rattle.es_steps.specs.Code.{and, done, joined}
use Rattle.es_steps.specs.Statements as spec
use Rattle.es_code_members.proofs.Moved.{ended}
use Rattle.es_code_targets.proofs.Taking.{property_step}
use Rattle.es_code_targets.proofs.pattern.taken_properties.Goals as goal

pub loop-property-preserved : goal.loop-property-preserved
loop-property-preserved c =
    let here : c.loop-property.property-index < length c.loop-property.properties = omega arith in
    let this : c.property-item.result ≡ get_or c.loop-property.properties c.loop-property.property-index c.property-item.result = cc in
    property_step c.args.node c.loop-property.properties c.loop-property.property-index c.property-item.result c.add_taken_property.new.property (codes_of c.loop-property.taken) (codes_of c.add_taken_property.new.taken) _ here this (c.in_ok-add_taken_property.ensures ∙ ap (λ (z : Code). joined (codes_of c.loop-property.taken) (spec.taken_properties c.args.node (and (code_of z) done))) (sym this)) c.loop-property.invariant

pub returns : goal.returns
returns c =
    let past : length c.loop-property.properties ≤ c.loop-property.property-index = omega arith in
    ended (λ xs. spec.taken_properties c.args.node (codes_of xs)) refl c.loop-property.properties c.loop-property.property-index _ _ past c.loop-property.invariant
