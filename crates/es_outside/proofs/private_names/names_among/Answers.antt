use Rattle.std.proofs.Common.{◌∙◌}
use Rattle.es_base.specs.Conforms.{is_among}
use Rattle.es_outside.proofs.PrivateSets.{next_declared, next_written}
use Rattle.es_outside.proofs.private_names.names_among.Goals as goal

pub loop-element-preserved : goal.loop-element-preserved
loop-element-preserved c =
    let elements = c.args.elements.now in
    let i = c.loop-element.element-index in (
      λ s. next_declared s (is_among s c.loop-element.declared) (is_among s c.add_element.new.declared) elements i c.element-item.result c.loop-element-test.true c.element-item.is (c.in_ok-add_element.ensures.declared s) ∙ c.loop-element.invariant.0 s,
      λ s. next_written s (is_among s c.loop-element.written) (is_among s c.add_element.new.written) elements i c.element-item.result c.loop-element-test.true c.element-item.is (c.in_ok-add_element.ensures.written s) ∙ c.loop-element.invariant.1 s,
    )
