use Rattle.std.proofs.Common.{◌∙◌, ap, ◌||◌, Bor, refl}
use Rattle.es_base.specs.Conforms.{is_among}
use Rattle.es_base.specs.Tree.{Tree}
use Rattle.es_owed_texts.proofs.NameCharacters.{all_names, next_name}
use Rattle.es_steps.specs.References.{gives_inside}
use Rattle.es_owed_places.proofs.GivenNames.{given_more}
use Rattle.es_owed_places.specs.InnerNames.{gives_name}
use Rattle.es_owed_places.proofs.inner_names.InnerNames.of.Goals as goal

pub loop-node-preserved : goal.loop-node-preserved
loop-node-preserved c = λ s.
    next_name (gives_inside s) (gives_name s) (given_more s) (is_among s c.loop-node.names) (is_among s c.add_inner.new.names) c.args.nodes.now c.loop-node.node-index c.node-item.result c.loop-node-test.true
    (c.in_ok-add_inner.ensures s ∙ ap (λ (n : Bor Tree). is_among s c.loop-node.names || gives_name s n.now) c.node-item.is)
    ∙ c.loop-node.invariant s

pub invariant_of-result : goal.invariant_of-result
invariant_of-result c = record {
  are_its = λ s. all_names (gives_inside s) refl (is_among s c.loop-node.names) _ c.args.nodes.now c.loop-node.node-index c.loop-node-test.false (c.loop-node.invariant s);
}
