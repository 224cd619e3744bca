use Rattle.std.proofs.Common.{◌∙◌, ap, ◌||◌, Bor, refl}
use Rattle.es_base.specs.Tree.{Tree}
use Rattle.es_steps.specs.References.{has_number}
use Rattle.es_lowered.specs.Texts.{is_beginning_among}
use Rattle.es_owed_texts.specs.Written.{is_beginning_of}
use Rattle.es_owed_texts.proofs.NameCharacters.{all_names, next_name}
use Rattle.es_owed_texts.proofs.WrittenNodes.{beginning_more}
use Rattle.es_owed_texts.proofs.characters.Characters.beginnings_of.Goals as goal

pub loop-node-preserved : goal.loop-node-preserved
loop-node-preserved c = λ k.
    next_name (is_beginning_among k) (is_beginning_of k) (beginning_more k) (has_number k c.loop-node.characters) (has_number k c.add_beginning.new.characters) c.args.nodes.now c.loop-node.node-index c.node-item.result c.loop-node-test.true
    (c.in_ok-add_beginning.ensures k ∙ ap (λ (n : Bor Tree). has_number k c.loop-node.characters || is_beginning_of k n.now) c.node-item.is)
    ∙ c.loop-node.invariant k

pub returns : goal.returns
returns c = λ k. all_names (is_beginning_among k) refl (has_number k c.loop-node.characters) _ c.args.nodes.now c.loop-node.node-index c.loop-node-test.false (c.loop-node.invariant k)
