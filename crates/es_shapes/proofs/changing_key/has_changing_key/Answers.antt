use Rattle.std.proofs.Common.{◌∙◌, ap, sym}
use Rattle.std.specs.List.{list_any}
use Rattle.es_base.specs.Preorder.{preorder}
use Rattle.es_steps.specs.References.{resolve, written, changed_otherwise}
use Rattle.es_steps.specs.Shapes.{has_changing_key}
use Rattle.es_shapes.specs.Classes.{is_lowered_with}
use Rattle.es_shapes.proofs.Lowered.{any_lowered}
use Rattle.es_shapes.proofs.changing_key.has_changing_key.Goals as goal

pub returns : goal.returns
returns g c =
    let o = c.args.options.now in
    let t = c.args.program.now in
    c.any_node.ensures
    ∙ ap (λ p. list_any (is_lowered_with o (has_changing_key o (written p) (changed_otherwise p) (resolve p))) (preorder t)) c.requires
    ∙ sym (any_lowered o (has_changing_key o (written t) (changed_otherwise t) (resolve t)) (preorder t))
