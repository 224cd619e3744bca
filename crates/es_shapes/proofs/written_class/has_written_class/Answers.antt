use Rattle.std.proofs.Common.{◌∙◌, ◌||◌, ap, sym}
use Rattle.std.specs.List.{list_any}
use Rattle.es_base.specs.Preorder.{preorder}
use Rattle.es_steps.specs.References.{resolve}
use Rattle.es_shapes.specs.Classes.{is_lowered_with}
use Rattle.es_shapes.specs.Names.{is_written_class, is_written_let}
use Rattle.es_shapes.proofs.Written.{shape_6}
use Rattle.es_shapes.proofs.written_class.has_written_class.Goals as goal

pub returns-else-any_node : goal.returns-else-any_node
returns-else-any_node g c =
    let o = c.args.options.now in
    let t = c.args.program.now in
    c.any_node-else-any_node.ensures
    ∙ ap (λ p. list_any (is_written_let o (resolve p)) (preorder t)) c.requires
    ∙ ap (λ b. b || list_any (is_written_let o (resolve t)) (preorder t)) (sym c.if-any_node.false ∙ c.any_node.ensures ∙ ap (λ p. list_any (is_lowered_with o (is_written_class (resolve p))) (preorder t)) c.requires)
    ∙ sym (shape_6 o t)
