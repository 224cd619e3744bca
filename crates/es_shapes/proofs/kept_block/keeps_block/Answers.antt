use Rattle.std.proofs.Common.{◌∙◌, ap}
use Rattle.es_shapes.specs.Classes.{class_view, element_kinds}
use Rattle.es_shapes.proofs.Lowered.{kept_kinds}
use Rattle.es_shapes.proofs.kept_block.keeps_block.Goals as goal

pub returns : goal.returns
returns c =
    c.is_block_kept.ensures
    ∙ kept_kinds c.args.options.now (class_view c.args.class) c.element_kinds-kinds.result c.initializes_outside.result (c.element_kinds-kinds.ensures ∙ ap (element_kinds c.args.options.now) c.elements_of.ensures.elements) c.initializes_outside.ensures
