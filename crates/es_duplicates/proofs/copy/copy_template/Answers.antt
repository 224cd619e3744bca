use Rattle.std.proofs.Common.{◌∙◌, ap, sym}
use Rattle.es_base.specs.Carried.{span_of}
use Rattle.es_base.specs.Numbered.{unnumbered}
use Rattle.es_expression.specs.Expression.{template_literal}
use Rattle.es_duplicates.specs.Copies.{copy_of}
use Rattle.es_duplicates.proofs.Forms.{template_copied}
use Rattle.es_duplicates.proofs.copy.copy_template.Goals as goal

pub returns : goal.returns
returns c =
    let template = c.from_node-template.result in
    c.into_node.ensures
    ∙ ap (λ strings. template_literal unnumbered (span_of template.span) strings template.expressions) c.in_ok-template.ensures
    ∙ template_copied template.node_id.0 (span_of template.span) c.as_slice.result.now template.expressions
    ∙ ap (λ strings. copy_of (template_literal template.node_id.0 (span_of template.span) strings template.expressions)) c.as_slice.ensures
    ∙ ap copy_of (sym c.from_node-template.ensures ∙ c.in_ok-clone_tree.ensures)
