use Rattle.std.proofs.Common.{◌∙◌, ap, sym, not, None}
use Rattle.es_base.specs.Carried.{span_of}
use Rattle.es_base.specs.Tree.{child, list, trees}
use Rattle.es_steps.specs.LoweredClasses.{needs_temporary}
use Rattle.es_shapes.proofs.Heritages.{template_needs}
use Rattle.es_shapes.proofs.heritage.has_expressions.Goals as goal

pub returns : goal.returns
returns c = λ written references.
    let template = c.from_node.result in
    ap not c.is_empty.ensures
    ∙ sym (ap (λ t. needs_temporary written references (child t)) c.from_node.ensures ∙ template_needs written references template.node_id.0 (span_of template.span) None (list (trees template.quasis.now)) template.expressions.now)
