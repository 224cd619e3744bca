use Rattle.std.proofs.Common.{◌∙◌, sym, ap}
use Rattle.es_node.specs.View.{parts_of}
use Rattle.es_steps.specs.Context.{framed}
use Rattle.es_binding_faults.proofs.Appending.{IfOk-map}
use Rattle.es_code_reading.specs.Contexts.{context_with, frame_in}
use Rattle.es_code_reading.proofs.inside.framed.Goals as goal

pub returns-in-StaticBlock : goal.returns-in-StaticBlock
returns-in-StaticBlock c = λ seen.
    c.in_element.ensures seen
    ∙ ap (λ f. framed (frame_in f) c.args.node (parts_of c.args.parts.now) c.args.i (context_with c.args.terms.now seen c.args.around)) (sym c.in-StaticBlock.is)

pub returns-in-Declarator : goal.returns-in-Declarator
returns-in-Declarator c = IfOk-map c.in_declarator.result _ _ (λ r h seen.
    h c.args.i seen
    ∙ ap (λ f. framed (frame_in f) c.args.node (parts_of c.args.parts.now) c.args.i (context_with c.args.terms.now seen c.args.around)) (sym c.in-Declarator.is)) c.in_declarator.ensures
