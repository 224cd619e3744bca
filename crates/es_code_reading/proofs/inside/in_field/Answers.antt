use Rattle.std.proofs.Common.{◌∙◌, sym, ap, cond, nat_eq}
use Rattle.es_node.specs.View.{parts_of}
use Rattle.es_steps.specs.Context.{in_element}
use Rattle.es_steps.specs.Parts.{at, is_true}
use Rattle.es_code_reading.specs.Contexts.{context_with}
use Rattle.es_code_reading.proofs.inside.in_field.Goals as goal

pub returns-then-i-eq1 : goal.returns-then-i-eq1
returns-then-i-eq1 c = λ seen.
    let around = context_with c.args.terms.now seen c.args.around in
    c.in_element.ensures seen
    ∙ ap (λ b. in_element b around) c.is_true_at.ensures
    ∙ ap (λ k. cond (nat_eq k 1) (in_element (is_true (at 3 (parts_of c.args.parts.now))) around) around) (sym c.if-i-eq1.true)
