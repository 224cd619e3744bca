use Rattle.std.proofs.Common.{◌≡◌, sym, ap, ◌∙◌, map}
use Rattle.es_codes.specs.CodeView.{callee_of, codes_of, string_of}
use Rattle.es_steps.specs.Code.{tag}
use Rattle.es_steps.specs.Expressions as spec
use Rattle.es_code_members.specs.MembersView.{member_of}
use Rattle.es_code_calls.proofs.Templates.{of_template}
use Rattle.es_code_calls.proofs.template.tag_of.Goals as goal

pub returns-in_ok-callee-in-Template : goal.returns-in_ok-callee-in-Template
returns-in_ok-callee-in-Template c =
    let tagged = spec.the_code (member_of c.args.tag.now) in
    let callee : callee_of c.in_ok-callee-in-Template.callee ≡ spec.callee_of tagged = c.in_ok-callee-in-Template.ensures ∙ ap (λ f. spec.callee_of f) c.take_code.ensures in
    let strings : c.replace-strings.result ≡ c.in-Template.strings = cc (c.replace-strings.ensures.value, c.in-Template.strings-is) in
    let expressions : c.replace-expressions.result ≡ c.in-Template.expressions = cc (c.replace-expressions.ensures.value, c.in-Template.expressions-is) in
    c.tag.ensures
    ∙ ap (λ f. tag c.args.node f (map string_of c.replace-strings.result) (codes_of c.replace-expressions.result)) callee
    ∙ ap (λ ss. tag c.args.node (spec.callee_of tagged) (map string_of ss) (codes_of c.replace-expressions.result)) strings
    ∙ ap (λ es. tag c.args.node (spec.callee_of tagged) (map string_of c.in-Template.strings) (codes_of es)) expressions
    ∙ sym (of_template c.args.node tagged c.args.template.now c.in-Template.node c.in-Template.strings c.in-Template.expressions c.in-Template.is)
