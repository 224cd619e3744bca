use Rattle.std.proofs.Common.{◌∙◌, ◌&&◌, ◌||◌, ap, sym, true, false, None}
use Rattle.es_base.specs.Carried.{span_of}
use Rattle.es_base.specs.Tree.{child, boolean, list, trees, end}
use Rattle.es_steps.specs.Shapes.{private_behind}
use Rattle.es_shapes.proofs.Chains.{behind_member, behind_private, behind_call}
use Rattle.es_shapes.proofs.private_chain.+is_private_behind.Goals as goal

pub returns-in-MemberExpression : goal.returns-in-MemberExpression
returns-in-MemberExpression t c =
    let member = c.from_node-member.result in
    c.is_met_or.ensures
    ∙ ap (λ b. (member.optional && c.args.met) || b) c.is_private_behind.ensures
    ∙ sym (ap (private_behind c.args.met) c.from_node-member.ensures ∙ behind_member c.args.met member.node_id.0 (span_of member.span) None member.object.now (child member.property.now) (boolean member.computed) member.optional end)

pub returns-in-PrivateField : goal.returns-in-PrivateField
returns-in-PrivateField t c =
    let field = c.from_node-field.result in
    c.is_met_or-in-PrivateField.ensures
    ∙ ap (λ b. (field.optional && true) || b) c.is_private_behind-in-PrivateField.ensures
    ∙ sym (ap (private_behind c.args.met) c.from_node-field.ensures ∙ behind_private c.args.met field.node_id.0 (span_of field.span) None field.object.now (child field.property.now) (boolean false) field.optional end)

pub returns-in-CallExpression : goal.returns-in-CallExpression
returns-in-CallExpression t c =
    let call = c.from_node-call.result in
    c.is_met_or-in-CallExpression.ensures
    ∙ ap (λ b. (call.optional && c.args.met) || b) c.is_private_behind-in-CallExpression.ensures
    ∙ sym (ap (private_behind c.args.met) c.from_node-call.ensures ∙ behind_call c.args.met call.node_id.0 (span_of call.span) None call.callee.now (list (trees call.arguments.now)) call.optional end)
