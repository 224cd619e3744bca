use Rattle.std.proofs.Common.{ap, ◌∙◌}
use Rattle.std.proofs.lemmas.Result.{IfOk-weaker}
use Rattle.es_base.specs.declared.kind.Kind.{Kind}
use Rattle.es_steps.specs.Expressions.{operation_of, the_code}
use Rattle.es_steps.specs.Members.{more, end, word_of}
use Rattle.es_code_members.specs.MembersView.{member_of}
use Rattle.es_code_reading.specs.Contexts.{context_of}
use Rattle.es_code_assignments.specs.Binaries.{binary_form, left_form}
use Rattle.es_code_assignments.proofs.BinaryForms.{by_class_test}
use Rattle.es_code_assignments.proofs.binary.binary_code.Goals as goal

pub returns-in-ClassTest : goal.returns-in-ClassTest
returns-in-ClassTest c =
    let operator = member_of c.args.operator.now in
    let left = member_of c.args.left.now in
    let right = member_of c.args.right.now in
    let whole = operation_of Kind.BinaryExpression c.args.node (more operator (more left (more right end))) in
    IfOk-weaker c.class_test.result _ _ (λ e h. h ∙ by_class_test (context_of c.args.c.now) c.args.node (word_of operator) (the_code left) (the_code right) whole c.in-ClassTest.class (c.in-ClassTest.ensures ∙ ap (λ s. binary_form (context_of c.args.c.now) c.args.node s (left_form (the_code left)) (the_code right)) c.word_of.ensures)) c.class_test.ensures
