use Rattle.std.proofs.Common.{◌∙◌}
use Rattle.std.proofs.lemmas.Result.{IfOk-weaker}
use Rattle.es_code_members.specs.MembersView.{member_of}
use Rattle.es_code_reading.specs.Contexts.{context_of}
use Rattle.es_code_classes.proofs.Methods.{with_other_key, with_private_key}
use Rattle.es_code_classes.proofs.method.method_code.Goals as goal

pub returns-in-Some : goal.returns-in-Some
returns-in-Some c =
    let m = c.args.method.now in
    IfOk-weaker c.private_method.result _ _ (λ e h. h ∙ with_private_key (context_of c.args.c.now) (member_of m.key) (member_of m.value) (member_of m.kind) (member_of m.is_computed) (member_of m.is_static) c.in-Some.key c.in-Some.ensures) c.private_method.ensures

pub returns-in-None : goal.returns-in-None
returns-in-None c =
    let m = c.args.method.now in
    IfOk-weaker c.public_method.result _ _ (λ e h. h ∙ with_other_key (context_of c.args.c.now) (member_of m.key) (member_of m.value) (member_of m.kind) (member_of m.is_computed) (member_of m.is_static) c.in-None.ensures) c.public_method.ensures
