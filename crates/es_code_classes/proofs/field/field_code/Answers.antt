use Rattle.std.proofs.Common.{◌∙◌}
use Rattle.std.proofs.lemmas.Result.{IfOk-weaker}
use Rattle.es_code_members.specs.MembersView.{member_of}
use Rattle.es_code_reading.specs.Contexts.{context_of}
use Rattle.es_code_classes.proofs.ElementForms.{by_key}
use Rattle.es_code_classes.proofs.field.field_code.Goals as goal

pub returns : goal.returns
returns c =
    let f = c.args.field.now in
    IfOk-weaker c.keyed_field.result _ _ (λ e h. h ∙ by_key (context_of c.args.c.now) (member_of f.key) (member_of f.value) (member_of f.is_computed) (member_of f.is_static) _ _ _ c.take_code-key.ensures c.flag_of-is_computed.ensures c.flag_of-is_static.ensures) c.keyed_field.ensures
