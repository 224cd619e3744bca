use Rattle.std.proofs.Common.{◌≡◌, ◌∙◌, sym, ap, true, false}
use Rattle.std.proofs.lemmas.Result.{IfOk-weaker}
use Rattle.es_codes.specs.CodeView.{code_of}
use Rattle.es_codes.specs.declared.code.Code.{Code}
use Rattle.es_steps.specs.GeneratedForms.{single_property}
use Rattle.es_code_reading.specs.Contexts.{context_of}
use Rattle.es_code_new_literals.specs.Literals.{is_keyed_by}
use Rattle.es_code_generated_members.specs.Accesses.{accessed}
use Rattle.es_code_generated_members.specs.Kept.{kept_value}
use Rattle.es_code_generated_members.proofs.KeptForms.{kept, not_kept}
use Rattle.es_code_generated_members.proofs.kept.kept_name.Goals as goal

pub returns-in_ok-single_property : goal.returns-in_ok-single_property
returns-in_ok-single_property c =
    let property = single_property (context_of c.args.c.now) (code_of c.args.object) in
    let keyed : is_keyed_by (code_of c.args.access.key) property ≡ true = sym (c.is_keyed_by.ensures ∙ ap (λ (k : Code). is_keyed_by (code_of k) property) c.get.ensures) ∙ c.if-is_keyed_by.true in
    IfOk-weaker c.kept_value.result _ _ (λ e h. h ∙ ap kept_value c.in_ok-single_property.ensures ∙ kept (code_of c.args.access.key) (accessed c.args.access (code_of c.args.object)) property keyed) c.kept_value.ensures

pub returns-else-is_keyed_by : goal.returns-else-is_keyed_by
returns-else-is_keyed_by c =
    let property = single_property (context_of c.args.c.now) (code_of c.args.object) in
    let keyed : is_keyed_by (code_of c.args.access.key) property ≡ false = sym (c.is_keyed_by.ensures ∙ ap (λ (k : Code). is_keyed_by (code_of k) property) c.get.ensures) ∙ c.if-is_keyed_by.false in
    IfOk-weaker c.on.result _ _ (λ e h. h ∙ not_kept (code_of c.args.access.key) (accessed c.args.access (code_of c.args.object)) property keyed) c.on.ensures
