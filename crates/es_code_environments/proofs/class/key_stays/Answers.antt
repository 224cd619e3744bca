use Rattle.std.proofs.Common.{◌≡◌, sym, ap₂, ◌∙◌, Bool, true, Some, arith}
use Rattle.std.proofs.lemmas.Grind.{common_steps}
use Rattle.std.specs.Prelude.{IsTrue, ◌↔◌}
use Rattle.es_codes.specs.CodeView.{code_of}
use Rattle.es_evaluator.proofs.SameValues.{same_value_is}
use Rattle.es_steps.specs.Code.{Code}
use Rattle.es_steps.specs.Entries.{same_nullable, value_in}
use Rattle.es_steps.specs.Evaluation.{Environment, ev_key}
use Rattle.es_steps.specs.Values.{Value}
use Rattle.es_code_environments.proofs.ClassForms.{field_key}
use Rattle.es_code_environments.proofs.class.key_stays.Goals as goal
use Rattle.es_code_environments.specs.Classes.{is_instance_field, key_stays}
use Rattle.es_code_environments.specs.Standing.{opens_in}
use Rattle.es_code_environments.specs.declared.terms.Terms.{Terms}

stays_as : (t : Terms) (s i : Environment) (c : Code) (b : Bool) (v w : Value) → is_instance_field c ≡ true → value_in (ev_key (opens_in t) c s) ≡ Some v → value_in (ev_key (opens_in t) c i) ≡ Some w → (IsTrue b ↔ (v ≡ w)) → key_stays t s i c ≡ b
stays_as t s i c b v w field h k same = field_key t s i c field ∙ ap₂ same_nullable h k ∙ sym (same_value_is b v w same)

pub returns-then-is_same-clause-stays : goal.returns-then-is_same-clause-stays
returns-then-is_same-clause-stays c =
    let field : is_instance_field (code_of c.args.element.now) ≡ true = grind (arith, common_steps) in
    stays_as c.args.terms.now c.args.here.now c.args.start.now (code_of c.args.element.now) c.is_same.result c.in_ok-value.value c.in_ok-there.there field c.in_ok-value.ensures.value c.in_ok-there.ensures.value c.is_same.ensures ∙ c.if-is_same.true

pub returns-clause-stays : goal.returns-clause-stays
returns-clause-stays c =
    let field : is_instance_field (code_of c.args.element.now) ≡ true = grind (arith, common_steps) in
    stays_as c.args.terms.now c.args.here.now c.args.start.now (code_of c.args.element.now) c.is_same.result c.in_ok-value.value c.in_ok-there.there field c.in_ok-value.ensures.value c.in_ok-there.ensures.value c.is_same.ensures ∙ c.if-is_same.false
