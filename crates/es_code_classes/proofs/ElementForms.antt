-- Fields, by the forms of their keys.
use Rattle.std.proofs.Common.{◌≡◌, refl, sym, ap, ◌∙◌, ℕ, List, Bool, Option}
use Rattle.es_steps.specs.Context.{Context}
use Rattle.es_steps.specs.Expressions.{the_code}
use Rattle.es_steps.specs.Members.{Member, end, more, flag_of}
use Rattle.es_steps.specs.Statements.{field_code, field_of, private_element, value_or_undefined}
use Rattle.es_code_classes.specs.Elements.{keyed_field, public_field}
use Rattle.es_steps.specs.Code as of
use Rattle.es_codes.proofs.Forms.{code_out, private_name_is}
use Rattle.es_codes.specs.CodeView.{code_of, target_of, callee_of, code_step}
use Rattle.es_codes.specs.declared.code.Code.{Code}
use Rattle.es_codes.specs.declared.code.Target.{Target}
use Rattle.es_codes.specs.declared.code.Callee.{Callee}
use Rattle.es_codes.specs.declared.name.PrivateReference.{PrivateReference}
use Rattle.es_codes.specs.declared.code.Code.TheVariants as variants
use Rattle.es_codes.specs.declared.code.Callee.TheOpen.{Code-F}
use Rattle.es_codes.specs.declared.code.Callee.TheViews.{roll-Code, out-Code, roll-out-Code}
use Rattle.es_codes.specs.declared.code.Callee.TheFolds.{map-Code}

pub private_field : (c : Context) (init : Member) (is_computed is_static : Bool) (e : Code) (node : ℕ) (spelling : List ℕ) (means : Option PrivateReference) → e ≡ variants.PrivateName node spelling means → keyed_field c (code_of e) init is_computed is_static ≡ private_element c is_static node spelling (value_or_undefined init)
private_field c init is_computed is_static e node spelling means is = ap (λ x. keyed_field c (code_of x) init is_computed is_static) is ∙ ap (λ x. keyed_field c x init is_computed is_static) (private_name_is node spelling means)

pub other_field : (c : Context) (init : Member) (is_computed is_static : Bool) (e : Code) → ((node : ℕ) (spelling : List ℕ) (means : Option PrivateReference) → e ≡ variants.PrivateName node spelling means → ⊥) → keyed_field c (code_of e) init is_computed is_static ≡ public_field c (code_of e) init is_computed is_static
other_field c init is_computed is_static e not_private_name = ap (λ x. keyed_field c x init is_computed is_static) (code_out e) ∙ by (out-Code e) (roll-out-Code e) ∙ ap (λ x. public_field c x init is_computed is_static) (sym (code_out e))
  where
    by : (y : Code-F Callee Code Target) → roll-Code y ≡ e → keyed_field c (code_step (map-Code Callee Code Target of.Callee of.Code of.Target callee_of code_of target_of y)) init is_computed is_static ≡ public_field c (code_step (map-Code Callee Code Target of.Callee of.Code of.Target callee_of code_of target_of y)) init is_computed is_static
    by (Code-F.PrivateName node spelling means) is = absurd (not_private_name node spelling means (sym is ∙ variants.rolls-PrivateName node spelling means))
    by y is = refl

field-by : (c : Context) (key init computed static_flag : Member) (k : of.Code) → keyed_field c k init (flag_of computed) (flag_of static_flag) ≡ field_of c (more key (more init (more computed (more static_flag end)))) k
field-by c key init computed static_flag (of.private_name d s r) = refl
field-by c key init computed static_flag k = refl

pub by_key : (c : Context) (key init computed static_flag : Member) (k : of.Code) (is_computed is_static : Bool) → k ≡ the_code key → is_computed ≡ flag_of computed → is_static ≡ flag_of static_flag → keyed_field c k init is_computed is_static ≡ field_code c (more key (more init (more computed (more static_flag end))))
by_key c key init computed static_flag k is_computed is_static keyed computes stays =
    ap (λ x. keyed_field c x init is_computed is_static) keyed
    ∙ ap (λ b. keyed_field c (the_code key) init b is_static) computes
    ∙ ap (λ b. keyed_field c (the_code key) init (flag_of computed) b) stays
    ∙ field-by c key init computed static_flag (the_code key)
