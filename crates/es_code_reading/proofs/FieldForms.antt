-- What the options make of a public field.
use Rattle.std.proofs.Common.{◌≡◌, refl, sym, ap, ◌∙◌, Bool, true, false, cond}
use Rattle.std.specs.Prelude.{not, ◌&&◌}
use Rattle.es_steps.specs.Code.{Code, FieldForm, defines, sets, leaves_out}
use Rattle.es_steps.specs.Members.{Member}
use Rattle.es_steps.specs.Options.{leaves_out_fields, sets_fields}
use Rattle.es_steps.specs.Statements.{field_form, is_absent, is_name_or_length}
use Rattle.es_steps.specs.declared.options.Options.{Options}

abbrev by : Bool → Bool → FieldForm
by b d = cond b leaves_out (cond d sets defines)

-- b: it is left out; d: it is set
form : (o : Options) (is_static : Bool) (k : Code) (p : Member) → field_form o is_static k p ≡ by (leaves_out_fields o && is_absent p) (sets_fields o && not (is_static && is_name_or_length k))
form o is_static k p = refl

pub left_out : (o : Options) (is_static : Bool) (k : Code) (p : Member) (a : Bool) → ((sets_fields o && o.remove_class_fields_without_initializer) && a) ≡ true → a ≡ is_absent p → leaves_out ≡ field_form o is_static k p
left_out o is_static k p a e same = sym (ap (λ b. by b (sets_fields o && not (is_static && is_name_or_length k))) (ap (λ x. leaves_out_fields o && x) (sym same) ∙ e))

pub set : (o : Options) (is_static : Bool) (k : Code) (p : Member) (a : Bool) → ((sets_fields o && o.remove_class_fields_without_initializer) && a) ≡ false → a ≡ is_absent p → (sets_fields o && not (is_static && is_name_or_length k)) ≡ true → sets ≡ field_form o is_static k p
set o is_static k p a e same d = sym (ap (λ b. by b (sets_fields o && not (is_static && is_name_or_length k))) (ap (λ x. leaves_out_fields o && x) (sym same) ∙ e) ∙ ap (λ b. by false b) d)

pub defined : (o : Options) (is_static : Bool) (k : Code) (p : Member) (a : Bool) → ((sets_fields o && o.remove_class_fields_without_initializer) && a) ≡ false → a ≡ is_absent p → (sets_fields o && not (is_static && is_name_or_length k)) ≡ false → defines ≡ field_form o is_static k p
defined o is_static k p a e same d = sym (ap (λ b. by b (sets_fields o && not (is_static && is_name_or_length k))) (ap (λ x. leaves_out_fields o && x) (sym same) ∙ e) ∙ ap (λ b. by false b) d)
