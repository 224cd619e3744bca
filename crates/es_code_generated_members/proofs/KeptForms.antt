-- Values that get the names of their keys.
use Rattle.std.proofs.Common.{◌≡◌, refl, sym, ap, ◌∙◌, true, false, cond, Option, Some, None}
use Rattle.es_steps.specs.Code.{Code}
use Rattle.es_steps.specs.GeneratedForms.{kept_name}
use Rattle.es_code_new_literals.specs.Literals.{is_keyed_by}
use Rattle.es_code_generated_members.specs.Kept.{kept_value, named_value}

pub kept : (key whole : Code) (o : Option (Code × Code)) → is_keyed_by key o ≡ true → kept_value o ≡ kept_name key o whole
kept key whole (Some p) keyed = sym (ap (λ b. cond b (named_value p) whole) keyed)
kept key whole None keyed = cc

pub not_kept : (key whole : Code) (o : Option (Code × Code)) → is_keyed_by key o ≡ false → whole ≡ kept_name key o whole
not_kept key whole (Some p) keyed = sym (ap (λ b. cond b (named_value p) whole) keyed)
not_kept key whole None keyed = refl
