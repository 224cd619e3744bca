-- Private names, by the forms of codes.
use Rattle.std.proofs.Common.{◌≡◌, refl, sym, ap, ◌∙◌, ℕ, List, Bool, true, false, Option, Some, None, option_map}
use Rattle.es_steps.specs.Context.{Context}
use Rattle.es_steps.specs.Expressions as spec
use Rattle.es_steps.specs.PrivateNames as privates
use Rattle.es_code_places.specs.PrivateKeys.{asked_by, is_super, private_named}
use Rattle.es_steps.specs.Code as of
use Rattle.es_codes.proofs.Forms.{code_out, private_name_is, super_is}
use Rattle.es_codes.specs.CodeView.{code_of, target_of, callee_of, code_step}
use Rattle.es_codes.specs.View.{reference_of}
use Rattle.es_codes.specs.declared.code.Code.{Code}
use Rattle.es_codes.specs.declared.code.Target.{Target}
use Rattle.es_codes.specs.declared.code.Callee.{Callee}
use Rattle.es_codes.specs.declared.name.PrivateReference.{PrivateReference}
use Rattle.es_codes.specs.declared.code.Code.TheVariants as variants
use Rattle.es_codes.specs.declared.code.Callee.TheOpen.{Code-F}
use Rattle.es_codes.specs.declared.code.Callee.TheViews.{roll-Code, out-Code, roll-out-Code}
use Rattle.es_codes.specs.declared.code.Callee.TheFolds.{map-Code}

pub a_super : (e : Code) → e ≡ variants.Super → is_super (code_of e) ≡ true
a_super e is = ap (λ x. is_super (code_of x)) is ∙ ap (λ x. is_super x) super_is

pub no_super : (e : Code) → (e ≡ variants.Super → ⊥) → is_super (code_of e) ≡ false
no_super e not_super = ap (λ x. is_super x) (code_out e) ∙ by (out-Code e) (roll-out-Code e)
  where
    by : (y : Code-F Callee Code Target) → roll-Code y ≡ e → is_super (code_step (map-Code Callee Code Target of.Callee of.Code of.Target callee_of code_of target_of y)) ≡ false
    by Code-F.Super is = absurd (not_super (sym is ∙ variants.rolls-Super))
    by y is = refl

pub on_super : (c : Context) (m : ℕ) (optional : Bool) (s : List ℕ) (r : Option privates.PrivateReference) (o : of.Code) → is_super o ≡ true → of.no_rule ≡ private_named c m optional s r o
on_super c m optional s r of.super h = refl
on_super c m optional s r o h = cc

pub on_other : (c : Context) (m : ℕ) (optional : Bool) (s : List ℕ) (r : Option privates.PrivateReference) (o : of.Code) → is_super o ≡ false → spec.private_on c m s r o (spec.checked_object optional o) ≡ private_named c m optional s r o
on_other c m optional s r of.super h = cc
on_other c m optional s r o h = refl

pub no_meaning : (c : Context) (m : ℕ) (optional : Bool) (s : List ℕ) (o : of.Code) → of.no_rule ≡ private_named c m optional s None o
no_meaning c m optional s of.super = refl
no_meaning c m optional s o = refl

abbrev is_private_name : of.Code → Bool
is_private_name (of.private_name d s r) = true
is_private_name k = false

by-name : (c : Context) (m : ℕ) (optional : Bool) (o : of.Code) (d : ℕ) (s : List ℕ) (r : Option privates.PrivateReference) → spec.private_field_of c m optional o (of.private_name d s r) ≡ private_named c m optional s r o
by-name c m optional of.super d s r = refl
by-name c m optional o d s r = refl

other-key : (c : Context) (m : ℕ) (optional : Bool) (o k : of.Code) → is_private_name k ≡ false → spec.private_field_of c m optional o k ≡ of.no_rule
other-key c m optional of.super k h = refl
other-key c m optional o (of.private_name d s r) h = cc
other-key c m optional o k h = refl

pub no_key : (c : Context) (m : ℕ) (optional : Bool) (o : of.Code) → of.no_rule ≡ spec.private_field_of c m optional o of.no_rule
no_key c m optional o = sym (other-key c m optional o of.no_rule refl)

pub by_name : (c : Context) (m : ℕ) (optional : Bool) (o : of.Code) (e : Code) (node : ℕ) (spelling : List ℕ) (means : Option PrivateReference) → e ≡ variants.PrivateName node spelling means → spec.private_field_of c m optional o (code_of e) ≡ private_named c m optional spelling (option_map reference_of means) o
by_name c m optional o e node spelling means is = ap (λ x. spec.private_field_of c m optional o (code_of x)) is ∙ ap (λ x. spec.private_field_of c m optional o x) (private_name_is node spelling means) ∙ by-name c m optional o node spelling (option_map reference_of means)

unprivate : (e : Code) → ((node : ℕ) (spelling : List ℕ) (means : Option PrivateReference) → e ≡ variants.PrivateName node spelling means → ⊥) → is_private_name (code_of e) ≡ false
unprivate e not_private_name = ap (λ x. is_private_name x) (code_out e) ∙ by (out-Code e) (roll-out-Code e)
  where
    by : (y : Code-F Callee Code Target) → roll-Code y ≡ e → is_private_name (code_step (map-Code Callee Code Target of.Callee of.Code of.Target callee_of code_of target_of y)) ≡ false
    by (Code-F.PrivateName node spelling means) is = absurd (not_private_name node spelling means (sym is ∙ variants.rolls-PrivateName node spelling means))
    by y is = refl

pub by_other : (c : Context) (m : ℕ) (optional : Bool) (o : of.Code) (e : Code) → ((node : ℕ) (spelling : List ℕ) (means : Option PrivateReference) → e ≡ variants.PrivateName node spelling means → ⊥) → spec.private_field_of c m optional o (code_of e) ≡ of.no_rule
by_other c m optional o e not_private_name = other-key c m optional o (code_of e) (unprivate e not_private_name)

asked-by : (c : Context) (m d : ℕ) (s : List ℕ) (r : Option privates.PrivateReference) (o : of.Code) → spec.private_in_of c m (of.private_name d s r) o ≡ asked_by c m s r o
asked-by c m d s None o = refl
asked-by c m d s (Some r) o = refl

pub asked : (c : Context) (m : ℕ) (o : of.Code) (e : Code) (node : ℕ) (spelling : List ℕ) (means : Option PrivateReference) → e ≡ variants.PrivateName node spelling means → spec.private_in_of c m (code_of e) o ≡ asked_by c m spelling (option_map reference_of means) o
asked c m o e node spelling means is = ap (λ x. spec.private_in_of c m (code_of x) o) is ∙ ap (λ x. spec.private_in_of c m x o) (private_name_is node spelling means) ∙ asked-by c m node spelling (option_map reference_of means) o

pub unasked : (c : Context) (m : ℕ) (o : of.Code) (e : Code) → ((node : ℕ) (spelling : List ℕ) (means : Option PrivateReference) → e ≡ variants.PrivateName node spelling means → ⊥) → spec.private_in_of c m (code_of e) o ≡ of.no_rule
unasked c m o e not_private_name = ap (λ x. spec.private_in_of c m x o) (code_out e) ∙ by (out-Code e) (roll-out-Code e)
  where
    by : (y : Code-F Callee Code Target) → roll-Code y ≡ e → spec.private_in_of c m (code_step (map-Code Callee Code Target of.Callee of.Code of.Target callee_of code_of target_of y)) o ≡ of.no_rule
    by (Code-F.PrivateName node spelling means) is = absurd (not_private_name node spelling means (sym is ∙ variants.rolls-PrivateName node spelling means))
    by y is = refl
