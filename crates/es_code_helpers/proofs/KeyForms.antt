-- Keys that are private elements, by the forms of codes.
use Rattle.std.proofs.Common.{◌≡◌, refl, sym, ap, ◌∙◌, ℕ, List, true, false}
use Rattle.es_steps.specs.GeneratedForms as spec
use Rattle.es_code_helpers.specs.Keys.{is_private_value}
use Rattle.es_steps.specs.Code as of
use Rattle.es_codes.proofs.Forms.{code_out, private_value_is}
use Rattle.es_codes.specs.CodeView.{code_of, target_of, callee_of, code_step}
use Rattle.es_codes.specs.declared.code.Code.{Code}
use Rattle.es_codes.specs.declared.code.Target.{Target}
use Rattle.es_codes.specs.declared.code.Callee.{Callee}
use Rattle.es_codes.specs.declared.code.Code.TheVariants as variants
use Rattle.es_codes.specs.declared.code.Callee.TheOpen.{Code-F}
use Rattle.es_codes.specs.declared.code.Callee.TheViews.{roll-Code, out-Code, roll-out-Code}
use Rattle.es_codes.specs.declared.code.Callee.TheFolds.{map-Code}

pub a_private_value : (e : Code) (spelling : List ℕ) → e ≡ variants.PrivateValue spelling → is_private_value (code_of e) ≡ true
a_private_value e spelling is = ap (λ x. is_private_value (code_of x)) is ∙ ap (λ x. is_private_value x) (private_value_is spelling)

pub no_private_value : (e : Code) → ((spelling : List ℕ) → e ≡ variants.PrivateValue spelling → ⊥) → is_private_value (code_of e) ≡ false
no_private_value e not_private_value = ap (λ x. is_private_value x) (code_out e) ∙ by (out-Code e) (roll-out-Code e)
  where
    by : (y : Code-F Callee Code Target) → roll-Code y ≡ e → is_private_value (code_step (map-Code Callee Code Target of.Callee of.Code of.Target callee_of code_of target_of y)) ≡ false
    by (Code-F.PrivateValue spelling) is = absurd (not_private_value spelling (sym is ∙ variants.rolls-PrivateValue spelling))
    by y is = refl

pub key_read : (k e : of.Code) → is_private_value k ≡ true → of.from_call (of.sequence (of.and k (of.and e of.done))) ≡ spec.with_key k e
key_read (of.private_value s) e is = refl
key_read k e is = cc

pub key_unread : (k e : of.Code) → is_private_value k ≡ false → of.from_call e ≡ spec.with_key k e
key_unread (of.private_value s) e is = cc
key_unread k e is = refl
