-- What a code is, by its form.
use Rattle.std.proofs.Common.{◌≡◌, refl, sym, ap, ◌∙◌, ℕ, List, None}
use Rattle.es_steps.specs.Code as of
use Rattle.es_steps.specs.Values.{Value}
use Rattle.es_codes.specs.CodeView.{code_of, target_of, callee_of, code_step, target_step, callee_step}
use Rattle.es_codes.specs.declared.name.NameKind.{NameKind}
use Rattle.es_codes.specs.declared.code.Code.{Code}
use Rattle.es_codes.specs.declared.code.Target.{Target}
use Rattle.es_codes.specs.declared.code.Callee.{Callee}
use Rattle.es_codes.specs.declared.code.Code.TheVariants as codes
use Rattle.es_codes.specs.declared.code.Callee.TheOpen.{Code-F}
use Rattle.es_codes.specs.declared.code.Callee.TheViews.{roll-Code, out-Code, roll-out-Code}
use Rattle.es_codes.specs.declared.code.Callee.TheFolds.{map-Code, fold-roll-Code}
use Rattle.es_code_reading.specs.Letters.{name_kind_in, value_in}

code-roll : (y : Code-F Callee Code Target) → code_of (roll-Code y) ≡ code_step (map-Code Callee Code Target of.Callee of.Code of.Target callee_of code_of target_of y)
unfolding code_of target_of callee_of
code-roll y = fold-roll-Code of.Callee of.Code of.Target callee_step code_step target_step y

pub code-out : (e : Code) → code_of e ≡ code_step (map-Code Callee Code Target of.Callee of.Code of.Target callee_of code_of target_of (out-Code e))
code-out e = sym (ap code_of (roll-out-Code e)) ∙ code-roll (out-Code e)

pub not_name : (e : Code) → ((m : ℕ) (s : List ℕ) (k : NameKind) → e ≡ codes.Name m s k → ⊥) → None ≡ name_kind_in (code_of e)
not_name e other = by (out-Code e) (roll-out-Code e) ∙ ap name_kind_in (sym (code-out e))
  where
    by : (y : Code-F Callee Code Target) → roll-Code y ≡ e → None ≡ name_kind_in (code_step (map-Code Callee Code Target of.Callee of.Code of.Target callee_of code_of target_of y))
    by (Code-F.Name m s k) is = absurd (other m s k (sym is ∙ codes.rolls-Name m s k))
    by y is = refl

pub not_value : (e : Code) → ((v : Value) → e ≡ codes.Value v → ⊥) → None ≡ value_in (code_of e)
not_value e other = by (out-Code e) (roll-out-Code e) ∙ ap value_in (sym (code-out e))
  where
    by : (y : Code-F Callee Code Target) → roll-Code y ≡ e → None ≡ value_in (code_step (map-Code Callee Code Target of.Callee of.Code of.Target callee_of code_of target_of y))
    by (Code-F.Value v) is = absurd (other v (sym is ∙ codes.rolls-Value v))
    by y is = refl
