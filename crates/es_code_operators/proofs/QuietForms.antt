-- Logical operators without an event, by the forms of codes.
use Rattle.std.proofs.Common.{◌≡◌, refl, sym, ap, ◌∙◌, ℕ, List, true, false, cond, Some, None}
use Rattle.es_codes.specs.Keyed.{is_key}
use Rattle.es_steps.specs.Context.{Context}
use Rattle.es_steps.specs.Expressions as spec
use Rattle.es_steps.specs.Values as values
use Rattle.es_code_operators.specs.Quiet.{is_done_quietly, is_new_result, is_quiet, is_value, result_number, result_of}
use Rattle.es_steps.specs.Code as of
use Rattle.es_codes.proofs.Forms.{code_out, from_call_is, value_is}
use Rattle.es_codes.specs.CodeView.{code_of, target_of, callee_of, code_step}
use Rattle.es_codes.specs.declared.code.Code.{Code}
use Rattle.es_codes.specs.declared.code.Target.{Target}
use Rattle.es_codes.specs.declared.code.Callee.{Callee}
use Rattle.es_codes.specs.declared.code.Code.TheVariants as variants
use Rattle.es_codes.specs.declared.code.Callee.TheOpen.{Code-F}
use Rattle.es_codes.specs.declared.code.Callee.TheViews.{roll-Code, out-Code, roll-out-Code}
use Rattle.es_codes.specs.declared.code.Callee.TheFolds.{map-Code}

pub key_no_result : (v : values.Value) → is_key v ≡ true → None ≡ result_of v
key_no_result (values.KeyOf v) h = refl
key_no_result v h = cc

pub a_result : (e : Code) (value : values.Value) → e ≡ variants.Value value → result_number (code_of e) ≡ result_of value
a_result e value is = ap (λ x. result_number (code_of x)) is ∙ ap (λ x. result_number x) (value_is value)

pub no_result : (e : Code) → ((value : values.Value) → e ≡ variants.Value value → ⊥) → result_number (code_of e) ≡ None
no_result e not_value = ap (λ x. result_number x) (code_out e) ∙ by (out-Code e) (roll-out-Code e)
  where
    by : (y : Code-F Callee Code Target) → roll-Code y ≡ e → result_number (code_step (map-Code Callee Code Target of.Callee of.Code of.Target callee_of code_of target_of y)) ≡ None
    by (Code-F.Value value) is = absurd (not_value value (sym is ∙ variants.rolls-Value value))
    by y is = refl

pub a_value : (e : Code) (value : values.Value) → e ≡ variants.Value value → is_value (code_of e) ≡ true
a_value e value is = ap (λ x. is_value (code_of x)) is ∙ ap (λ x. is_value x) (value_is value)

pub no_value : (e : Code) → ((value : values.Value) → e ≡ variants.Value value → ⊥) → is_value (code_of e) ≡ false
no_value e not_value = ap (λ x. is_value x) (code_out e) ∙ by (out-Code e) (roll-out-Code e)
  where
    by : (y : Code-F Callee Code Target) → roll-Code y ≡ e → is_value (code_step (map-Code Callee Code Target of.Callee of.Code of.Target callee_of code_of target_of y)) ≡ false
    by (Code-F.Value value) is = absurd (not_value value (sym is ∙ variants.rolls-Value value))
    by y is = refl

pub a_call : (c : Context) (e : Code) (expression : Code) → e ≡ variants.FromCall expression → is_done_quietly c (code_of e) ≡ is_value (code_of expression)
a_call c e expression is = ap (λ x. is_done_quietly c (code_of x)) is ∙ ap (λ x. is_done_quietly c x) (from_call_is expression)

pub a_test : (c : Context) (e : Code) (value : values.Value) → e ≡ variants.Value value → is_done_quietly c (code_of e) ≡ is_new_result c (result_of value)
a_test c e value is = ap (λ x. is_done_quietly c (code_of x)) is ∙ ap (λ x. is_done_quietly c x) (value_is value)

pub no_call : (c : Context) (e : Code) → ((expression : Code) → e ≡ variants.FromCall expression → ⊥) → ((value : values.Value) → e ≡ variants.Value value → ⊥) → is_done_quietly c (code_of e) ≡ false
no_call c e not_from_call not_value = ap (λ x. is_done_quietly c x) (code_out e) ∙ by (out-Code e) (roll-out-Code e)
  where
    by : (y : Code-F Callee Code Target) → roll-Code y ≡ e → is_done_quietly c (code_step (map-Code Callee Code Target of.Callee of.Code of.Target callee_of code_of target_of y)) ≡ false
    by (Code-F.FromCall expression) is = absurd (not_from_call expression (sym is ∙ variants.rolls-FromCall expression))
    by (Code-F.Value value) is = absurd (not_value value (sym is ∙ variants.rolls-Value value))
    by y is = refl

quiet-call : (c : Context) (m : ℕ) (s : List ℕ) (k : ℕ) (e whole : of.Code) → spec.quiet_logical c m s (of.value (values.ResultOf k)) (of.from_call e) whole ≡ cond (is_quiet c m s (Some k) (is_value e)) (of.value (values.ResultOf m)) whole
quiet-call c m s k (of.value v) whole = refl
quiet-call c m s k e whole = refl

quiet-test : (c : Context) (m : ℕ) (s : List ℕ) (k : ℕ) (v : values.Value) (whole : of.Code) → spec.quiet_logical c m s (of.value (values.ResultOf k)) (of.value v) whole ≡ cond (is_quiet c m s (Some k) (is_new_result c (result_of v))) (of.value (values.ResultOf m)) whole
quiet-test c m s k (values.ResultOf j) whole = refl
quiet-test c m s k v whole = refl

quiet-result : (c : Context) (m : ℕ) (s : List ℕ) (k : ℕ) (r whole : of.Code) → spec.quiet_logical c m s (of.value (values.ResultOf k)) r whole ≡ cond (is_quiet c m s (Some k) (is_done_quietly c r)) (of.value (values.ResultOf m)) whole
quiet-result c m s k (of.from_call e) whole = quiet-call c m s k e whole
quiet-result c m s k (of.value v) whole = quiet-test c m s k v whole
quiet-result c m s k r whole = refl

quiet-by : (c : Context) (m : ℕ) (s : List ℕ) (l r whole : of.Code) → spec.quiet_logical c m s l r whole ≡ cond (is_quiet c m s (result_number l) (is_done_quietly c r)) (of.value (values.ResultOf m)) whole
quiet-by c m s (of.value (values.ResultOf k)) r whole = quiet-result c m s k r whole
quiet-by c m s (of.value v) r whole = refl
quiet-by c m s l r whole = refl

pub quiet : (c : Context) (m : ℕ) (s : List ℕ) (l r whole : of.Code) → is_quiet c m s (result_number l) (is_done_quietly c r) ≡ true → of.value (values.ResultOf m) ≡ spec.quiet_logical c m s l r whole
quiet c m s l r whole is = sym (quiet-by c m s l r whole ∙ ap (λ b. cond b (of.value (values.ResultOf m)) whole) is)

pub not_quiet : (c : Context) (m : ℕ) (s : List ℕ) (l r whole : of.Code) → is_quiet c m s (result_number l) (is_done_quietly c r) ≡ false → whole ≡ spec.quiet_logical c m s l r whole
not_quiet c m s l r whole is = sym (quiet-by c m s l r whole ∙ ap (λ b. cond b (of.value (values.ResultOf m)) whole) is)
