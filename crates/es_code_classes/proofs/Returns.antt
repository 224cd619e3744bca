-- Statements that end with a new `return`, or do not.
use Rattle.std.proofs.Common.{◌≡◌, refl, sym, ap, ◌∙◌, suc, ◌-◌, ◌<◌, List, [], ◌∷◌, ◌++◌, length, Bool, true, false, Option, Some, None, arith}
use Rattle.std.specs.List.{slice_get}
use Rattle.std.specs.Prelude.{IsSome, IsTrue, ◌↔◌, option_to_list}
use Rattle.es_code_members.proofs.Chaining.{joined-assoc}
use Rattle.es_steps.specs.Code.{Codes, and, done, joined}
use Rattle.es_steps.specs.GeneratedForms as generated
use Rattle.es_steps.specs.Statements as spec
use Rattle.es_steps.specs.Values.{Undefined}
use Rattle.es_steps.specs.Code as of
use Rattle.es_codes.proofs.Forms.{code_out, new_return_is, steps_is}
use Rattle.es_codes.specs.CodeView.{code_of, target_of, callee_of, codes_of, code_step}
use Rattle.es_codes.specs.declared.code.Code.{Code}
use Rattle.es_codes.specs.declared.code.Target.{Target}
use Rattle.es_codes.specs.declared.code.Callee.{Callee}
use Rattle.es_codes.specs.declared.code.Code.TheVariants as variants
use Rattle.es_codes.specs.declared.code.Callee.TheOpen.{Code-F}
use Rattle.es_codes.specs.declared.code.Callee.TheViews.{roll-Code, out-Code, roll-out-Code}
use Rattle.es_codes.specs.declared.code.Callee.TheFolds.{map-Code}

pub a_return : (e : Code) (argument : List Code) → e ≡ variants.NewReturn argument → spec.is_new_return (code_of e) ≡ true
a_return e argument is = ap (λ x. spec.is_new_return (code_of x)) is ∙ ap (λ x. spec.is_new_return x) (new_return_is argument)

pub no_return : (e : Code) → ((argument : List Code) → e ≡ variants.NewReturn argument → ⊥) → spec.is_new_return (code_of e) ≡ false
no_return e not_new_return = ap (λ x. spec.is_new_return x) (code_out e) ∙ by (out-Code e) (roll-out-Code e)
  where
    by : (y : Code-F Callee Code Target) → roll-Code y ≡ e → spec.is_new_return (code_step (map-Code Callee Code Target of.Callee of.Code of.Target callee_of code_of target_of y)) ≡ false
    by (Code-F.NewReturn argument) is = absurd (not_new_return argument (sym is ∙ variants.rolls-NewReturn argument))
    by y is = refl

-- ---- the last of some statements

last-on : (x y : Code) (xs : List Code) → slice_get (x ∷ y ∷ xs) (length (x ∷ y ∷ xs) - 1) ≡ slice_get (y ∷ xs) (length (y ∷ xs) - 1)
last-on x y xs =
    let e : length (x ∷ y ∷ xs) - 1 ≡ suc (length (y ∷ xs) - 1) = omega arith in
    ap (slice_get (x ∷ y ∷ xs)) e

same-returned : (x c : Code) → Some x ≡ Some c → spec.is_new_return (code_of x) ≡ spec.is_new_return (code_of c)
same-returned x c e = let is : x ≡ c = cc in ap (λ z. spec.is_new_return (code_of z)) is

pub ends_last : (cs : List Code) (c : Code) → slice_get cs (length cs - 1) ≡ Some c → spec.ends_with_return (codes_of cs) ≡ spec.is_new_return (code_of c)
ends_last [] c e = absurd (cc e)
ends_last (x ∷ []) c e = same-returned x c e
ends_last (x ∷ y ∷ xs) c e = ends_last (y ∷ xs) c (sym (last-on x y xs) ∙ e)

pub ends_nowhere : (cs : List Code) → slice_get cs (length cs - 1) ≡ None → spec.ends_with_return (codes_of cs) ≡ false
ends_nowhere [] e = refl
ends_nowhere (x ∷ []) e = absurd (cc e)
ends_nowhere (x ∷ y ∷ xs) e = ends_nowhere (y ∷ xs) (sym (last-on x y xs) ∙ e)

pub last_return : (e : Code) (argument : List Code) → e ≡ variants.NewReturn argument → generated.ended (and (code_of e) done) ≡ generated.value_or_undefined (codes_of argument)
last_return e argument is = ap (λ x. generated.ended (and (code_of x) done)) is ∙ ap (λ x. generated.ended (and x done)) (new_return_is argument)

pub last_other : (e : Code) → ((argument : List Code) → e ≡ variants.NewReturn argument → ⊥) → generated.ended (and (code_of e) done) ≡ and (code_of e) (and (of.value Undefined) done)
last_other e not_new_return = ap (λ x. generated.ended (and x done)) (code_out e) ∙ by (out-Code e) (roll-out-Code e) ∙ ap (λ x. and x (and (of.value Undefined) done)) (sym (code_out e))
  where
    by : (y : Code-F Callee Code Target) → roll-Code y ≡ e → generated.ended (and (code_step (map-Code Callee Code Target of.Callee of.Code of.Target callee_of code_of target_of y)) done) ≡ and (code_step (map-Code Callee Code Target of.Callee of.Code of.Target callee_of code_of target_of y)) (and (of.value Undefined) done)
    by (Code-F.NewReturn argument) is = absurd (not_new_return argument (sym is ∙ variants.rolls-NewReturn argument))
    by y is = refl

-- ---- the argument of a new `return`

pub without_argument : (b : Bool) (es : List Code) → IsTrue b ↔ (es ≡ []) → b ≡ true → and (of.value Undefined) done ≡ generated.value_or_undefined (codes_of es)
without_argument b [] h is = refl
without_argument b (e ∷ es) h is = absurd (cc (h.0 is))

pub with_argument : (b : Bool) (es : List Code) → IsTrue b ↔ (es ≡ []) → b ≡ false → codes_of es ≡ generated.value_or_undefined (codes_of es)
with_argument b [] h is = absurd (cc (h.1 refl, is))
with_argument b (e ∷ es) h is = refl

-- ---- one statement behind others

pub one_then : (old : Codes) (c : of.Code) (new rest all : Codes) → new ≡ joined old (and c done) → all ≡ joined new rest → all ≡ joined old (and c rest)
one_then old c new rest all more behind = behind ∙ ap (λ cs. joined cs rest) more ∙ joined-assoc old (and c done) rest

ended-more : (c d : of.Code) (cs : Codes) → generated.ended (and c (and d cs)) ≡ and c (generated.ended (and d cs))
ended-more (of.new_return es) d cs = refl
ended-more c d cs = refl

ended-behind : (cs : List Code) (c : Code) → generated.ended (codes_of (cs ++ (c ∷ []))) ≡ joined (codes_of cs) (generated.ended (and (code_of c) done))
ended-behind [] c = refl
ended-behind (d ∷ []) c = ended-more (code_of d) (code_of c) done
ended-behind (d ∷ e ∷ cs) c = ended-more (code_of d) (code_of e) (codes_of (cs ++ (c ∷ []))) ∙ ap (and (code_of d)) (ended-behind (e ∷ cs) c)

-- where the last one is taken out, if there is one
pub taken_off : (all before : List Code) (last : Option Code) → all ≡ before ++ option_to_list last → (0 < length all → IsSome last) → joined (codes_of before) (generated.ended (codes_of (option_to_list last))) ≡ generated.ended (codes_of all)
taken_off all before (Some c) is some = sym (ap (λ (cs : List Code). generated.ended (codes_of cs)) is ∙ ended-behind before c)
taken_off [] [] None is some = refl
taken_off [] (c ∷ cs) None is some = absurd (cc is)
taken_off (c ∷ cs) before None is some = let above : 0 < length (c ∷ cs) = omega arith in absurd (cc (some above))

-- ---- bodies of arrows

pub steps_body : (e : Code) (all : List Code) → e ≡ variants.Steps all → spec.arrow_body false (code_of e) ≡ spec.arrow_body false (of.steps (codes_of all))
steps_body e all is = ap (λ x. spec.arrow_body false (code_of x)) is ∙ ap (λ x. spec.arrow_body false x) (steps_is all)

pub other_body : (e : Code) → ((all : List Code) → e ≡ variants.Steps all → ⊥) → spec.arrow_body false (code_of e) ≡ code_of e
other_body e not_steps = ap (λ x. spec.arrow_body false x) (code_out e) ∙ by (out-Code e) (roll-out-Code e) ∙ sym (code_out e)
  where
    by : (y : Code-F Callee Code Target) → roll-Code y ≡ e → spec.arrow_body false (code_step (map-Code Callee Code Target of.Callee of.Code of.Target callee_of code_of target_of y)) ≡ code_step (map-Code Callee Code Target of.Callee of.Code of.Target callee_of code_of target_of y)
    by (Code-F.Steps all) is = absurd (not_steps all (sym is ∙ variants.rolls-Steps all))
    by y is = refl
