-- Private members that are kept as properties, by the forms of codes.
use Rattle.std.proofs.Common.{◌≡◌, refl, sym, ap, ◌∙◌, ℕ, List, [], ◌∷◌, length}
use Rattle.es_steps.specs.Context.{Context}
use Rattle.es_steps.specs.GeneratedForms.{kept_name, loose_member, single_property}
use Rattle.es_steps.specs.Helpers as helpers
use Rattle.es_code_generated_members.specs.Accesses.{accessed}
use Rattle.es_code_generated_members.specs.declared.access.Access.{Access}
use Rattle.es_steps.specs.Code as of
use Rattle.es_codes.proofs.Forms.{code_out, helper_call_is}
use Rattle.es_codes.specs.CodeView.{code_of, target_of, callee_of, codes_of, helper_of, code_step}
use Rattle.es_codes.specs.declared.code.Code.{Code}
use Rattle.es_codes.specs.declared.code.Target.{Target}
use Rattle.es_codes.specs.declared.code.Callee.{Callee}
use Rattle.es_codes.specs.declared.code.Helper.{Helper}
use Rattle.es_codes.specs.declared.code.Code.TheVariants as variants
use Rattle.es_codes.specs.declared.code.Callee.TheOpen.{Code-F}
use Rattle.es_codes.specs.declared.code.Callee.TheViews.{roll-Code, out-Code, roll-out-Code}
use Rattle.es_codes.specs.declared.code.Callee.TheFolds.{map-Code}

pub no_base : (c : Context) (m k : ℕ) (es : List Code) (key whole : of.Code) → (length es ≡ 2 → ⊥) → whole ≡ loose_member c m (of.helper_call k helpers.ClassPrivateFieldLooseBase (codes_of es)) key whole
no_base c m k [] key whole h = refl
no_base c m k (e ∷ []) key whole h = refl
no_base c m k (e ∷ d ∷ []) key whole h = absurd (h refl)
no_base c m k (e ∷ d ∷ b ∷ es) key whole h = refl

pub other_helper : (c : Context) (m k : ℕ) (h : Helper) (es : of.Codes) (key whole : of.Code) → (h ≡ Helper.ClassPrivateFieldLooseBase → ⊥) → whole ≡ loose_member c m (of.helper_call k (helper_of h) es) key whole
other_helper c m k Helper.ClassPrivateFieldLooseBase es key whole other = absurd (other refl)
other_helper c m k h es key whole other = refl

pub of_helper_call : (c : Context) (m : ℕ) (e : Code) (key : of.Code) (a : Access) (node : ℕ) (helper : Helper) (arguments : List Code) → e ≡ variants.HelperCall node helper arguments → loose_member c m (code_of e) key (kept_name key (single_property c (code_of e)) (accessed a (code_of e))) ≡ loose_member c m (of.helper_call node (helper_of helper) (codes_of arguments)) key (accessed a (of.helper_call node (helper_of helper) (codes_of arguments)))
of_helper_call c m e key a node helper arguments is = ap (λ x. loose_member c m x key (kept_name key (single_property c x) (accessed a x))) (ap code_of is ∙ helper_call_is node helper arguments)

pub of_other : (c : Context) (m : ℕ) (e : Code) (key whole : of.Code) → ((node : ℕ) (helper : Helper) (arguments : List Code) → e ≡ variants.HelperCall node helper arguments → ⊥) → loose_member c m (code_of e) key whole ≡ whole
of_other c m e key whole not_helper_call = ap (λ x. loose_member c m x key whole) (code_out e) ∙ by (out-Code e) (roll-out-Code e)
  where
    by : (y : Code-F Callee Code Target) → roll-Code y ≡ e → loose_member c m (code_step (map-Code Callee Code Target of.Callee of.Code of.Target callee_of code_of target_of y)) key whole ≡ whole
    by (Code-F.HelperCall node helper arguments) is = absurd (not_helper_call node helper arguments (sym is ∙ variants.rolls-HelperCall node helper arguments))
    by y is = refl
