-- The functions of private members, by the forms of codes.
use Rattle.std.proofs.Common.{◌≡◌, refl, sym, ap, ◌∙◌, ℕ, List, [], ◌++◌, Bool, Option, append-nil}
use Rattle.es_base.specs.declared.ids.NodeId.{NodeId}
use Rattle.es_base.specs.declared.ledger.GeneratedKind.{GeneratedKind}
use Rattle.es_by_number.specs.Numbered.{pairs}
use Rattle.es_by_number.specs.declared.numbered.Numbered.{Numbered}
use Rattle.es_codes.proofs.Forms.{code_out}
use Rattle.es_codes.specs.CodeView.{code_of, target_of, callee_of, code_step}
use Rattle.es_codes.specs.declared.code.Callee.{Callee}
use Rattle.es_codes.specs.declared.code.Callee.TheFolds.{map-Code}
use Rattle.es_codes.specs.declared.code.Callee.TheOpen.{Code-F}
use Rattle.es_codes.specs.declared.code.Callee.TheViews.{roll-Code, out-Code, roll-out-Code}
use Rattle.es_codes.specs.declared.code.Code.{Code}
use Rattle.es_codes.specs.declared.code.Code.TheVariants as variants
use Rattle.es_codes.specs.declared.code.FunctionForm.{FunctionForm}
use Rattle.es_codes.specs.declared.code.Target.{Target}
use Rattle.es_definitions.specs.Functions.{private_function_as}
use Rattle.es_steps.specs.Code as of
use Rattle.es_steps.specs.Meaning.{function_of, private_function_by}
use Rattle.es_steps.specs.Values.{String}

abbrev seen : Code-F Callee Code Target → of.Code
seen y = code_step (map-Code Callee Code Target of.Callee of.Code of.Target callee_of code_of target_of y)

pub nothing_found : (fs : List (Numbered ℕ)) → pairs fs ≡ pairs fs ++ []
nothing_found fs = sym (append-nil (pairs fs))

pub function_given : (m : ℕ) (s : String) (g : GeneratedKind) (f : of.Code) → private_function_by (of.give_function m s g f) ≡ private_function_as g f
function_given m s (GeneratedKind.Method d) f = refl
function_given m s g f = refl

pub other_code : (e : Code) → ((is_static : Bool) (d : ℕ) (f : Code) → e ≡ variants.PrivateMethod is_static d f → ⊥) → ((m : ℕ) (s : List ℕ) (g : GeneratedKind) (f : Code) → e ≡ variants.GiveFunction m s g f → ⊥) → private_function_by (code_of e) ≡ []
other_code e no_method no_given = ap private_function_by (code_out e) ∙ by (out-Code e) (roll-out-Code e)
  where
    by : (y : Code-F Callee Code Target) → roll-Code y ≡ e → private_function_by (seen y) ≡ []
    by (Code-F.PrivateMethod is_static d f) is = absurd (no_method is_static d f (sym is ∙ variants.rolls-PrivateMethod is_static d f))
    by (Code-F.GiveFunction m s g f) is = absurd (no_given m s g f (sym is ∙ variants.rolls-GiveFunction m s g f))
    by y is = refl

pub other_kind : (g : GeneratedKind) (f : of.Code) → ((d : NodeId) → g ≡ GeneratedKind.Method d → ⊥) → private_function_as g f ≡ []
other_kind (GeneratedKind.Method d) f no_method = absurd (no_method d refl)
other_kind g f no_method = refl

pub no_function : (d : ℕ) (e : Code) → ((m : ℕ) (form : FunctionForm) (own_name : Option ℕ) (parameters : List Code) (body : Code) → e ≡ variants.Function m form own_name parameters body → ⊥) → function_of d (code_of e) ≡ []
no_function d e other = ap (function_of d) (code_out e) ∙ by (out-Code e) (roll-out-Code e)
  where
    by : (y : Code-F Callee Code Target) → roll-Code y ≡ e → function_of d (seen y) ≡ []
    by (Code-F.Function m form own_name parameters body) is = absurd (other m form own_name parameters body (sym is ∙ variants.rolls-Function m form own_name parameters body))
    by y is = refl
