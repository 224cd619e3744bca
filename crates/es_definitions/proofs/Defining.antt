-- What a code defines, by its form.
use Rattle.std.proofs.Common.{◌≡◌, ◌≤◌, refl, sym, ap, ◌∙◌, arith, length, ℕ, List, [], ◌∷◌, ◌++◌, Option, false, map, append-nil}
use Rattle.es_base.specs.declared.ids.NodeId.{NodeId}
use Rattle.es_base.specs.declared.ledger.GeneratedKind.{GeneratedKind}
use Rattle.es_codes.proofs.Forms.{code_out}
use Rattle.es_codes.specs.CodeView.{code_of, target_of, callee_of, codes_of, code_step}
use Rattle.es_codes.specs.declared.code.Callee.{Callee}
use Rattle.es_codes.specs.declared.code.Callee.TheFolds.{map-Code}
use Rattle.es_codes.specs.declared.code.Callee.TheOpen.{Code-F}
use Rattle.es_codes.specs.declared.code.Callee.TheViews.{roll-Code, out-Code, roll-out-Code}
use Rattle.es_codes.specs.declared.code.Code.{Code}
use Rattle.es_codes.specs.declared.code.Code.TheVariants as variants
use Rattle.es_codes.specs.declared.code.FunctionForm.{FunctionForm}
use Rattle.es_codes.specs.declared.code.Target.{Target}
use Rattle.es_code_rules.specs.Elsewhere.{definition_of}
use Rattle.es_code_rules.specs.declared.definition.Definition.{Definition}
use Rattle.es_definitions.specs.Functions.{defined_as}
use Rattle.es_steps.specs.Code as of
use Rattle.es_steps.specs.Opening.{defined_by, function_definition, super_definition}
use Rattle.es_steps.specs.Values.{String}

abbrev seen : Code-F Callee Code Target → of.Code
seen y = code_step (map-Code Callee Code Target of.Callee of.Code of.Target callee_of code_of target_of y)

pub nothing_defined : (ds : List Definition) → map definition_of ds ≡ map definition_of ds ++ []
nothing_defined ds = sym (append-nil (map definition_of ds))

pub function_given : (m : ℕ) (s : String) (g : GeneratedKind) (c : of.Code) → defined_by (of.give_function m s g c) ≡ defined_as s g c
function_given m s g (of.new_function f form ps body) = refl
function_given m s g c = refl

pub others_define : (e : Code) → ((m : ℕ) (declared : Option ℕ) (heritage elements : List Code) → e ≡ variants.Class m declared heritage elements → ⊥) → ((m : ℕ) (s : List ℕ) (g : GeneratedKind) (f : Code) → e ≡ variants.GiveFunction m s g f → ⊥) → defined_by (code_of e) ≡ []
others_define e no_class no_given = ap defined_by (code_out e) ∙ by (out-Code e) (roll-out-Code e)
  where
    by : (y : Code-F Callee Code Target) → roll-Code y ≡ e → defined_by (seen y) ≡ []
    by (Code-F.Class m declared heritage elements) is = absurd (no_class m declared heritage elements (sym is ∙ variants.rolls-Class m declared heritage elements))
    by (Code-F.GiveFunction m s g f) is = absurd (no_given m s g f (sym is ∙ variants.rolls-GiveFunction m s g f))
    by y is = refl

pub others_given : (s : String) (g : GeneratedKind) (e : Code) → ((m : ℕ) (form : FunctionForm) (parameters : List Code) (body : Code) → e ≡ variants.NewFunction m form parameters body → ⊥) → defined_as s g (code_of e) ≡ []
others_given s g e no_function = ap (defined_as s g) (code_out e) ∙ by (out-Code e) (roll-out-Code e)
  where
    by : (y : Code-F Callee Code Target) → roll-Code y ≡ e → defined_as s g (seen y) ≡ []
    by (Code-F.NewFunction m form parameters body) is = absurd (no_function m form parameters body (sym is ∙ variants.rolls-NewFunction m form parameters body))
    by y is = refl

pub others_generated : (s : String) (g : GeneratedKind) (form : of.FunctionForm) (ps : of.Codes) (body : of.Code) → ((n : NodeId) → g ≡ GeneratedKind.SuperFn n → ⊥) → (g ≡ GeneratedKind.Closure → ⊥) → function_definition s g form ps body ≡ []
others_generated s (GeneratedKind.SuperFn n) form ps body no_super no_closure = absurd (no_super n refl)
others_generated s GeneratedKind.Closure form ps body no_super no_closure = absurd (no_closure refl)
others_generated s g form ps body no_super no_closure = refl

-- a function with parameters is no `super` function
pub no_super : (s : String) (n : ℕ) (ps : List Code) (body : of.Code) → 1 ≤ length ps → super_definition s n false (codes_of ps) body ≡ []
no_super s n [] body h = absurd (omega (arith, h))
no_super s n (p ∷ ps) body h = refl
