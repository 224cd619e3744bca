-- Keys without an event, and what has a name, by the forms of codes.
use Rattle.std.proofs.Common.{◌≡◌, refl, sym, ap, ◌∙◌, ℕ, List, true, false, Option}
use Rattle.es_steps.specs.GeneratedForms as spec
use Rattle.es_steps.specs.Context as names
use Rattle.es_steps.specs.Values as values
use Rattle.es_base.specs.declared.ledger.GeneratedKind.{GeneratedKind}
use Rattle.es_code_reading.specs.Letters.{is_constant_value, is_temporary, is_class_value, means_class}
use Rattle.es_steps.specs.Code as of
use Rattle.es_codes.proofs.Forms.{class_code_is, function_is, name_is, private_value_is, value_is}
use Rattle.es_codes.specs.CodeView.{code_of, target_of, callee_of, code_step}
use Rattle.es_codes.specs.View.{kind_of}
use Rattle.es_codes.specs.declared.code.Code.{Code}
use Rattle.es_codes.specs.declared.name.NameKind.{NameKind}
use Rattle.es_codes.specs.declared.code.Target.{Target}
use Rattle.es_codes.specs.declared.code.Callee.{Callee}
use Rattle.es_codes.specs.declared.code.FunctionForm.{FunctionForm}
use Rattle.es_steps.specs.Values.{Value}
use Rattle.es_codes.specs.declared.code.Code.TheVariants as variants
use Rattle.es_codes.specs.declared.code.Callee.TheOpen.{Code-F}
use Rattle.es_codes.specs.declared.code.Callee.TheViews.{roll-Code, out-Code, roll-out-Code}
use Rattle.es_codes.specs.declared.code.Callee.TheFolds.{map-Code}
use Rattle.es_code_reading.proofs.FormCases.{code-out}

quiet-value : (v : values.Value) → spec.is_quiet_key (of.value v) ≡ is_constant_value v
quiet-value (values.ConstantOf k) = refl
quiet-value v = refl

quiet-name : (m : ℕ) (s : List ℕ) (kind : names.NameKind) → spec.is_quiet_key (of.name m s kind) ≡ is_temporary kind
quiet-name m s (names.Generated GeneratedKind.Temp) = refl
quiet-name m s (names.Generated GeneratedKind.Param) = refl
quiet-name m s (names.Generated g) = refl
quiet-name m s kind = refl

named-value : (v : values.Value) → spec.is_named (of.value v) ≡ is_class_value v
named-value (values.ClassOf n) = refl
named-value v = refl

named-name : (m : ℕ) (s : List ℕ) (kind : names.NameKind) → spec.is_named (of.name m s kind) ≡ means_class kind
named-name m s (names.MeansClass n b) = refl
named-name m s kind = refl

pub quiet_value : (e : Code) (value : Value) → e ≡ variants.Value value → spec.is_quiet_key (code_of e) ≡ is_constant_value value
quiet_value e value is = ap (λ x. spec.is_quiet_key (code_of x)) is ∙ ap (λ x. spec.is_quiet_key x) (value_is value) ∙ quiet-value value

pub quiet_name : (e : Code) (node : ℕ) (spelling : List ℕ) (kind : NameKind) → e ≡ variants.Name node spelling kind → spec.is_quiet_key (code_of e) ≡ is_temporary (kind_of kind)
quiet_name e node spelling kind is = ap (λ x. spec.is_quiet_key (code_of x)) is ∙ ap (λ x. spec.is_quiet_key x) (name_is node spelling kind) ∙ quiet-name node spelling (kind_of kind)

pub quiet_private : (e : Code) (spelling : List ℕ) → e ≡ variants.PrivateValue spelling → spec.is_quiet_key (code_of e) ≡ true
quiet_private e spelling is = ap (λ x. spec.is_quiet_key (code_of x)) is ∙ ap (λ x. spec.is_quiet_key x) (private_value_is spelling)

pub not_quiet : (e : Code) → ((value : Value) → e ≡ variants.Value value → ⊥) → ((node : ℕ) (spelling : List ℕ) (kind : NameKind) → e ≡ variants.Name node spelling kind → ⊥) → ((spelling : List ℕ) → e ≡ variants.PrivateValue spelling → ⊥) → spec.is_quiet_key (code_of e) ≡ false
not_quiet e no_value no_name no_private_value = ap (λ x. spec.is_quiet_key x) (code-out e) ∙ by (out-Code e) (roll-out-Code e)
  where
    by : (y : Code-F Callee Code Target) → roll-Code y ≡ e → spec.is_quiet_key (code_step (map-Code Callee Code Target of.Callee of.Code of.Target callee_of code_of target_of y)) ≡ false
    by (Code-F.Value value) is = absurd (no_value value (sym is ∙ variants.rolls-Value value))
    by (Code-F.Name node spelling kind) is = absurd (no_name node spelling kind (sym is ∙ variants.rolls-Name node spelling kind))
    by (Code-F.PrivateValue spelling) is = absurd (no_private_value spelling (sym is ∙ variants.rolls-PrivateValue spelling))
    by y is = refl

pub named_value : (e : Code) (value : Value) → e ≡ variants.Value value → spec.is_named (code_of e) ≡ is_class_value value
named_value e value is = ap (λ x. spec.is_named (code_of x)) is ∙ ap (λ x. spec.is_named x) (value_is value) ∙ named-value value

pub named_name : (e : Code) (node : ℕ) (spelling : List ℕ) (kind : NameKind) → e ≡ variants.Name node spelling kind → spec.is_named (code_of e) ≡ means_class (kind_of kind)
named_name e node spelling kind is = ap (λ x. spec.is_named (code_of x)) is ∙ ap (λ x. spec.is_named x) (name_is node spelling kind) ∙ named-name node spelling (kind_of kind)

pub named_function : (e : Code) (node : ℕ) (form : FunctionForm) (own_name : Option ℕ) (parameters : List Code) (body : Code) → e ≡ variants.Function node form own_name parameters body → spec.is_named (code_of e) ≡ true
named_function e node form own_name parameters body is = ap (λ x. spec.is_named (code_of x)) is ∙ ap (λ x. spec.is_named x) (function_is node form own_name parameters body)

pub named_class : (e : Code) (node : ℕ) (declared : Option ℕ) (heritage : List Code) (elements : List Code) → e ≡ variants.Class node declared heritage elements → spec.is_named (code_of e) ≡ true
named_class e node declared heritage elements is = ap (λ x. spec.is_named (code_of x)) is ∙ ap (λ x. spec.is_named x) (class_code_is node declared heritage elements)

pub not_named : (e : Code) → ((value : Value) → e ≡ variants.Value value → ⊥) → ((node : ℕ) (spelling : List ℕ) (kind : NameKind) → e ≡ variants.Name node spelling kind → ⊥) → ((node : ℕ) (form : FunctionForm) (own_name : Option ℕ) (parameters : List Code) (body : Code) → e ≡ variants.Function node form own_name parameters body → ⊥) → ((node : ℕ) (declared : Option ℕ) (heritage : List Code) (elements : List Code) → e ≡ variants.Class node declared heritage elements → ⊥) → spec.is_named (code_of e) ≡ false
not_named e no_value no_name no_function no_class_code = ap (λ x. spec.is_named x) (code-out e) ∙ by (out-Code e) (roll-out-Code e)
  where
    by : (y : Code-F Callee Code Target) → roll-Code y ≡ e → spec.is_named (code_step (map-Code Callee Code Target of.Callee of.Code of.Target callee_of code_of target_of y)) ≡ false
    by (Code-F.Value value) is = absurd (no_value value (sym is ∙ variants.rolls-Value value))
    by (Code-F.Name node spelling kind) is = absurd (no_name node spelling kind (sym is ∙ variants.rolls-Name node spelling kind))
    by (Code-F.Function node form own_name parameters body) is = absurd (no_function node form own_name parameters body (sym is ∙ variants.rolls-Function node form own_name parameters body))
    by (Code-F.Class node declared heritage elements) is = absurd (no_class_code node declared heritage elements (sym is ∙ variants.rolls-Class node declared heritage elements))
    by y is = refl
