-- Codes that are of none of the forms asked for.
use Rattle.std.proofs.Common.{◌≡◌, refl, sym, ap, ◌∙◌, ℕ, List, [], Bool, true, false, Option, Some, None}
use Rattle.es_codes.proofs.Forms.{code_out}
use Rattle.es_codes.specs.CodeView.{callee_of, code_of, code_step, target_of}
use Rattle.es_codes.specs.declared.code.Callee.TheFolds.{map-Code}
use Rattle.es_codes.specs.declared.code.Callee.TheOpen.{Code-F}
use Rattle.es_codes.specs.declared.code.Callee.TheViews.{out-Code, roll-Code, roll-out-Code}
use Rattle.es_codes.specs.declared.code.Callee.{Callee}
use Rattle.es_codes.specs.declared.code.Code.TheVariants as codes
use Rattle.es_codes.specs.declared.code.Code.{Code}
use Rattle.es_codes.specs.declared.code.FieldForm.{FieldForm}
use Rattle.es_codes.specs.declared.code.FunctionForm.{FunctionForm}
use Rattle.es_codes.specs.declared.code.Target.{Target}
use Rattle.es_codes.specs.declared.event.Detail.{Detail}
use Rattle.es_steps.specs.Code as of
use Rattle.es_steps.specs.Evaluation.{Environment}
use Rattle.es_code_entries.specs.Walked.{constructor_entries, element_function, entries, field_entry, given_function, key_entry, parameter_entry, static_entry, take_entries}
use Rattle.es_code_environments.specs.declared.terms.Terms.{Terms}

abbrev seen : Code-F Callee Code Target → of.Code
seen y = code_step (map-Code Callee Code Target of.Callee of.Code of.Target callee_of code_of target_of y)

pub no_take : (t : Terms) (s : Environment) (e : Code) → ((node : ℕ) (details : List Detail) (key : List Code) (to : Target) → e ≡ codes.Takes node details key to → ⊥) → take_entries t s (code_of e) ≡ []
no_take t s e no_Takes = ap (λ (x : of.Code). take_entries t s x) (code_out e) ∙ by (out-Code e) (roll-out-Code e)
  where
    by : (y : Code-F Callee Code Target) → roll-Code y ≡ e → take_entries t s (seen y) ≡ []
    by (Code-F.Takes node details key to) is = absurd (no_Takes node details key to (sym is ∙ codes.rolls-Takes node details key to))
    by y is = refl

pub no_parameter : (t : Terms) (s : Environment) (e : Code) → ((node : ℕ) (to : Target) → e ≡ codes.Pattern node to → ⊥) → ((to : Target) → e ≡ codes.Rest to → ⊥) → parameter_entry t s (code_of e) ≡ []
no_parameter t s e no_Pattern no_Rest = ap (λ (x : of.Code). parameter_entry t s x) (code_out e) ∙ by (out-Code e) (roll-out-Code e)
  where
    by : (y : Code-F Callee Code Target) → roll-Code y ≡ e → parameter_entry t s (seen y) ≡ []
    by (Code-F.Pattern node to) is = absurd (no_Pattern node to (sym is ∙ codes.rolls-Pattern node to))
    by (Code-F.Rest to) is = absurd (no_Rest to (sym is ∙ codes.rolls-Rest to))
    by y is = refl

pub no_new_function : (t : Terms) (s : Environment) (e : Code) → ((node : ℕ) (form : FunctionForm) (parameters : List Code) (body : Code) → e ≡ codes.NewFunction node form parameters body → ⊥) → given_function t s (code_of e) ≡ entries t s (code_of e)
no_new_function t s e no_NewFunction = ap (λ (x : of.Code). given_function t s x) (code_out e) ∙ by (out-Code e) (roll-out-Code e) ∙ ap (λ (x : of.Code). entries t s x) (sym (code_out e))
  where
    by : (y : Code-F Callee Code Target) → roll-Code y ≡ e → given_function t s (seen y) ≡ entries t s (seen y)
    by (Code-F.NewFunction node form parameters body) is = absurd (no_NewFunction node form parameters body (sym is ∙ codes.rolls-NewFunction node form parameters body))
    by y is = refl

pub no_key : (t : Terms) (s : Environment) (e : Code) → ((is_static : Bool) (form : FieldForm) (key : Code) (right : Code) → e ≡ codes.Field is_static form key right → ⊥) → ((is_static : Bool) (kind : List ℕ) (key : Code) (called : Code) → e ≡ codes.Method is_static kind key called → ⊥) → key_entry t s (code_of e) ≡ []
no_key t s e no_Field no_Method = ap (λ (x : of.Code). key_entry t s x) (code_out e) ∙ by (out-Code e) (roll-out-Code e)
  where
    by : (y : Code-F Callee Code Target) → roll-Code y ≡ e → key_entry t s (seen y) ≡ []
    by (Code-F.Field is_static form key right) is = absurd (no_Field is_static form key right (sym is ∙ codes.rolls-Field is_static form key right))
    by (Code-F.Method is_static kind key called) is = absurd (no_Method is_static kind key called (sym is ∙ codes.rolls-Method is_static kind key called))
    by y is = refl

pub no_static : (t : Terms) (s : Environment) (e : Code) → ((is_static : Bool) (form : FieldForm) (key : Code) (right : Code) → e ≡ codes.Field is_static form key right → ⊥) → ((is_static : Bool) (key : ℕ) (right : Code) → e ≡ codes.PrivateField is_static key right → ⊥) → ((all : List Code) → e ≡ codes.StaticBlock all → ⊥) → ((spelling : List ℕ) (right : Code) → e ≡ codes.GeneratedElement spelling right → ⊥) → static_entry t s (code_of e) ≡ []
no_static t s e no_Field no_PrivateField no_StaticBlock no_GeneratedElement = ap (λ (x : of.Code). static_entry t s x) (code_out e) ∙ by (out-Code e) (roll-out-Code e)
  where
    by : (y : Code-F Callee Code Target) → roll-Code y ≡ e → static_entry t s (seen y) ≡ []
    by (Code-F.Field is_static form key right) is = absurd (no_Field is_static form key right (sym is ∙ codes.rolls-Field is_static form key right))
    by (Code-F.PrivateField is_static key right) is = absurd (no_PrivateField is_static key right (sym is ∙ codes.rolls-PrivateField is_static key right))
    by (Code-F.StaticBlock all) is = absurd (no_StaticBlock all (sym is ∙ codes.rolls-StaticBlock all))
    by (Code-F.GeneratedElement spelling right) is = absurd (no_GeneratedElement spelling right (sym is ∙ codes.rolls-GeneratedElement spelling right))
    by y is = refl

pub no_field : (t : Terms) (s : Environment) (e : Code) → ((is_static : Bool) (form : FieldForm) (key : Code) (right : Code) → e ≡ codes.Field is_static form key right → ⊥) → ((is_static : Bool) (key : ℕ) (right : Code) → e ≡ codes.PrivateField is_static key right → ⊥) → field_entry t s (code_of e) ≡ []
no_field t s e no_Field no_PrivateField = ap (λ (x : of.Code). field_entry t s x) (code_out e) ∙ by (out-Code e) (roll-out-Code e)
  where
    by : (y : Code-F Callee Code Target) → roll-Code y ≡ e → field_entry t s (seen y) ≡ []
    by (Code-F.Field is_static form key right) is = absurd (no_Field is_static form key right (sym is ∙ codes.rolls-Field is_static form key right))
    by (Code-F.PrivateField is_static key right) is = absurd (no_PrivateField is_static key right (sym is ∙ codes.rolls-PrivateField is_static key right))
    by y is = refl

pub no_element_function : (t : Terms) (s : Environment) (i : Environment) (e : Code) → ((is_static : Bool) (kind : List ℕ) (key : Code) (called : Code) → e ≡ codes.Method is_static kind key called → ⊥) → ((is_static : Bool) (key : ℕ) (called : Code) → e ≡ codes.PrivateMethod is_static key called → ⊥) → ((called : Code) → e ≡ codes.Constructor called → ⊥) → element_function t s i (code_of e) ≡ []
no_element_function t s i e no_Method no_PrivateMethod no_Constructor = ap (λ (x : of.Code). element_function t s i x) (code_out e) ∙ by (out-Code e) (roll-out-Code e)
  where
    by : (y : Code-F Callee Code Target) → roll-Code y ≡ e → element_function t s i (seen y) ≡ []
    by (Code-F.Method is_static kind key called) is = absurd (no_Method is_static kind key called (sym is ∙ codes.rolls-Method is_static kind key called))
    by (Code-F.PrivateMethod is_static key called) is = absurd (no_PrivateMethod is_static key called (sym is ∙ codes.rolls-PrivateMethod is_static key called))
    by (Code-F.Constructor called) is = absurd (no_Constructor called (sym is ∙ codes.rolls-Constructor called))
    by y is = refl

pub no_constructor : (t : Terms) (i : Environment) (e : Code) → ((node : ℕ) (form : FunctionForm) (own_name : Option ℕ) (parameters : List Code) (body : Code) → e ≡ codes.Function node form own_name parameters body → ⊥) → ((node : ℕ) (form : FunctionForm) (parameters : List Code) (body : Code) → e ≡ codes.NewFunction node form parameters body → ⊥) → constructor_entries t i (code_of e) ≡ []
no_constructor t i e no_Function no_NewFunction = ap (λ (x : of.Code). constructor_entries t i x) (code_out e) ∙ by (out-Code e) (roll-out-Code e)
  where
    by : (y : Code-F Callee Code Target) → roll-Code y ≡ e → constructor_entries t i (seen y) ≡ []
    by (Code-F.Function node form own_name parameters body) is = absurd (no_Function node form own_name parameters body (sym is ∙ codes.rolls-Function node form own_name parameters body))
    by (Code-F.NewFunction node form parameters body) is = absurd (no_NewFunction node form parameters body (sym is ∙ codes.rolls-NewFunction node form parameters body))
    by y is = refl
