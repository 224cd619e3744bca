-- Codes that are no elements of a class.
use Rattle.std.proofs.Common.{◌≡◌, refl, sym, ap, ◌∙◌, ℕ, List, Bool, false, Some, None}
use Rattle.es_steps.specs.Code as of
use Rattle.es_steps.specs.Evaluation.{has_instance_methods}
use Rattle.es_steps.specs.Values.{Value, Undefined}
use Rattle.es_codes.specs.CodeView.{code_of, target_of, callee_of, code_step}
use Rattle.es_codes.specs.declared.code.FieldForm.{FieldForm}
use Rattle.es_codes.specs.declared.code.Code.{Code}
use Rattle.es_codes.specs.declared.code.Target.{Target}
use Rattle.es_codes.specs.declared.code.Callee.{Callee}
use Rattle.es_codes.specs.declared.code.Code.TheVariants as codes
use Rattle.es_codes.specs.declared.code.Callee.TheOpen.{Code-F}
use Rattle.es_codes.specs.declared.code.Callee.TheViews.{roll-Code, out-Code, roll-out-Code}
use Rattle.es_codes.specs.declared.code.Callee.TheFolds.{map-Code}
use Rattle.es_codes.proofs.Forms.{code_out}
use Rattle.es_evaluation.specs.Direct.{State}
use Rattle.es_evaluator.specs.Steps.{Opens}
use Rattle.es_class_rules.specs.Steps.{key_at, static_at, field_at}

abbrev Form : Type 0
Form = Code-F Callee Code Target

abbrev seen : Form → of.Code
seen y = code_step (map-Code Callee Code Target of.Callee of.Code of.Target callee_of code_of target_of y)

no_key_seen : (opens : Opens) (y : Form) (s : State) → ((is_static : Bool) (form : FieldForm) (key : Code) (right : Code) → roll-Code y ≡ codes.Field is_static form key right → ⊥) → ((is_static : Bool) (kind : List ℕ) (key : Code) (callee_function : Code) → roll-Code y ≡ codes.Method is_static kind key callee_function → ⊥) → ((is_static : Bool) (key : ℕ) (right : Code) → roll-Code y ≡ codes.PrivateField is_static key right → ⊥) → ((is_static : Bool) (key : ℕ) (callee_function : Code) → roll-Code y ≡ codes.PrivateMethod is_static key callee_function → ⊥) → ((callee_function : Code) → roll-Code y ≡ codes.Constructor callee_function → ⊥) → ((all : List Code) → roll-Code y ≡ codes.StaticBlock all → ⊥) → ((spelling : List ℕ) (right : Code) → roll-Code y ≡ codes.GeneratedElement spelling right → ⊥) → key_at opens (seen y) s ≡ None
unfolding key_at
no_key_seen opens Code-F.Nothing s h0 h1 h2 h3 h4 h5 h6 = refl
no_key_seen opens Code-F.NoRule s h0 h1 h2 h3 h4 h5 h6 = refl
no_key_seen opens (Code-F.Value x0) s h0 h1 h2 h3 h4 h5 h6 = refl
no_key_seen opens (Code-F.Spelled x0) s h0 h1 h2 h3 h4 h5 h6 = refl
no_key_seen opens (Code-F.PrivateName x0 x1 x2) s h0 h1 h2 h3 h4 h5 h6 = refl
no_key_seen opens (Code-F.Binding x0 x1 x2) s h0 h1 h2 h3 h4 h5 h6 = refl
no_key_seen opens (Code-F.Rest x0) s h0 h1 h2 h3 h4 h5 h6 = refl
no_key_seen opens (Code-F.Name x0 x1 x2) s h0 h1 h2 h3 h4 h5 h6 = refl
no_key_seen opens Code-F.Super s h0 h1 h2 h3 h4 h5 h6 = refl
no_key_seen opens (Code-F.Member x0 x1 x2) s h0 h1 h2 h3 h4 h5 h6 = refl
no_key_seen opens (Code-F.PrivateMember x0 x1 x2) s h0 h1 h2 h3 h4 h5 h6 = refl
no_key_seen opens (Code-F.SuperMember x0 x1 x2 x3) s h0 h1 h2 h3 h4 h5 h6 = refl
no_key_seen opens (Code-F.PrivateIn x0 x1 x2) s h0 h1 h2 h3 h4 h5 h6 = refl
no_key_seen opens (Code-F.Assign x0 x1) s h0 h1 h2 h3 h4 h5 h6 = refl
no_key_seen opens (Code-F.Compound x0 x1 x2 x3) s h0 h1 h2 h3 h4 h5 h6 = refl
no_key_seen opens (Code-F.Logical x0 x1 x2 x3) s h0 h1 h2 h3 h4 h5 h6 = refl
no_key_seen opens (Code-F.LogicalAssign x0 x1 x2 x3) s h0 h1 h2 h3 h4 h5 h6 = refl
no_key_seen opens (Code-F.Update x0 x1 x2 x3) s h0 h1 h2 h3 h4 h5 h6 = refl
no_key_seen opens (Code-F.Call x0 x1 x2) s h0 h1 h2 h3 h4 h5 h6 = refl
no_key_seen opens (Code-F.Tag x0 x1 x2 x3) s h0 h1 h2 h3 h4 h5 h6 = refl
no_key_seen opens (Code-F.Construct x0 x1 x2) s h0 h1 h2 h3 h4 h5 h6 = refl
no_key_seen opens (Code-F.SuperCall x0 x1 x2 x3) s h0 h1 h2 h3 h4 h5 h6 = refl
no_key_seen opens (Code-F.SuperCallWithAll x0) s h0 h1 h2 h3 h4 h5 h6 = refl
no_key_seen opens (Code-F.Sequence x0) s h0 h1 h2 h3 h4 h5 h6 = refl
no_key_seen opens (Code-F.TemplateString x0) s h0 h1 h2 h3 h4 h5 h6 = refl
no_key_seen opens (Code-F.Template x0 x1 x2) s h0 h1 h2 h3 h4 h5 h6 = refl
no_key_seen opens (Code-F.Operation x0 x1 x2 x3) s h0 h1 h2 h3 h4 h5 h6 = refl
no_key_seen opens (Code-F.Piece x0 x1) s h0 h1 h2 h3 h4 h5 h6 = refl
no_key_seen opens (Code-F.Chain x0 x1) s h0 h1 h2 h3 h4 h5 h6 = refl
no_key_seen opens (Code-F.Short x0) s h0 h1 h2 h3 h4 h5 h6 = refl
no_key_seen opens (Code-F.Tested x0 x1 x2) s h0 h1 h2 h3 h4 h5 h6 = refl
no_key_seen opens (Code-F.Pattern x0 x1) s h0 h1 h2 h3 h4 h5 h6 = refl
no_key_seen opens (Code-F.Takes x0 x1 x2 x3) s h0 h1 h2 h3 h4 h5 h6 = refl
no_key_seen opens (Code-F.Steps x0) s h0 h1 h2 h3 h4 h5 h6 = refl
no_key_seen opens (Code-F.GivesTo x0 x1) s h0 h1 h2 h3 h4 h5 h6 = refl
no_key_seen opens (Code-F.ExportDefault x0) s h0 h1 h2 h3 h4 h5 h6 = refl
no_key_seen opens (Code-F.Function x0 x1 x2 x3 x4) s h0 h1 h2 h3 h4 h5 h6 = refl
no_key_seen opens (Code-F.NewFunction x0 x1 x2 x3) s h0 h1 h2 h3 h4 h5 h6 = refl
no_key_seen opens (Code-F.NewReturn x0) s h0 h1 h2 h3 h4 h5 h6 = refl
no_key_seen opens (Code-F.Class x0 x1 x2 x3) s h0 h1 h2 h3 h4 h5 h6 = refl
no_key_seen opens (Code-F.Field x0 x1 x2 x3) s h0 h1 h2 h3 h4 h5 h6 = absurd (h0 x0 x1 x2 x3 (codes.rolls-Field x0 x1 x2 x3))
no_key_seen opens (Code-F.PrivateField x0 x1 x2) s h0 h1 h2 h3 h4 h5 h6 = absurd (h2 x0 x1 x2 (codes.rolls-PrivateField x0 x1 x2))
no_key_seen opens (Code-F.Method x0 x1 x2 x3) s h0 h1 h2 h3 h4 h5 h6 = absurd (h1 x0 x1 x2 x3 (codes.rolls-Method x0 x1 x2 x3))
no_key_seen opens (Code-F.PrivateMethod x0 x1 x2) s h0 h1 h2 h3 h4 h5 h6 = absurd (h3 x0 x1 x2 (codes.rolls-PrivateMethod x0 x1 x2))
no_key_seen opens (Code-F.Constructor x0) s h0 h1 h2 h3 h4 h5 h6 = absurd (h4 x0 (codes.rolls-Constructor x0))
no_key_seen opens (Code-F.StaticBlock x0) s h0 h1 h2 h3 h4 h5 h6 = absurd (h5 x0 (codes.rolls-StaticBlock x0))
no_key_seen opens (Code-F.GeneratedElement x0 x1) s h0 h1 h2 h3 h4 h5 h6 = absurd (h6 x0 x1 (codes.rolls-GeneratedElement x0 x1))
no_key_seen opens (Code-F.FromCall x0) s h0 h1 h2 h3 h4 h5 h6 = refl
no_key_seen opens (Code-F.FromMember x0) s h0 h1 h2 h3 h4 h5 h6 = refl
no_key_seen opens (Code-F.KeyOf x0) s h0 h1 h2 h3 h4 h5 h6 = refl
no_key_seen opens (Code-F.Helper x0) s h0 h1 h2 h3 h4 h5 h6 = refl
no_key_seen opens (Code-F.HelperCall x0 x1 x2) s h0 h1 h2 h3 h4 h5 h6 = refl
no_key_seen opens Code-F.Throw s h0 h1 h2 h3 h4 h5 h6 = refl
no_key_seen opens (Code-F.Define x0 x1 x2 x3) s h0 h1 h2 h3 h4 h5 h6 = refl
no_key_seen opens (Code-F.PrivateInitialize x0 x1 x2 x3) s h0 h1 h2 h3 h4 h5 h6 = refl
no_key_seen opens (Code-F.AddBrand x0 x1 x2) s h0 h1 h2 h3 h4 h5 h6 = refl
no_key_seen opens (Code-F.Bound x0 x1) s h0 h1 h2 h3 h4 h5 h6 = refl
no_key_seen opens (Code-F.Setter x0 x1 x2) s h0 h1 h2 h3 h4 h5 h6 = refl
no_key_seen opens (Code-F.PrivateValue x0) s h0 h1 h2 h3 h4 h5 h6 = refl
no_key_seen opens (Code-F.CallArrow x0 x1 x2) s h0 h1 h2 h3 h4 h5 h6 = refl
no_key_seen opens (Code-F.CallClosure x0 x1) s h0 h1 h2 h3 h4 h5 h6 = refl
no_key_seen opens (Code-F.Initializers x0) s h0 h1 h2 h3 h4 h5 h6 = refl
no_key_seen opens (Code-F.GiveFunction x0 x1 x2 x3) s h0 h1 h2 h3 h4 h5 h6 = refl
no_key_seen opens (Code-F.GiveClass x0 x1) s h0 h1 h2 h3 h4 h5 h6 = refl

pub no_key : (opens : Opens) (c : Code) (s : State) → ((is_static : Bool) (form : FieldForm) (key : Code) (right : Code) → c ≡ codes.Field is_static form key right → ⊥) → ((is_static : Bool) (kind : List ℕ) (key : Code) (callee_function : Code) → c ≡ codes.Method is_static kind key callee_function → ⊥) → ((is_static : Bool) (key : ℕ) (right : Code) → c ≡ codes.PrivateField is_static key right → ⊥) → ((is_static : Bool) (key : ℕ) (callee_function : Code) → c ≡ codes.PrivateMethod is_static key callee_function → ⊥) → ((callee_function : Code) → c ≡ codes.Constructor callee_function → ⊥) → ((all : List Code) → c ≡ codes.StaticBlock all → ⊥) → ((spelling : List ℕ) (right : Code) → c ≡ codes.GeneratedElement spelling right → ⊥) → key_at opens (code_of c) s ≡ None
no_key opens c s h0 h1 h2 h3 h4 h5 h6 = ap (λ (x : of.Code). key_at opens x s) (code_out c) ∙ no_key_seen opens (out-Code c) s (λ x0 x1 x2 x3 e. h0 x0 x1 x2 x3 (sym (roll-out-Code c) ∙ e)) (λ x0 x1 x2 x3 e. h1 x0 x1 x2 x3 (sym (roll-out-Code c) ∙ e)) (λ x0 x1 x2 e. h2 x0 x1 x2 (sym (roll-out-Code c) ∙ e)) (λ x0 x1 x2 e. h3 x0 x1 x2 (sym (roll-out-Code c) ∙ e)) (λ x0 e. h4 x0 (sym (roll-out-Code c) ∙ e)) (λ x0 e. h5 x0 (sym (roll-out-Code c) ∙ e)) (λ x0 x1 e. h6 x0 x1 (sym (roll-out-Code c) ∙ e))

no_static_seen : (opens : Opens) (n : ℕ) (a : Value) (y : Form) (s : State) → ((is_static : Bool) (form : FieldForm) (key : Code) (right : Code) → roll-Code y ≡ codes.Field is_static form key right → ⊥) → ((is_static : Bool) (key : ℕ) (right : Code) → roll-Code y ≡ codes.PrivateField is_static key right → ⊥) → ((all : List Code) → roll-Code y ≡ codes.StaticBlock all → ⊥) → ((spelling : List ℕ) (right : Code) → roll-Code y ≡ codes.GeneratedElement spelling right → ⊥) → static_at opens n a (seen y) s ≡ Some (Undefined, s)
unfolding static_at
no_static_seen opens n a Code-F.Nothing s h0 h1 h2 h3 = refl
no_static_seen opens n a Code-F.NoRule s h0 h1 h2 h3 = refl
no_static_seen opens n a (Code-F.Value x0) s h0 h1 h2 h3 = refl
no_static_seen opens n a (Code-F.Spelled x0) s h0 h1 h2 h3 = refl
no_static_seen opens n a (Code-F.PrivateName x0 x1 x2) s h0 h1 h2 h3 = refl
no_static_seen opens n a (Code-F.Binding x0 x1 x2) s h0 h1 h2 h3 = refl
no_static_seen opens n a (Code-F.Rest x0) s h0 h1 h2 h3 = refl
no_static_seen opens n a (Code-F.Name x0 x1 x2) s h0 h1 h2 h3 = refl
no_static_seen opens n a Code-F.Super s h0 h1 h2 h3 = refl
no_static_seen opens n a (Code-F.Member x0 x1 x2) s h0 h1 h2 h3 = refl
no_static_seen opens n a (Code-F.PrivateMember x0 x1 x2) s h0 h1 h2 h3 = refl
no_static_seen opens n a (Code-F.SuperMember x0 x1 x2 x3) s h0 h1 h2 h3 = refl
no_static_seen opens n a (Code-F.PrivateIn x0 x1 x2) s h0 h1 h2 h3 = refl
no_static_seen opens n a (Code-F.Assign x0 x1) s h0 h1 h2 h3 = refl
no_static_seen opens n a (Code-F.Compound x0 x1 x2 x3) s h0 h1 h2 h3 = refl
no_static_seen opens n a (Code-F.Logical x0 x1 x2 x3) s h0 h1 h2 h3 = refl
no_static_seen opens n a (Code-F.LogicalAssign x0 x1 x2 x3) s h0 h1 h2 h3 = refl
no_static_seen opens n a (Code-F.Update x0 x1 x2 x3) s h0 h1 h2 h3 = refl
no_static_seen opens n a (Code-F.Call x0 x1 x2) s h0 h1 h2 h3 = refl
no_static_seen opens n a (Code-F.Tag x0 x1 x2 x3) s h0 h1 h2 h3 = refl
no_static_seen opens n a (Code-F.Construct x0 x1 x2) s h0 h1 h2 h3 = refl
no_static_seen opens n a (Code-F.SuperCall x0 x1 x2 x3) s h0 h1 h2 h3 = refl
no_static_seen opens n a (Code-F.SuperCallWithAll x0) s h0 h1 h2 h3 = refl
no_static_seen opens n a (Code-F.Sequence x0) s h0 h1 h2 h3 = refl
no_static_seen opens n a (Code-F.TemplateString x0) s h0 h1 h2 h3 = refl
no_static_seen opens n a (Code-F.Template x0 x1 x2) s h0 h1 h2 h3 = refl
no_static_seen opens n a (Code-F.Operation x0 x1 x2 x3) s h0 h1 h2 h3 = refl
no_static_seen opens n a (Code-F.Piece x0 x1) s h0 h1 h2 h3 = refl
no_static_seen opens n a (Code-F.Chain x0 x1) s h0 h1 h2 h3 = refl
no_static_seen opens n a (Code-F.Short x0) s h0 h1 h2 h3 = refl
no_static_seen opens n a (Code-F.Tested x0 x1 x2) s h0 h1 h2 h3 = refl
no_static_seen opens n a (Code-F.Pattern x0 x1) s h0 h1 h2 h3 = refl
no_static_seen opens n a (Code-F.Takes x0 x1 x2 x3) s h0 h1 h2 h3 = refl
no_static_seen opens n a (Code-F.Steps x0) s h0 h1 h2 h3 = refl
no_static_seen opens n a (Code-F.GivesTo x0 x1) s h0 h1 h2 h3 = refl
no_static_seen opens n a (Code-F.ExportDefault x0) s h0 h1 h2 h3 = refl
no_static_seen opens n a (Code-F.Function x0 x1 x2 x3 x4) s h0 h1 h2 h3 = refl
no_static_seen opens n a (Code-F.NewFunction x0 x1 x2 x3) s h0 h1 h2 h3 = refl
no_static_seen opens n a (Code-F.NewReturn x0) s h0 h1 h2 h3 = refl
no_static_seen opens n a (Code-F.Class x0 x1 x2 x3) s h0 h1 h2 h3 = refl
no_static_seen opens n a (Code-F.Field x0 x1 x2 x3) s h0 h1 h2 h3 = absurd (h0 x0 x1 x2 x3 (codes.rolls-Field x0 x1 x2 x3))
no_static_seen opens n a (Code-F.PrivateField x0 x1 x2) s h0 h1 h2 h3 = absurd (h1 x0 x1 x2 (codes.rolls-PrivateField x0 x1 x2))
no_static_seen opens n a (Code-F.Method x0 x1 x2 x3) s h0 h1 h2 h3 = refl
no_static_seen opens n a (Code-F.PrivateMethod x0 x1 x2) s h0 h1 h2 h3 = refl
no_static_seen opens n a (Code-F.Constructor x0) s h0 h1 h2 h3 = refl
no_static_seen opens n a (Code-F.StaticBlock x0) s h0 h1 h2 h3 = absurd (h2 x0 (codes.rolls-StaticBlock x0))
no_static_seen opens n a (Code-F.GeneratedElement x0 x1) s h0 h1 h2 h3 = absurd (h3 x0 x1 (codes.rolls-GeneratedElement x0 x1))
no_static_seen opens n a (Code-F.FromCall x0) s h0 h1 h2 h3 = refl
no_static_seen opens n a (Code-F.FromMember x0) s h0 h1 h2 h3 = refl
no_static_seen opens n a (Code-F.KeyOf x0) s h0 h1 h2 h3 = refl
no_static_seen opens n a (Code-F.Helper x0) s h0 h1 h2 h3 = refl
no_static_seen opens n a (Code-F.HelperCall x0 x1 x2) s h0 h1 h2 h3 = refl
no_static_seen opens n a Code-F.Throw s h0 h1 h2 h3 = refl
no_static_seen opens n a (Code-F.Define x0 x1 x2 x3) s h0 h1 h2 h3 = refl
no_static_seen opens n a (Code-F.PrivateInitialize x0 x1 x2 x3) s h0 h1 h2 h3 = refl
no_static_seen opens n a (Code-F.AddBrand x0 x1 x2) s h0 h1 h2 h3 = refl
no_static_seen opens n a (Code-F.Bound x0 x1) s h0 h1 h2 h3 = refl
no_static_seen opens n a (Code-F.Setter x0 x1 x2) s h0 h1 h2 h3 = refl
no_static_seen opens n a (Code-F.PrivateValue x0) s h0 h1 h2 h3 = refl
no_static_seen opens n a (Code-F.CallArrow x0 x1 x2) s h0 h1 h2 h3 = refl
no_static_seen opens n a (Code-F.CallClosure x0 x1) s h0 h1 h2 h3 = refl
no_static_seen opens n a (Code-F.Initializers x0) s h0 h1 h2 h3 = refl
no_static_seen opens n a (Code-F.GiveFunction x0 x1 x2 x3) s h0 h1 h2 h3 = refl
no_static_seen opens n a (Code-F.GiveClass x0 x1) s h0 h1 h2 h3 = refl

pub no_static : (opens : Opens) (n : ℕ) (a : Value) (c : Code) (s : State) → ((is_static : Bool) (form : FieldForm) (key : Code) (right : Code) → c ≡ codes.Field is_static form key right → ⊥) → ((is_static : Bool) (key : ℕ) (right : Code) → c ≡ codes.PrivateField is_static key right → ⊥) → ((all : List Code) → c ≡ codes.StaticBlock all → ⊥) → ((spelling : List ℕ) (right : Code) → c ≡ codes.GeneratedElement spelling right → ⊥) → static_at opens n a (code_of c) s ≡ Some (Undefined, s)
no_static opens n a c s h0 h1 h2 h3 = ap (λ (x : of.Code). static_at opens n a x s) (code_out c) ∙ no_static_seen opens n a (out-Code c) s (λ x0 x1 x2 x3 e. h0 x0 x1 x2 x3 (sym (roll-out-Code c) ∙ e)) (λ x0 x1 x2 e. h1 x0 x1 x2 (sym (roll-out-Code c) ∙ e)) (λ x0 e. h2 x0 (sym (roll-out-Code c) ∙ e)) (λ x0 x1 e. h3 x0 x1 (sym (roll-out-Code c) ∙ e))

no_field_seen : (opens : Opens) (n : ℕ) (y : Form) (s : State) → ((is_static : Bool) (form : FieldForm) (key : Code) (right : Code) → roll-Code y ≡ codes.Field is_static form key right → ⊥) → ((is_static : Bool) (key : ℕ) (right : Code) → roll-Code y ≡ codes.PrivateField is_static key right → ⊥) → field_at opens n (seen y) s ≡ Some (Undefined, s)
unfolding field_at
no_field_seen opens n Code-F.Nothing s h0 h1 = refl
no_field_seen opens n Code-F.NoRule s h0 h1 = refl
no_field_seen opens n (Code-F.Value x0) s h0 h1 = refl
no_field_seen opens n (Code-F.Spelled x0) s h0 h1 = refl
no_field_seen opens n (Code-F.PrivateName x0 x1 x2) s h0 h1 = refl
no_field_seen opens n (Code-F.Binding x0 x1 x2) s h0 h1 = refl
no_field_seen opens n (Code-F.Rest x0) s h0 h1 = refl
no_field_seen opens n (Code-F.Name x0 x1 x2) s h0 h1 = refl
no_field_seen opens n Code-F.Super s h0 h1 = refl
no_field_seen opens n (Code-F.Member x0 x1 x2) s h0 h1 = refl
no_field_seen opens n (Code-F.PrivateMember x0 x1 x2) s h0 h1 = refl
no_field_seen opens n (Code-F.SuperMember x0 x1 x2 x3) s h0 h1 = refl
no_field_seen opens n (Code-F.PrivateIn x0 x1 x2) s h0 h1 = refl
no_field_seen opens n (Code-F.Assign x0 x1) s h0 h1 = refl
no_field_seen opens n (Code-F.Compound x0 x1 x2 x3) s h0 h1 = refl
no_field_seen opens n (Code-F.Logical x0 x1 x2 x3) s h0 h1 = refl
no_field_seen opens n (Code-F.LogicalAssign x0 x1 x2 x3) s h0 h1 = refl
no_field_seen opens n (Code-F.Update x0 x1 x2 x3) s h0 h1 = refl
no_field_seen opens n (Code-F.Call x0 x1 x2) s h0 h1 = refl
no_field_seen opens n (Code-F.Tag x0 x1 x2 x3) s h0 h1 = refl
no_field_seen opens n (Code-F.Construct x0 x1 x2) s h0 h1 = refl
no_field_seen opens n (Code-F.SuperCall x0 x1 x2 x3) s h0 h1 = refl
no_field_seen opens n (Code-F.SuperCallWithAll x0) s h0 h1 = refl
no_field_seen opens n (Code-F.Sequence x0) s h0 h1 = refl
no_field_seen opens n (Code-F.TemplateString x0) s h0 h1 = refl
no_field_seen opens n (Code-F.Template x0 x1 x2) s h0 h1 = refl
no_field_seen opens n (Code-F.Operation x0 x1 x2 x3) s h0 h1 = refl
no_field_seen opens n (Code-F.Piece x0 x1) s h0 h1 = refl
no_field_seen opens n (Code-F.Chain x0 x1) s h0 h1 = refl
no_field_seen opens n (Code-F.Short x0) s h0 h1 = refl
no_field_seen opens n (Code-F.Tested x0 x1 x2) s h0 h1 = refl
no_field_seen opens n (Code-F.Pattern x0 x1) s h0 h1 = refl
no_field_seen opens n (Code-F.Takes x0 x1 x2 x3) s h0 h1 = refl
no_field_seen opens n (Code-F.Steps x0) s h0 h1 = refl
no_field_seen opens n (Code-F.GivesTo x0 x1) s h0 h1 = refl
no_field_seen opens n (Code-F.ExportDefault x0) s h0 h1 = refl
no_field_seen opens n (Code-F.Function x0 x1 x2 x3 x4) s h0 h1 = refl
no_field_seen opens n (Code-F.NewFunction x0 x1 x2 x3) s h0 h1 = refl
no_field_seen opens n (Code-F.NewReturn x0) s h0 h1 = refl
no_field_seen opens n (Code-F.Class x0 x1 x2 x3) s h0 h1 = refl
no_field_seen opens n (Code-F.Field x0 x1 x2 x3) s h0 h1 = absurd (h0 x0 x1 x2 x3 (codes.rolls-Field x0 x1 x2 x3))
no_field_seen opens n (Code-F.PrivateField x0 x1 x2) s h0 h1 = absurd (h1 x0 x1 x2 (codes.rolls-PrivateField x0 x1 x2))
no_field_seen opens n (Code-F.Method x0 x1 x2 x3) s h0 h1 = refl
no_field_seen opens n (Code-F.PrivateMethod x0 x1 x2) s h0 h1 = refl
no_field_seen opens n (Code-F.Constructor x0) s h0 h1 = refl
no_field_seen opens n (Code-F.StaticBlock x0) s h0 h1 = refl
no_field_seen opens n (Code-F.GeneratedElement x0 x1) s h0 h1 = refl
no_field_seen opens n (Code-F.FromCall x0) s h0 h1 = refl
no_field_seen opens n (Code-F.FromMember x0) s h0 h1 = refl
no_field_seen opens n (Code-F.KeyOf x0) s h0 h1 = refl
no_field_seen opens n (Code-F.Helper x0) s h0 h1 = refl
no_field_seen opens n (Code-F.HelperCall x0 x1 x2) s h0 h1 = refl
no_field_seen opens n Code-F.Throw s h0 h1 = refl
no_field_seen opens n (Code-F.Define x0 x1 x2 x3) s h0 h1 = refl
no_field_seen opens n (Code-F.PrivateInitialize x0 x1 x2 x3) s h0 h1 = refl
no_field_seen opens n (Code-F.AddBrand x0 x1 x2) s h0 h1 = refl
no_field_seen opens n (Code-F.Bound x0 x1) s h0 h1 = refl
no_field_seen opens n (Code-F.Setter x0 x1 x2) s h0 h1 = refl
no_field_seen opens n (Code-F.PrivateValue x0) s h0 h1 = refl
no_field_seen opens n (Code-F.CallArrow x0 x1 x2) s h0 h1 = refl
no_field_seen opens n (Code-F.CallClosure x0 x1) s h0 h1 = refl
no_field_seen opens n (Code-F.Initializers x0) s h0 h1 = refl
no_field_seen opens n (Code-F.GiveFunction x0 x1 x2 x3) s h0 h1 = refl
no_field_seen opens n (Code-F.GiveClass x0 x1) s h0 h1 = refl

pub no_field : (opens : Opens) (n : ℕ) (c : Code) (s : State) → ((is_static : Bool) (form : FieldForm) (key : Code) (right : Code) → c ≡ codes.Field is_static form key right → ⊥) → ((is_static : Bool) (key : ℕ) (right : Code) → c ≡ codes.PrivateField is_static key right → ⊥) → field_at opens n (code_of c) s ≡ Some (Undefined, s)
no_field opens n c s h0 h1 = ap (λ (x : of.Code). field_at opens n x s) (code_out c) ∙ no_field_seen opens n (out-Code c) s (λ x0 x1 x2 x3 e. h0 x0 x1 x2 x3 (sym (roll-out-Code c) ∙ e)) (λ x0 x1 x2 e. h1 x0 x1 x2 (sym (roll-out-Code c) ∙ e))

no_method_seen : (y : Form) → ((is_static : Bool) (key : ℕ) (callee_function : Code) → roll-Code y ≡ codes.PrivateMethod is_static key callee_function → ⊥) → has_instance_methods (of.and (seen y) of.done) ≡ false
no_method_seen Code-F.Nothing h0 = refl
no_method_seen Code-F.NoRule h0 = refl
no_method_seen (Code-F.Value x0) h0 = refl
no_method_seen (Code-F.Spelled x0) h0 = refl
no_method_seen (Code-F.PrivateName x0 x1 x2) h0 = refl
no_method_seen (Code-F.Binding x0 x1 x2) h0 = refl
no_method_seen (Code-F.Rest x0) h0 = refl
no_method_seen (Code-F.Name x0 x1 x2) h0 = refl
no_method_seen Code-F.Super h0 = refl
no_method_seen (Code-F.Member x0 x1 x2) h0 = refl
no_method_seen (Code-F.PrivateMember x0 x1 x2) h0 = refl
no_method_seen (Code-F.SuperMember x0 x1 x2 x3) h0 = refl
no_method_seen (Code-F.PrivateIn x0 x1 x2) h0 = refl
no_method_seen (Code-F.Assign x0 x1) h0 = refl
no_method_seen (Code-F.Compound x0 x1 x2 x3) h0 = refl
no_method_seen (Code-F.Logical x0 x1 x2 x3) h0 = refl
no_method_seen (Code-F.LogicalAssign x0 x1 x2 x3) h0 = refl
no_method_seen (Code-F.Update x0 x1 x2 x3) h0 = refl
no_method_seen (Code-F.Call x0 x1 x2) h0 = refl
no_method_seen (Code-F.Tag x0 x1 x2 x3) h0 = refl
no_method_seen (Code-F.Construct x0 x1 x2) h0 = refl
no_method_seen (Code-F.SuperCall x0 x1 x2 x3) h0 = refl
no_method_seen (Code-F.SuperCallWithAll x0) h0 = refl
no_method_seen (Code-F.Sequence x0) h0 = refl
no_method_seen (Code-F.TemplateString x0) h0 = refl
no_method_seen (Code-F.Template x0 x1 x2) h0 = refl
no_method_seen (Code-F.Operation x0 x1 x2 x3) h0 = refl
no_method_seen (Code-F.Piece x0 x1) h0 = refl
no_method_seen (Code-F.Chain x0 x1) h0 = refl
no_method_seen (Code-F.Short x0) h0 = refl
no_method_seen (Code-F.Tested x0 x1 x2) h0 = refl
no_method_seen (Code-F.Pattern x0 x1) h0 = refl
no_method_seen (Code-F.Takes x0 x1 x2 x3) h0 = refl
no_method_seen (Code-F.Steps x0) h0 = refl
no_method_seen (Code-F.GivesTo x0 x1) h0 = refl
no_method_seen (Code-F.ExportDefault x0) h0 = refl
no_method_seen (Code-F.Function x0 x1 x2 x3 x4) h0 = refl
no_method_seen (Code-F.NewFunction x0 x1 x2 x3) h0 = refl
no_method_seen (Code-F.NewReturn x0) h0 = refl
no_method_seen (Code-F.Class x0 x1 x2 x3) h0 = refl
no_method_seen (Code-F.Field x0 x1 x2 x3) h0 = refl
no_method_seen (Code-F.PrivateField x0 x1 x2) h0 = refl
no_method_seen (Code-F.Method x0 x1 x2 x3) h0 = refl
no_method_seen (Code-F.PrivateMethod x0 x1 x2) h0 = absurd (h0 x0 x1 x2 (codes.rolls-PrivateMethod x0 x1 x2))
no_method_seen (Code-F.Constructor x0) h0 = refl
no_method_seen (Code-F.StaticBlock x0) h0 = refl
no_method_seen (Code-F.GeneratedElement x0 x1) h0 = refl
no_method_seen (Code-F.FromCall x0) h0 = refl
no_method_seen (Code-F.FromMember x0) h0 = refl
no_method_seen (Code-F.KeyOf x0) h0 = refl
no_method_seen (Code-F.Helper x0) h0 = refl
no_method_seen (Code-F.HelperCall x0 x1 x2) h0 = refl
no_method_seen Code-F.Throw h0 = refl
no_method_seen (Code-F.Define x0 x1 x2 x3) h0 = refl
no_method_seen (Code-F.PrivateInitialize x0 x1 x2 x3) h0 = refl
no_method_seen (Code-F.AddBrand x0 x1 x2) h0 = refl
no_method_seen (Code-F.Bound x0 x1) h0 = refl
no_method_seen (Code-F.Setter x0 x1 x2) h0 = refl
no_method_seen (Code-F.PrivateValue x0) h0 = refl
no_method_seen (Code-F.CallArrow x0 x1 x2) h0 = refl
no_method_seen (Code-F.CallClosure x0 x1) h0 = refl
no_method_seen (Code-F.Initializers x0) h0 = refl
no_method_seen (Code-F.GiveFunction x0 x1 x2 x3) h0 = refl
no_method_seen (Code-F.GiveClass x0 x1) h0 = refl

pub no_method : (c : Code) → ((is_static : Bool) (key : ℕ) (callee_function : Code) → c ≡ codes.PrivateMethod is_static key callee_function → ⊥) → has_instance_methods (of.and (code_of c) of.done) ≡ false
no_method c h0 = ap (λ (x : of.Code). has_instance_methods (of.and x of.done)) (code_out c) ∙ no_method_seen (out-Code c) (λ x0 x1 x2 e. h0 x0 x1 x2 (sym (roll-out-Code c) ∙ e))
