-- Codes that are no members of a pattern.
use Rattle.std.proofs.Common.{◌≡◌, refl, sym, ap, ◌∙◌, ℕ, List, None}
use Rattle.es_steps.specs.Code as of
use Rattle.es_steps.specs.Values.{Value}
use Rattle.es_codes.specs.CodeView.{code_of, target_of, callee_of, code_step}
use Rattle.es_codes.specs.declared.event.Detail.{Detail}
use Rattle.es_codes.specs.declared.event.Operation.{Operation}
use Rattle.es_codes.specs.declared.code.Code.{Code}
use Rattle.es_codes.specs.declared.code.Target.{Target}
use Rattle.es_codes.specs.declared.code.Callee.{Callee}
use Rattle.es_codes.specs.declared.code.Code.TheVariants as codes
use Rattle.es_codes.specs.declared.code.Callee.TheOpen.{Code-F}
use Rattle.es_codes.specs.declared.code.Callee.TheViews.{roll-Code, out-Code, roll-out-Code}
use Rattle.es_codes.specs.declared.code.Callee.TheFolds.{map-Code}
use Rattle.es_codes.proofs.Forms.{code_out}
use Rattle.es_evaluation.specs.Direct.{State}
use Rattle.es_evaluator.specs.Steps.{Opens}
use Rattle.es_target_rules.specs.Steps.{take_at}

abbrev Form : Type 0
Form = Code-F Callee Code Target

abbrev seen : Form → of.Code
seen y = code_step (map-Code Callee Code Target of.Callee of.Code of.Target callee_of code_of target_of y)

no_take_seen : (opens : Opens) (v : Value) (y : Form) (s : State) → ((node : ℕ) (details : List Detail) (key : List Code) (to : Target) → roll-Code y ≡ codes.Takes node details key to → ⊥) → ((node : ℕ) (operation : Operation) (operands : List Code) (held : List Code) → roll-Code y ≡ codes.Operation node operation operands held → ⊥) → take_at opens v (seen y) s ≡ None
unfolding take_at
no_take_seen opens v Code-F.Nothing s h0 h1 = refl
no_take_seen opens v Code-F.NoRule s h0 h1 = refl
no_take_seen opens v (Code-F.Value x0) s h0 h1 = refl
no_take_seen opens v (Code-F.Spelled x0) s h0 h1 = refl
no_take_seen opens v (Code-F.PrivateName x0 x1 x2) s h0 h1 = refl
no_take_seen opens v (Code-F.Binding x0 x1 x2) s h0 h1 = refl
no_take_seen opens v (Code-F.Rest x0) s h0 h1 = refl
no_take_seen opens v (Code-F.Name x0 x1 x2) s h0 h1 = refl
no_take_seen opens v Code-F.Super s h0 h1 = refl
no_take_seen opens v (Code-F.Member x0 x1 x2) s h0 h1 = refl
no_take_seen opens v (Code-F.PrivateMember x0 x1 x2) s h0 h1 = refl
no_take_seen opens v (Code-F.SuperMember x0 x1 x2 x3) s h0 h1 = refl
no_take_seen opens v (Code-F.PrivateIn x0 x1 x2) s h0 h1 = refl
no_take_seen opens v (Code-F.Assign x0 x1) s h0 h1 = refl
no_take_seen opens v (Code-F.Compound x0 x1 x2 x3) s h0 h1 = refl
no_take_seen opens v (Code-F.Logical x0 x1 x2 x3) s h0 h1 = refl
no_take_seen opens v (Code-F.LogicalAssign x0 x1 x2 x3) s h0 h1 = refl
no_take_seen opens v (Code-F.Update x0 x1 x2 x3) s h0 h1 = refl
no_take_seen opens v (Code-F.Call x0 x1 x2) s h0 h1 = refl
no_take_seen opens v (Code-F.Tag x0 x1 x2 x3) s h0 h1 = refl
no_take_seen opens v (Code-F.Construct x0 x1 x2) s h0 h1 = refl
no_take_seen opens v (Code-F.SuperCall x0 x1 x2 x3) s h0 h1 = refl
no_take_seen opens v (Code-F.SuperCallWithAll x0) s h0 h1 = refl
no_take_seen opens v (Code-F.Sequence x0) s h0 h1 = refl
no_take_seen opens v (Code-F.TemplateString x0) s h0 h1 = refl
no_take_seen opens v (Code-F.Template x0 x1 x2) s h0 h1 = refl
no_take_seen opens v (Code-F.Operation x0 x1 x2 x3) s h0 h1 = absurd (h1 x0 x1 x2 x3 (codes.rolls-Operation x0 x1 x2 x3))
no_take_seen opens v (Code-F.Piece x0 x1) s h0 h1 = refl
no_take_seen opens v (Code-F.Chain x0 x1) s h0 h1 = refl
no_take_seen opens v (Code-F.Short x0) s h0 h1 = refl
no_take_seen opens v (Code-F.Tested x0 x1 x2) s h0 h1 = refl
no_take_seen opens v (Code-F.Pattern x0 x1) s h0 h1 = refl
no_take_seen opens v (Code-F.Takes x0 x1 x2 x3) s h0 h1 = absurd (h0 x0 x1 x2 x3 (codes.rolls-Takes x0 x1 x2 x3))
no_take_seen opens v (Code-F.Steps x0) s h0 h1 = refl
no_take_seen opens v (Code-F.GivesTo x0 x1) s h0 h1 = refl
no_take_seen opens v (Code-F.ExportDefault x0) s h0 h1 = refl
no_take_seen opens v (Code-F.Function x0 x1 x2 x3 x4) s h0 h1 = refl
no_take_seen opens v (Code-F.NewFunction x0 x1 x2 x3) s h0 h1 = refl
no_take_seen opens v (Code-F.NewReturn x0) s h0 h1 = refl
no_take_seen opens v (Code-F.Class x0 x1 x2 x3) s h0 h1 = refl
no_take_seen opens v (Code-F.Field x0 x1 x2 x3) s h0 h1 = refl
no_take_seen opens v (Code-F.PrivateField x0 x1 x2) s h0 h1 = refl
no_take_seen opens v (Code-F.Method x0 x1 x2 x3) s h0 h1 = refl
no_take_seen opens v (Code-F.PrivateMethod x0 x1 x2) s h0 h1 = refl
no_take_seen opens v (Code-F.Constructor x0) s h0 h1 = refl
no_take_seen opens v (Code-F.StaticBlock x0) s h0 h1 = refl
no_take_seen opens v (Code-F.GeneratedElement x0 x1) s h0 h1 = refl
no_take_seen opens v (Code-F.FromCall x0) s h0 h1 = refl
no_take_seen opens v (Code-F.FromMember x0) s h0 h1 = refl
no_take_seen opens v (Code-F.KeyOf x0) s h0 h1 = refl
no_take_seen opens v (Code-F.Helper x0) s h0 h1 = refl
no_take_seen opens v (Code-F.HelperCall x0 x1 x2) s h0 h1 = refl
no_take_seen opens v Code-F.Throw s h0 h1 = refl
no_take_seen opens v (Code-F.Define x0 x1 x2 x3) s h0 h1 = refl
no_take_seen opens v (Code-F.PrivateInitialize x0 x1 x2 x3) s h0 h1 = refl
no_take_seen opens v (Code-F.AddBrand x0 x1 x2) s h0 h1 = refl
no_take_seen opens v (Code-F.Bound x0 x1) s h0 h1 = refl
no_take_seen opens v (Code-F.Setter x0 x1 x2) s h0 h1 = refl
no_take_seen opens v (Code-F.PrivateValue x0) s h0 h1 = refl
no_take_seen opens v (Code-F.CallArrow x0 x1 x2) s h0 h1 = refl
no_take_seen opens v (Code-F.CallClosure x0 x1) s h0 h1 = refl
no_take_seen opens v (Code-F.Initializers x0) s h0 h1 = refl
no_take_seen opens v (Code-F.GiveFunction x0 x1 x2 x3) s h0 h1 = refl
no_take_seen opens v (Code-F.GiveClass x0 x1) s h0 h1 = refl

pub no_take : (opens : Opens) (v : Value) (c : Code) (s : State) → ((node : ℕ) (details : List Detail) (key : List Code) (to : Target) → c ≡ codes.Takes node details key to → ⊥) → ((node : ℕ) (operation : Operation) (operands : List Code) (held : List Code) → c ≡ codes.Operation node operation operands held → ⊥) → take_at opens v (code_of c) s ≡ None
no_take opens v c s h0 h1 = ap (λ (x : of.Code). take_at opens v x s) (code_out c) ∙ no_take_seen opens v (out-Code c) s (λ x0 x1 x2 x3 e. h0 x0 x1 x2 x3 (sym (roll-out-Code c) ∙ e)) (λ x0 x1 x2 x3 e. h1 x0 x1 x2 x3 (sym (roll-out-Code c) ∙ e))
