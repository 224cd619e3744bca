-- Kinds of nodes that stay in the node around them.
use Rattle.std.proofs.Common.{◌≡◌, refl, ℕ, Bool, true, false, cond}
use Rattle.std.specs.Prelude.{nat_eq}
use Rattle.es_base.specs.Tree.{Parts}
use Rattle.es_base.specs.declared.kind.Kind.{Kind}
use Rattle.es_lowered.specs.Bound.{body_around, depends_on_function, is_bound, is_nested_item, parameters_around}
use Rattle.es_steps.specs.KeptNodes.{function_around}
use Rattle.es_steps.specs.Printable.{is_module_item}
use Rattle.es_owed_carriers.specs.Bound.{is_bound_elsewhere}

pub bound_in_rest : (kind : Kind) → is_bound Kind.RestElement kind ≡ true
bound_in_rest kind = refl

pub bound_elsewhere : (around kind : Kind) → (around ≡ Kind.RestElement → ⊥) → is_bound around kind ≡ is_bound_elsewhere around kind
bound_elsewhere Kind.RestElement kind other = absurd (other refl)
bound_elsewhere Kind.AssignmentTargetRest Kind.ObjectAssignmentTarget other = refl
bound_elsewhere Kind.AssignmentTargetRest Kind.ArrayAssignmentTarget other = refl
bound_elsewhere Kind.AssignmentTargetRest kind other = refl
bound_elsewhere around Kind.Property other = refl
bound_elsewhere around Kind.BindingProperty other = refl
bound_elsewhere around Kind.AssignmentTargetProperty other = refl
bound_elsewhere around Kind.SwitchCase other = refl
bound_elsewhere around Kind.CatchClause other = refl
bound_elsewhere around Kind.RestElement other = refl
bound_elsewhere around Kind.AssignmentTargetRest other = refl
bound_elsewhere around Kind.TemplateElement other = refl
bound_elsewhere around Kind.ExportSpecifier other = refl
bound_elsewhere around Kind.VariableDeclaration other = refl
bound_elsewhere around kind other = refl

pub nested_elsewhere : (around kind : Kind) → (around ≡ Kind.Program → ⊥) → is_nested_item around kind ≡ is_module_item kind
nested_elsewhere Kind.Program kind other = absurd (other refl)
nested_elsewhere around kind other = refl

pub depends_not : (kind : Kind) (ps : Parts) → (kind ≡ Kind.LabeledStatement → ⊥) → (kind ≡ Kind.AwaitExpression → ⊥) → (kind ≡ Kind.YieldExpression → ⊥) → (kind ≡ Kind.ForOfStatement → ⊥) → depends_on_function kind ps ≡ false
depends_not Kind.LabeledStatement ps a b c d = absurd (a refl)
depends_not Kind.AwaitExpression ps a b c d = absurd (b refl)
depends_not Kind.YieldExpression ps a b c d = absurd (c refl)
depends_not Kind.ForOfStatement ps a b c d = absurd (d refl)
depends_not kind ps a b c d = refl

pub parameters_elsewhere : (b : Bool) (kind : Kind) (i : ℕ) → (kind ≡ Kind.FunctionDeclaration → ⊥) → (kind ≡ Kind.FunctionExpression → ⊥) → (kind ≡ Kind.ArrowFunctionExpression → ⊥) → parameters_around b kind i ≡ b
parameters_elsewhere b Kind.FunctionDeclaration i d e f = absurd (d refl)
parameters_elsewhere b Kind.FunctionExpression i d e f = absurd (e refl)
parameters_elsewhere b Kind.ArrowFunctionExpression i d e f = absurd (f refl)
parameters_elsewhere b kind i d e f = refl

pub field_body : (home : ℕ) (kind : Kind) (m i : ℕ) → kind ≡ Kind.PropertyDefinition → body_around home kind m i ≡ cond (nat_eq i 1) m home
field_body home Kind.PropertyDefinition m i is = refl
field_body home kind m i is = absurd (cc)

pub function_body : (home : ℕ) (kind : Kind) (m i : ℕ) → (kind ≡ Kind.PropertyDefinition → ⊥) → body_around home kind m i ≡ function_around home kind m i
function_body home Kind.PropertyDefinition m i other = absurd (other refl)
function_body home kind m i other = refl
