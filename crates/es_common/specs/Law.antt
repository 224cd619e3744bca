-- The laws of expressions that are evaluated once and read again, as the contracts of src/law.rt name them.
use Rattle.std.specs.Prelude.{◌≡◌, ℕ, List, ◌∷◌, false, Option, Some, codes}
use Rattle.es_base.specs.Tree.{Tree, more, child, string, end}
use Rattle.es_base.specs.declared.kind.Kind.{Kind}
use Rattle.es_base.specs.declared.ledger.GeneratedKind.{GeneratedKind}
use Rattle.es_base.specs.declared.operator.AssignmentOperator.{AssignmentOperator}
use Rattle.es_expression.specs.Expression.{assignment_expression, this_expression}
use Rattle.es_expression.specs.Identifier.{identifier_reference}
use Rattle.es_steps.specs.Code.{Opened}
use Rattle.es_steps.specs.Context.{Context, Fixed, generated_as, inside, name_kind}
use Rattle.es_steps.specs.Evaluation.{Environment, Evaluation, Run, ev, gives, is_binding_value}
use Rattle.es_steps.specs.Events.{none, throws}
use Rattle.es_steps.specs.Reading.{read}
use Rattle.es_steps.specs.Values.{BindingOf}

abbrev pub Span : Type 0
Span = Option (ℕ × ℕ)

-- where `name = value` is read, its value is read here
abbrev pub in_right : Context → ℕ → Tree → Tree → Context
in_right c m target value = inside c Kind.AssignmentExpression m (more (string (codes "=")) (more (child target) (more (child value) end))) 2

-- `t = e`, where t is a temporary: the events and the value of e, and t stands for the value from then on; a read of t has no event
-- and this value
pub record IsHeld (opens : Opened → Evaluation) (c : Context) (m b n : ℕ) (span bspan nspan : Span) (sb sn : Option ℕ) (name : List ℕ) (value : Tree) (env : Environment) (r : Run) : Type 0 where
  pub first : ev opens (read c (assignment_expression m span AssignmentOperator.Assign (identifier_reference b bspan sb name) value)) env ≡ Some (record { events = r.events; value = r.value; after = (name, r.value) ∷ r.after })
  pub again : ev opens (read c (identifier_reference n nspan sn name)) ((name, r.value) ∷ r.after) ≡ Some (record { events = none; value = r.value; after = (name, r.value) ∷ r.after })

abbrev pub TemporaryLaw : Type 0
TemporaryLaw = (opens : Opened → Evaluation) (c : Context) (m b n : ℕ) (span bspan nspan : Span) (sb sn : Option ℕ) (name : List ℕ) (value : Tree) (env : Environment) (r : Run)
    → generated_as name c.ledger ≡ Some GeneratedKind.Temp
    → ev opens (read (in_right c m (identifier_reference b bspan sb name) value) value) env ≡ Some r → throws r.events ≡ false → is_binding_value r.value ≡ false
    → IsHeld opens c m b n span bspan nspan sb sn name value env r

-- each read of a binding that does not vary has no event and the same value
abbrev pub BindingLaw : Type 0
BindingLaw = (opens : Opened → Evaluation) (c : Context) (n b : ℕ) (span : Span) (reference : Option ℕ) (name : List ℕ)
    → name_kind c name ≡ Fixed b → ev opens (read c (identifier_reference n span reference name)) ≡ gives (BindingOf b)

-- and so has `this`
abbrev pub ThisLaw : Type 0
ThisLaw = (opens : Opened → Evaluation) (c : Context) (n : ℕ) (span : Span) → ev opens (read c (this_expression n span)) ≡ gives c.this
