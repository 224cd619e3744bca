-- What a temporary holds.
use Rattle.std.proofs.Common.{◌≡◌, refl, ap, ◌∙◌, ℕ, List, ◌∷◌, true, false, cond, Option, Some}
use Rattle.std.specs.Prelude.{bytes_eq, codes}
use Rattle.std.proofs.lemmas.Slice.Eq.{bytes_eq-Decides}
use Rattle.es_base.specs.Tree.{Tree, more, child, string, end}
use Rattle.es_base.specs.declared.kind.Kind.{Kind}
use Rattle.es_base.specs.declared.ledger.GeneratedKind.{GeneratedKind}
use Rattle.es_base.specs.declared.operator.AssignmentOperator.{AssignmentOperator}
use Rattle.es_expression.specs.Expression.{assignment_expression}
use Rattle.es_expression.specs.Identifier.{identifier_reference}
use Rattle.es_steps.specs.Code.{Code, Opened, assign, to_name}
use Rattle.es_steps.specs.Context.{Context, Generated, found_kind, generated_as, generated_or, inside}
use Rattle.es_steps.specs.Evaluation.{Environment, Evaluation, Run, bind, ev, gives, given_as, go_on, is_binding_value, no_meaning, ready_name, run_behind, settle_run, stands_for, write_ready}
use Rattle.es_steps.specs.Events.{Events, none, then, throws, behind}
use Rattle.es_steps.specs.Expressions.{name_or_arguments, target_of}
use Rattle.es_steps.specs.GeneratedForms.{generated_assignment}
use Rattle.es_steps.specs.Reading.{read}
use Rattle.es_steps.specs.References.{declared}
use Rattle.es_steps.specs.Values.{Value, KeyOf, ResultOf, Undefined}
use Rattle.es_common.specs.Law.{in_right}

pub behind-none : (l : Events) → behind l none ≡ l
behind-none none = refl
behind-none (then e es) = ap (then e) (behind-none es)

held_as : (m : ℕ) (s : List ℕ) (v : Value) (env : Environment) → is_binding_value v ≡ false → given_as m s v env ≡ stands_for s v env
held_as m s (KeyOf v) env h = ap (λ b. stands_for s (cond b (ResultOf m) (KeyOf v)) env) h
held_as m s v env h = ap (λ b. (cond b no_meaning (stands_for s v)) env) h

pub same_name : (s : List ℕ) → bytes_eq s s ≡ true
same_name s = (bytes_eq-Decides s s).1 refl

-- `t = e`, as it is read
pub read_first : (c : Context) (m b : ℕ) (span bspan : Option (ℕ × ℕ)) (reference : Option ℕ) (name : List ℕ) (value : Tree) → generated_as name c.ledger ≡ Some GeneratedKind.Temp
    → read c (assignment_expression m span AssignmentOperator.Assign (identifier_reference b bspan reference name) value) ≡ assign (to_name b name (Generated GeneratedKind.Temp)) (read (in_right c m (identifier_reference b bspan reference name) value) value)
read_first c m b span bspan reference name value generated =
    let target : Tree = identifier_reference b bspan reference name in
    let d : Context = inside c Kind.AssignmentExpression m (more (string (codes "=")) (more (child target) (more (child value) end))) 1 in
    ap (λ g. generated_assignment c m (target_of (name_or_arguments d b name (generated_or g (found_kind d.first_new d.varying name (declared name d.names))))) (read (in_right c m target value) value)) generated

-- and evaluated
pub assign_held : (opens : Opened → Evaluation) (b : ℕ) (name : List ℕ) (e : Code) (env : Environment) (r : Run)
    → ev opens e env ≡ Some r → throws r.events ≡ false → is_binding_value r.value ≡ false
    → ev opens (assign (to_name b name (Generated GeneratedKind.Temp)) e) env ≡ Some (record { events = r.events; value = r.value; after = (name, r.value) ∷ r.after })
assign_held opens b name e env r runs quiet free =
    ap (λ o. settle_run (go_on o (λ v. bind (write_ready (ready_name b name (Generated GeneratedKind.Temp)) v) (λ w. gives v)))) runs
    ∙ ap (λ o. settle_run (run_behind r.events (go_on o (λ w. gives r.value)))) (held_as b name r.value r.after free)
    ∙ ap (λ l. settle_run (Some (record { events = l; value = r.value; after = (name, r.value) ∷ r.after }))) (behind-none r.events)
    ∙ ap (λ q. Some (record { events = r.events; value = cond q Undefined r.value; after = (name, r.value) ∷ r.after })) quiet
