-- What is around the parts of a node, by its kind.
use Rattle.std.proofs.Common.{◌≡◌, refl, ℕ, List, ◌∷◌, false, cond, ◌&&◌, ◌||◌}
use Rattle.es_base.specs.Tree.{Tree, Parts, Node}
use Rattle.es_base.specs.declared.kind.Kind.{Kind}
use Rattle.es_base.specs.declared.ledger.LedgerEntry.{LedgerEntry}
use Rattle.es_node.specs.View.{kind_of, number_in, parts_in}
use Rattle.es_steps.specs.Parts.{at}
use Rattle.es_steps.specs.PrivateNames.{is_class}
use Rattle.es_lowered.specs.Definitions.{spelling}
use Rattle.es_lowered.specs.HelperCalls.{body_runs}
use Rattle.es_lowered.specs.Timely.{Around, is_callee_of_call, is_declared, is_held, is_held_arrow, is_hoisted, is_instance_value, runs_later}
use Rattle.es_marks_around.specs.Inside.{around_within, is_always_held}

pub around_node : (first : ℕ) (ledger : List LedgerEntry) (x : Around) (t : Tree) (i : ℕ) → around_within first ledger x t i ≡ record { held = cond (is_held (kind_of t) (parts_in t) i || (is_held_arrow first x (kind_of t) (number_in t) || is_instance_value (kind_of t) (parts_in t) i)) ((number_in t, i) ∷ x.held) x.held; later = cond (runs_later first (kind_of t) (number_in t) (parts_in t) i) ((number_in t, is_hoisted ledger (kind_of t) (parts_in t)) ∷ x.later) x.later; called = cond (runs_later first (kind_of t) (number_in t) (parts_in t) i) ((number_in t, is_declared (kind_of t)) ∷ x.called) x.called; is_called = is_callee_of_call (kind_of t) i; running = cond (is_class (kind_of t) && body_runs (at 2 (parts_in t))) ((number_in t, spelling (at 0 (parts_in t))) ∷ x.running) x.running; class_name = cond (is_class (kind_of t)) (spelling (at 0 (parts_in t))) x.class_name }
around_node first ledger x (Node kind m span semantic_id ps) i = refl

pub held_otherwise : (kind : Kind) (ps : Parts) (i : ℕ) → (kind ≡ Kind.LogicalExpression → ⊥) → (kind ≡ Kind.AssignmentExpression → ⊥) → (kind ≡ Kind.ConditionalExpression → ⊥) → (kind ≡ Kind.IfStatement → ⊥) → (kind ≡ Kind.ForStatement → ⊥) → (kind ≡ Kind.SwitchStatement → ⊥) → (kind ≡ Kind.ForInStatement → ⊥) → (kind ≡ Kind.ForOfStatement → ⊥) → (kind ≡ Kind.AssignmentPattern → ⊥) → (kind ≡ Kind.AssignmentTargetWithDefault → ⊥) → is_held kind ps i ≡ is_always_held kind
held_otherwise Kind.LogicalExpression ps i a b c d e f g h j k = absurd (a refl)
held_otherwise Kind.AssignmentExpression ps i a b c d e f g h j k = absurd (b refl)
held_otherwise Kind.ConditionalExpression ps i a b c d e f g h j k = absurd (c refl)
held_otherwise Kind.IfStatement ps i a b c d e f g h j k = absurd (d refl)
held_otherwise Kind.ForStatement ps i a b c d e f g h j k = absurd (e refl)
held_otherwise Kind.SwitchStatement ps i a b c d e f g h j k = absurd (f refl)
held_otherwise Kind.ForInStatement ps i a b c d e f g h j k = absurd (g refl)
held_otherwise Kind.ForOfStatement ps i a b c d e f g h j k = absurd (h refl)
held_otherwise Kind.AssignmentPattern ps i a b c d e f g h j k = absurd (j refl)
held_otherwise Kind.AssignmentTargetWithDefault ps i a b c d e f g h j k = absurd (k refl)
held_otherwise kind ps i a b c d e f g h j k = refl

pub no_instance_value : (kind : Kind) (ps : Parts) (i : ℕ) → (kind ≡ Kind.PropertyDefinition → ⊥) → is_instance_value kind ps i ≡ false
no_instance_value Kind.PropertyDefinition ps i other = absurd (other refl)
no_instance_value kind ps i other = refl

pub not_hoisted : (ledger : List LedgerEntry) (kind : Kind) (ps : Parts) → (kind ≡ Kind.FunctionDeclaration → ⊥) → is_hoisted ledger kind ps ≡ false
not_hoisted ledger Kind.FunctionDeclaration ps other = absurd (other refl)
not_hoisted ledger kind ps other = refl

pub no_callee : (kind : Kind) (i : ℕ) → (kind ≡ Kind.CallExpression → ⊥) → is_callee_of_call kind i ≡ false
no_callee Kind.CallExpression i other = absurd (other refl)
no_callee kind i other = refl
