-- What a function of this crate gives, from a state in code.
use Rattle.std.specs.Prelude.{◌≡◌, ℕ, List, [], ◌∷◌, Bool, Option, Some, None}
use Rattle.std.specs.declared.result.Result.{Result}
use Rattle.std.specs.declared.result.Result.TheVariants.{Ok, Err}
use Rattle.es_steps.specs.Evaluation.{Environment}
use Rattle.es_codes.specs.View.{tokens_of}
use Rattle.es_evaluation.specs.Direct as direct
use Rattle.es_evaluation.specs.Direct.{pushed, kept}
use Rattle.es_evaluation.specs.Flat.{Token}
use Rattle.es_evaluator.specs.declared.fault.Fault.{Fault}
use Rattle.es_evaluator.specs.declared.state.Named.{Named}
use Rattle.es_evaluator.specs.declared.state.State.{State}
use Rattle.es_evaluator.specs.declared.state.Called.{Called}
use Rattle.es_evaluator.specs.declared.state.Operands.{Operands}
use Rattle.es_steps.specs.Values.{Value}

-- names that were given later stand in front
abbrev pub onto_names : Environment → List Named → Environment
onto_names env [] = env
onto_names env (n ∷ ns) = onto_names ((n.name, n.value) ∷ env) ns

unfoldable pub names_of : List Named → Environment
names_of ns = onto_names [] ns

unfoldable pub state_of : State → direct.State
state_of s = record { names = names_of s.names.items; tokens = tokens_of s.tokens.items; has_thrown = s.has_thrown }

-- behind a part, which began with so many names, and came to t
abbrev pub closed_with : ℕ → Bool → direct.State → Token → direct.State
closed_with count thrown t token = record { names = kept count t.names; tokens = pushed t.tokens token; has_thrown = thrown }

-- A value, seen by view, and the state; no meaning where the step has none; nothing is said where memory ran out or a value
-- was made a key too often.
abbrev pub Returns : {A B : Type 0} → (B → A) → Result B Fault → State → Option (A × direct.State) → Type 0
Returns view (Ok x) t d = d ≡ Some (view x, state_of t)
Returns view (Err Fault.NoMeaning) t d = d ≡ None
Returns view (Err Fault.TooDeep) t d = Unit {0}
Returns view (Err Fault.NoMemory) t d = Unit {0}

abbrev pub called_of : Called → Value × Option Value
called_of c = (c.callee, c.receiver)

abbrev pub operands_of : Operands → direct.Operands
operands_of Operands.Nothing = direct.no_operand
operands_of (Operands.One a) = direct.one_operand a
operands_of (Operands.Two a b) = direct.two_operands a b
