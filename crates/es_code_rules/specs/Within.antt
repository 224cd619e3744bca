-- What evaluates the codes in a code.
use Rattle.std.specs.Prelude.{List}
use denote.Ref.{Bor, MutBor}
use Rattle.std.specs.declared.result.Result.{Result}
use Rattle.std.specs.declared.alloc.Global.{Global}
use Rattle.es_codes.specs.CodeView.{code_of}
use Rattle.es_codes.specs.declared.code.Code.{Code}
use Rattle.es_evaluator.specs.Running.{Returns, state_of}
use Rattle.es_evaluator.specs.declared.fault.Fault.{Fault}
use Rattle.es_evaluator.specs.declared.state.State.{State}
use Rattle.es_code_rules.specs.Elsewhere.{opens_of}
use Rattle.es_code_rules.specs.Steps.{value_at}
use Rattle.es_code_rules.specs.declared.definition.Definition.{Definition}
use Rattle.es_code_rules.specs.declared.definition.Opening.{Opening}
use Rattle.es_steps.specs.Values.{Value}

-- it may be called
abbrev pub MayEvaluate : {A : Type 0} → (A → Bor Opening → MutBor State → Bor Code → Type 0) → Type 0
MayEvaluate {A} pre = (a : A) (o : Bor Opening) (s : MutBor State) (c : Bor Code) → pre a o s c

-- and it gives the value of a code
abbrev pub Evaluates : {A : Type 0} → (A → Bor Opening → MutBor State → Bor Code → Result Value Fault → MutBor State → Type 0) → List Definition → Type 0
Evaluates {A} post ds =
    (a : A) (o : Bor Opening) (s : MutBor State) (c : Bor Code) (r : Result Value Fault) (t : MutBor State)
    → post a o s c r t
    → Returns (λ v. v) r t.now (value_at (opens_of ds o.now) (code_of c.now) (state_of s.now))
