-- Parameters and bodies, form by form, and parameters in order, one more at a time.
use Rattle.std.proofs.Common.{◌≡◌, refl, ap, ◌∙◌, ℕ, suc, ◌+◌, ◌<◌, ◌≤◌, List, [], ◌∷◌, length, drop, get_or, true, false, Option, Some, None, arith}
use Rattle.std.proofs.lemmas.List.{drop_more, drop_all}
use Rattle.es_steps.specs.Code as of
use Rattle.es_steps.specs.Context.{NameKind}
use Rattle.es_base.specs.declared.kind.Kind.{Kind}
use Rattle.es_steps.specs.Entries.{all_identifiers, parameters_of}
use Rattle.es_steps.specs.Events.{Detail, Index, Rest, Operate, Take, EnterBody}
use Rattle.es_steps.specs.PrivateNames.{PrivateReference}
use Rattle.es_steps.specs.Values.{String, Value, Home, Undefined, ResultOf}
use Rattle.es_codes.specs.CodeView.{code_of, codes_of}
use Rattle.es_codes.specs.declared.code.Code.{Code}
use Rattle.es_evaluation.specs.Direct.{State, next, and_then, gives, emit, bind_parameters}
use Rattle.es_evaluation.specs.Flat.{single}
use Rattle.es_evaluator.specs.Steps.{Opens}
use Rattle.es_code_rules.specs.Steps.{value_at, all_at, callee_at}
use Rattle.es_target_rules.specs.Steps.{operands_at, write_at}
use Rattle.es_class_rules.specs.Steps.{keys_at}
use Rattle.es_code_bodies.specs.Alone.{all_alone_at, target_alone_at, callee_alone_at, keys_alone_at, arguments_at}
use Rattle.es_code_bodies.specs.Bodies.{argument_at, rest_at, parameter_at, parameters, parameters_from, parameters_at, entered_at, given_at, body_at}

-- ---- a parameter

pub binding_is_parameter : (opens : Opens) (i b : ℕ) (x : String) (kind : NameKind) (s : State) → parameter_at opens i (of.binding b x kind) s ≡ Some (Undefined, s)
unfolding parameter_at
binding_is_parameter opens i b x kind s = refl

pub rest_is_parameter : (opens : Opens) (i : ℕ) (to : of.Target) (s : State) → parameter_at opens i (of.rest to) s ≡ rest_at opens i to s
unfolding parameter_at
rest_is_parameter opens i to s = refl

pub pattern_is_parameter : (opens : Opens) (i m : ℕ) (to : of.Target) (s : State) → parameter_at opens i (of.pattern m to) s ≡ argument_at opens m (Index i ∷ []) to s
unfolding parameter_at
pattern_is_parameter opens i m to s = refl

pub argument_is : (opens : Opens) (m : ℕ) (ds : List Detail) (to : of.Target) (s : State) → argument_at opens m ds to s ≡ (and_then (operands_at opens to) (λ t. and_then (emit (single (Operate m (Take ds) [])) (ResultOf m)) (λ v. write_at opens to t v))) s
unfolding argument_at
argument_is opens m ds to s = refl

pub name_takes_rest : (opens : Opens) (i m : ℕ) (x : String) (kind : NameKind) (s : State) → rest_at opens i (of.to_name m x kind) s ≡ Some (Undefined, s)
unfolding rest_at
name_takes_rest opens i m x kind s = refl

pub pattern_takes_rest : (opens : Opens) (i m : ℕ) (kind : Kind) (cs : of.Codes) (s : State) → rest_at opens i (of.to_pattern m kind cs) s ≡ argument_at opens m (Index i ∷ Rest ∷ []) (of.to_pattern m kind cs) s
unfolding rest_at
pattern_takes_rest opens i m kind cs s = refl

pub member_takes_none : (opens : Opens) (i m : ℕ) (o k : of.Code) (s : State) → rest_at opens i (of.to_member m o k) s ≡ None
unfolding rest_at
member_takes_none opens i m o k s = refl

pub private_takes_none : (opens : Opens) (i m : ℕ) (r : PrivateReference) (o : of.Code) (s : State) → rest_at opens i (of.to_private m r o) s ≡ None
unfolding rest_at
private_takes_none opens i m r o s = refl

pub super_takes_none : (opens : Opens) (i m : ℕ) (home : Home) (k : of.Code) (this : Value) (s : State) → rest_at opens i (of.to_super m home k this) s ≡ None
unfolding rest_at
super_takes_none opens i m home k this s = refl

pub setter_takes_none : (opens : Opens) (i m d : ℕ) (o : of.Code) (s : State) → rest_at opens i (of.to_setter m d o) s ≡ None
unfolding rest_at
setter_takes_none opens i m d o s = refl

pub default_takes_none : (opens : Opens) (i m : ℕ) (to : of.Target) (e : of.Code) (s : State) → rest_at opens i (of.to_default m to e) s ≡ None
unfolding rest_at
default_takes_none opens i m to e s = refl

pub nothing_takes_none : (opens : Opens) (i : ℕ) (s : State) → rest_at opens i of.no_target s ≡ None
unfolding rest_at
nothing_takes_none opens i s = refl

-- ---- in order

suc_is : (i : ℕ) → suc i ≡ i + 1
suc_is i = omega arith

pub parameters_begin : (opens : Opens) (cs : List Code) (s : State) → parameters_at opens (codes_of cs) s ≡ parameters_from opens 0 (codes_of cs) s
unfolding parameters_at parameters_from
parameters_begin opens cs s = refl

pub parameters_more : (opens : Opens) (cs : List Code) (i : ℕ) (d : Code) (s t : State) (v : Value) → i < length cs → parameter_at opens i (code_of (get_or cs i d)) s ≡ Some (v, t) → parameters_from opens i (codes_of (drop i cs)) s ≡ parameters_from opens (i + 1) (codes_of (drop (i + 1) cs)) t
unfolding parameter_at parameters_from
parameters_more opens cs i d s t v h e =
    ap (λ (l : List Code). parameters opens i (codes_of l) s) (drop_more cs i d h)
    ∙ ap (λ (x : Option (Value × State)). next x (λ (w : Value). parameters opens (suc i) (codes_of (drop (i + 1) cs)))) e
    ∙ ap (λ (j : ℕ). parameters opens j (codes_of (drop (i + 1) cs)) t) (suc_is i)

pub parameters_fail : (opens : Opens) (cs : List Code) (i : ℕ) (d : Code) (s : State) → i < length cs → parameter_at opens i (code_of (get_or cs i d)) s ≡ None → parameters_from opens i (codes_of (drop i cs)) s ≡ None
unfolding parameter_at parameters_from
parameters_fail opens cs i d s h e =
    ap (λ (l : List Code). parameters opens i (codes_of l) s) (drop_more cs i d h)
    ∙ ap (λ (x : Option (Value × State)). next x (λ (w : Value). parameters opens (suc i) (codes_of (drop (i + 1) cs)))) e

pub parameters_end : (opens : Opens) (cs : List Code) (i : ℕ) (s : State) → length cs ≤ i → parameters_from opens i (codes_of (drop i cs)) s ≡ Some (Undefined, s)
unfolding parameters_from
parameters_end opens cs i s h = ap (λ (l : List Code). parameters opens i (codes_of l) s) (drop_all i cs h)

-- ---- all, and the body

pub given_is : (opens : Opens) (cs : of.Codes) (s : State) → given_at opens cs s ≡ (and_then (parameters_at opens cs) (λ v. entered_at (all_identifiers (parameters_of cs)))) s
unfolding given_at
given_is opens cs s = refl

pub entered_here : (s : State) → entered_at true s ≡ Some (Undefined, s)
unfolding entered_at
entered_here s = refl

pub entered_apart : (s : State) → entered_at false s ≡ emit (single EnterBody) Undefined s
unfolding entered_at
entered_apart s = refl

pub body_is : (opens : Opens) (ps : of.Codes) (body : of.Code) (s : State) → body_at opens ps body s ≡ (and_then (given_at opens ps) (λ v. value_at opens body)) s
unfolding body_at
body_is opens ps body s = refl

-- ---- what comes in front of something

pub all_alone_is : (opens : Opens) (es : of.Codes) (s : State) → all_alone_at opens es s ≡ (and_then (all_at opens es) (λ vs. gives Undefined)) s
unfolding all_alone_at
all_alone_is opens es s = refl

pub target_alone_is : (opens : Opens) (to : of.Target) (s : State) → target_alone_at opens to s ≡ (and_then (operands_at opens to) (λ t. gives Undefined)) s
unfolding target_alone_at
target_alone_is opens to s = refl

pub callee_alone_is : (opens : Opens) (f : of.Callee) (s : State) → callee_alone_at opens f s ≡ (and_then (callee_at opens f) (λ c. gives c.0)) s
unfolding callee_alone_at
callee_alone_is opens f s = refl

pub keys_alone_is : (opens : Opens) (es : of.Codes) (s : State) → keys_alone_at opens es s ≡ (and_then (keys_at opens es) (λ ks. gives Undefined)) s
unfolding keys_alone_at
keys_alone_is opens es s = refl

pub arguments_are : (opens : Opens) (xs : List String) (es : of.Codes) (s : State) → arguments_at opens xs es s ≡ (and_then (all_at opens es) (λ vs. bind_parameters xs vs)) s
unfolding arguments_at
arguments_are opens xs es s = refl
