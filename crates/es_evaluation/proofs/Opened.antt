-- What is opened over a state is what the definitions open.
use Rattle.std.proofs.Common.{◌≡◌, refl, sym, ap, ◌∙◌, ℕ, zero, suc, List, [], Bool, true, false, cond, Option, Some, None, length}
use Rattle.es_steps.specs.Code.{Code, Codes, Opened, InitializersOf, done, and}
use Rattle.es_steps.specs.Evaluation.{Environment, Run, Evaluation, settle, settle_run, go_on, ev, ev_field, ev_fields, ev_initializers, has_instance_methods}
use Rattle.es_steps.specs.Evaluation as of
use Rattle.es_steps.specs.Events as of_events
use Rattle.es_steps.specs.Opening.{Definition, of_class, of_name, of_called, definition_of, without_definition}
use Rattle.es_steps.specs.Opening as of_opening
use Rattle.es_steps.specs.Values.{Value, Undefined}
use Rattle.es_evaluation.specs.Direct.{State, Step, settled, settle_with, form, definition, opening_in, opening, evaluated}
use Rattle.es_evaluation.specs.Agreement.{Follows, onto}
use Rattle.es_evaluation.proofs.Follows.{follows_none}
use Rattle.es_evaluation.proofs.Same.{follows, construction_follows}

-- ---- what follows a settled step is settled

abbrev start : Environment → State
start env = record { names = env; tokens = []; has_thrown = false }

abbrev value_in : Option (Value × State) → Value
value_in None = Undefined
value_in (Some p) = p.0

abbrev thrown_in : Option (Value × State) → Bool
thrown_in None = false
thrown_in (Some p) = p.1.has_thrown

twice : (b : Bool) (v : Value) → cond b Undefined (cond b Undefined v) ≡ cond b Undefined v
twice true v = refl
twice false v = refl

settled_run : (env : Environment) (o : Option (Value × State)) (r : Option Run) → settle_with false o ≡ onto (start env) r → settle_run r ≡ r
settled_run env o None h = refl
settled_run env None (Some r) h = absurd (cc)
settled_run env (Some p) (Some r) h =
    let v : cond p.1.has_thrown Undefined p.0 ≡ r.value = ap value_in h in
    let t : p.1.has_thrown ≡ of_events.throws r.events = ap thrown_in h in
    let e : of_events.value_behind r.events r.value ≡ r.value = sym (ap (λ (b : Bool). cond b Undefined r.value) t) ∙ ap (cond p.1.has_thrown Undefined) (sym v) ∙ twice p.1.has_thrown p.0 ∙ v in
    ap (λ (w : Value). Some (record { events = r.events; value = w; after = r.after })) e

settled_already : (a : Evaluation) (d : Step Value) → Follows a (settled d) → (env : Environment) → settle a env ≡ a env
settled_already a d h env = settled_run env (d (start env)) (a env) (h.same (start env))

-- ---- initializers give undefined

abbrev GivesUndefined : Option Run → Type 0
GivesUndefined None = Unit {0}
GivesUndefined (Some r) = r.value ≡ Undefined

undefined_behind : (l : of_events.Events) (o : Option Run) → GivesUndefined o → GivesUndefined (of.run_behind l o)
undefined_behind l None h = tt
undefined_behind l (Some r) h = h

undefined_on : (o : Option Run) (f : Value → Evaluation) → ((v : Value) (env : Environment) → GivesUndefined (f v env)) → GivesUndefined (go_on o f)
undefined_on None f h = tt
undefined_on (Some r) f h = undefined_behind r.events (f r.value r.after) (h r.value r.after)

fields_undefined : (opens : Opened → Evaluation) (n : ℕ) (es : Codes) (env : Environment) → GivesUndefined (ev_fields opens n es env)
fields_undefined opens n done env = refl
fields_undefined opens n (and e es) env = undefined_on (ev_field opens n e env) (λ v. ev_fields opens n es) (λ v env2. fields_undefined opens n es env2)

undefined_settled_by : (b : Bool) (v : Value) → v ≡ Undefined → cond b Undefined v ≡ v
undefined_settled_by true v h = sym h
undefined_settled_by false v h = refl

undefined_settled : (o : Option Run) → GivesUndefined o → settle_run o ≡ o
undefined_settled None h = refl
undefined_settled (Some r) h = ap (λ (w : Value). Some (record { events = r.events; value = w; after = r.after })) (undefined_settled_by (of_events.throws r.events) r.value h)

initializers_settled : (opens : Opened → Evaluation) (n : ℕ) (es : Codes) (env : Environment) → settle (ev_initializers opens n es) env ≡ ev_initializers opens n es env
initializers_settled opens n es env = undefined_settled (ev_initializers opens n es env) (undefined_on (of.brand_first (has_instance_methods es) n env) (λ v. ev_fields opens n es) (λ v env2. fields_undefined opens n es env2))

-- ---- opening

record Opens (opens : Opened → Evaluation) (steps : Opened → Step Value) : Type 0 where
  follow : (o : Opened) → Follows (opens o) (steps o)
  settle_all : (o : Opened) (env : Environment) → settle (opens o) env ≡ opens o env

definition_follows : (opens : Opened → Evaluation) (steps : Opened → Step Value) → Opens opens steps → (d : Option Definition) → Follows (of_opening.ev_definition opens d) (definition steps d)
definition_follows opens steps h None = follows_none
definition_follows opens steps h (Some (of_class n es)) = construction_follows opens steps h.follow (λ m env. h.settle_all (InitializersOf m) env) n es
definition_follows opens steps h (Some (of_name x c)) = follows opens steps h.follow (λ m env. h.settle_all (InitializersOf m) env) c
definition_follows opens steps h (Some (of_called x c)) = follows opens steps h.follow (λ m env. h.settle_all (InitializersOf m) env) c

definition_settled : (opens : Opened → Evaluation) (steps : Opened → Step Value) → Opens opens steps → (d : Option Definition) (env : Environment) → settle (of_opening.ev_definition opens d) env ≡ of_opening.ev_definition opens d env
definition_settled opens steps h None env = refl
definition_settled opens steps h (Some (of_class n es)) env = initializers_settled opens n es env
definition_settled opens steps h (Some (of_name x c)) env = settled_already (ev opens c) (form steps c) (follows opens steps h.follow (λ m e. h.settle_all (InitializersOf m) e) c) env
definition_settled opens steps h (Some (of_called x c)) env = settled_already (ev opens c) (form steps c) (follows opens steps h.follow (λ m e. h.settle_all (InitializersOf m) e) c) env

opening_follows : (k : ℕ) (ds : List Definition) → Opens (of_opening.opening_in k ds) (opening_in k ds)
opening_follows zero ds = record { follow = λ o. follows_none; settle_all = λ o env. refl }
opening_follows (suc k) ds = record {
  follow = λ o. definition_follows (of_opening.opening_in k (without_definition o ds)) (opening_in k (without_definition o ds)) (opening_follows k (without_definition o ds)) (definition_of o ds);
  settle_all = λ o env. definition_settled (of_opening.opening_in k (without_definition o ds)) (opening_in k (without_definition o ds)) (opening_follows k (without_definition o ds)) (definition_of o ds) env;
}

-- the value of a code among definitions
pub evaluated_follows : (ds : List Definition) (c : Code) → Follows (ev (of_opening.opening ds) c) (evaluated ds c)
evaluated_follows ds c =
    let h : Opens (of_opening.opening ds) (opening ds) = opening_follows (length ds) ds in
    follows (of_opening.opening ds) (opening ds) h.follow (λ m env. h.settle_all (InitializersOf m) env) c
