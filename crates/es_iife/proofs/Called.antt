-- The call of a new arrow.
use Rattle.std.proofs.Common.{◌≡◌, refl, ap, Bool, true, false, cond, Option, Some, None}
use Rattle.es_steps.specs.Evaluation.{Run, run_behind, settle_run}
use Rattle.es_steps.specs.Events.{none, throws}
use Rattle.es_steps.specs.Values.{Value, Undefined}
use Rattle.es_iife.specs.Law.{CalledLaw}

twice : (b : Bool) (v : Value) → cond b Undefined (cond b Undefined v) ≡ cond b Undefined v
twice true v = refl
twice false v = refl

settled_twice : (o : Option Run) → settle_run (run_behind none (settle_run o)) ≡ settle_run o
settled_twice None = refl
settled_twice (Some r) = ap (λ v. Some (record { events = r.events; value = v; after = r.after })) (twice (throws r.events) r.value)

pub called_law : CalledLaw
called_law opens c n m span e env arrow return = rw (arrow, return) (settled_twice _)
