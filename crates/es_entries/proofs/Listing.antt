-- Two lists are one where their events and their values are.
use Rattle.std.proofs.Common.{◌≡◌, ap, ap₂, Bool}
use Rattle.std.specs.Prelude.{◌&&◌, ◌↔◌, IsTrue}
use Rattle.std.proofs.lemmas.Bool.{and_from, and_parts}
use Rattle.es_steps.specs.Entries.{Listed}
use Rattle.es_steps.specs.Events.{Events}
use Rattle.es_steps.specs.Values.{Value}

pub both_same : (a b : Bool) (l k : Listed) → IsTrue a ↔ (l.events ≡ k.events) → IsTrue b ↔ (l.value ≡ k.value) → IsTrue (a && b) ↔ (l ≡ k)
both_same a b l k events value = (
  (λ t. let e = and_parts a b t in ap₂ (λ (es : Events) (v : Value). record { events = es; value = v }) (events.0 e.0) (value.0 e.1)),
  (λ e. and_from a b (events.1 (ap (λ x. x.events) e)) (value.1 (ap (λ x. x.value) e))),
)
