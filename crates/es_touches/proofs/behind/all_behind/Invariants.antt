use Rattle.std.proofs.Common.{◌≡◌, drop}
use Rattle.es_touches.specs.Comparison as compared
use Rattle.es_touches.specs.Touches.{touch_of, touches_of}
use Rattle.es_touches.proofs.behind.all_behind.Given as goal

abbrev pub invariant-loop-event : goal.invariant-loop-event
invariant-loop-event l = let holds = compared.all_behind l.source (touches_of l.there) (touch_of l.touch) (touches_of l.behind) (touches_of l.lowered) in holds (touches_of (drop l.event-index l.events)) ≡ holds (touches_of l.events)
