use Rattle.std.proofs.Common.{◌≡◌, ◌+◌, drop}
use Rattle.es_ctx.specs.Stores.{slot_place}
use Rattle.es_ctx.proofs.stores.slot_place.Given as goal

abbrev pub invariant-loop-i : goal.invariant-loop-i
invariant-loop-i l = l.i + slot_place l.number (drop l.i l.slots) ≡ slot_place l.number l.slots
