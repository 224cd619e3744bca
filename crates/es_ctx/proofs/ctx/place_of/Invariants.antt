use Rattle.std.proofs.Common.{◌≡◌, ◌<◌, drop, length}
use Rattle.es_ctx.specs.Stores.{place_from, place_of}
use Rattle.es_ctx.proofs.ctx.place_of.Given as goal

abbrev pub invariant-loop-i : goal.invariant-loop-i
invariant-loop-i l = (place_from l.number l.i l.found (drop l.i l.lists) ≡ place_of l.number l.lists) × (l.found < length l.lists)
