-- Booleans that are both true, and neither of which is.
use Rattle.std.specs.Prelude.{◌≡◌, Bool, true, false, ◌&&◌, ◌||◌}
use Rattle.std.proofs.Common.{refl}
use Rattle.std.proofs.lemmas.Bool.{and_from, true≢false}

pub both : {a b : Bool} → a ≡ true → b ≡ true → a && b ≡ true
both {a = a} {b = b} p q = and_from a b p q

pub none_of : (a b : Bool) → (a || b) ≡ false → (a ≡ false) × (b ≡ false)
none_of true b h = absurd (true≢false h)
none_of false b h = (refl, h)
