-- Tests that cannot hold.
use Rattle.std.proofs.Common.{◌≡◌, refl, Bool, true, false, not}
use Rattle.std.specs.Prelude.{◌&&◌}

pub not_true : (b : Bool) → not b ≡ true → b ≡ false
not_true true e = cc
not_true false e = refl

pub not_both : {b : Bool} → b ≡ false → b ≡ true → ⊥
not_both e h = cc

pub and_none : (a : Bool) → (a && false) ≡ false
and_none true = refl
and_none false = refl

pub nothing_more : (a b : Bool) → b ≡ false → (a && b) ≡ true → ⊥
nothing_more true b e h = cc
nothing_more false b e h = cc

-- of two tests that do not hold both
pub not_first : (a b : Bool) → (a && b) ≡ false → b ≡ true → a ≡ false
not_first true b none e = cc
not_first false b none e = refl

pub not_second : (a b : Bool) → (a && b) ≡ false → a ≡ true → b ≡ false
not_second true b none e = none
not_second false b none e = cc
