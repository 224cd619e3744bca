-- Conjunctions of tests, taken apart and put together.
use Rattle.std.proofs.Common.{◌≡◌, refl, Bool, true, false, ◌&&◌}

pub left_of : (a b : Bool) → (a && b) ≡ true → a ≡ true
left_of true b h = refl
left_of false b h = h

pub right_of : (a b : Bool) → (a && b) ≡ true → b ≡ true
right_of true b h = h
right_of false b h = absurd (cc)

pub both : (a b : Bool) → a ≡ true → b ≡ true → (a && b) ≡ true
both true b g h = h
both false b g h = g

pub wrong : {A : Type 0} → false ≡ true → A
wrong h = absurd (cc)
