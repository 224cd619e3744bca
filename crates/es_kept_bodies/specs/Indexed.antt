-- Bodies with their numbers, and closures by their arrows.
use Rattle.std.specs.Prelude.{ℕ, List, [], ◌∷◌, Bool, false, ◌||◌, map}
use Rattle.es_lowered.specs.DeadZones.{Body, Closures, is_arrow_of}
use Rattle.es_touches.specs.Touches.{body_of}
use Rattle.es_kept_bodies.specs.declared.indexed.SourceBody.{SourceBody}

abbrev pub body_seen : SourceBody → Body
body_seen x = body_of x.body.now

abbrev pub bodies_seen : List SourceBody → List Body
bodies_seen xs = map body_seen xs

abbrev pub numbered_bodies : List Body → List (ℕ × Body)
numbered_bodies bs = map (λ b. (b.number, b)) bs

abbrev pub arrows_of : Closures → List ℕ
arrows_of cs = map (λ c. c.1) cs

-- whether one of these parts is of the arrow of a closure
abbrev pub any_of_closure : Closures → List (ℕ × ℕ) → Bool
any_of_closure called [] = false
any_of_closure called (p ∷ ps) = is_arrow_of p.0 called || any_of_closure called ps
