-- What is counted of the touches of a body from the last one on, and what that tells.
use Rattle.std.specs.Prelude.{◌≡◌, ℕ, suc, ◌+◌, ◌-◌, ◌<◌, ◌≤◌, List, [], ◌∷◌, Bool, true, cond, length, get_or, take, drop}
use Rattle.es_lowered.specs.DeadZones.{Body, Touch, is_definition, times}
use Rattle.es_touches.specs.Comparison as compared
use Rattle.es_touches.specs.Comparison.{stands_in, turned}
use Rattle.es_touches.specs.Touches.{bodies_of, touch_of, touches_of}
use Rattle.es_touches.specs.declared.source.Source.{Source}
use Rattle.es_touches.specs.declared.touch.Touch as code

-- how many fields are defined
abbrev pub definitions : List Touch → ℕ
definitions [] = 0
definitions (e ∷ es) = cond (is_definition e.form) (suc (definitions es)) (definitions es)

-- the last k touches
abbrev pub last_of : ℕ → List code.Touch → List Touch
last_of k xs = touches_of (drop (length xs - k) xs)

-- for each k how many fields the last k touches define
abbrev pub CountsDefinitions : List ℕ → List code.Touch → Type 0
CountsDefinitions ns xs = (length ns ≡ length xs) × ((k d : ℕ) → k < length ns → get_or ns k d ≡ definitions (last_of k xs))

-- the places of the events of node m among the touches from the i-th on, the last first
abbrev pub ArePlaces : List ℕ → ℕ → List code.Touch → ℕ → Type 0
ArePlaces ps m xs i = (length ps ≡ times m (touches_of (drop i xs))) × ((k d : ℕ) → k < length ps → k + 1 ≤ times m (touches_of (drop (get_or ps k d) xs)))

-- what stands in front of place b has behind it there what these touches have, and as often
abbrev pub IsBound : List code.Touch → ℕ → List Touch → Type 0
IsBound there b ts = (s : Source) (u : Touch) (j : ℕ) → j < b → compared.all_behind s (touches_of there) u (touches_of (drop (j + 1) there)) ts ts ≡ true

-- such a place for the last k touches, for each k
abbrev pub AreBounds : List code.Touch → List ℕ → List code.Touch → Type 0
AreBounds there bs xs = (length bs ≡ length xs) × ((k d : ℕ) → k < length bs → IsBound there (get_or bs k d) (last_of k xs))

-- the i-th touch stands as one of these does
abbrev pub Stands : Source → List code.Touch → List code.Touch → ℕ → Type 0
Stands s xs there i = (d : code.Touch) → compared.stands_like s (touch_of (get_or xs i d)) (touches_of (drop (i + 1) xs)) (touches_of there) (touches_of there) ≡ true

-- the i-th touch of a body fits
abbrev pub FitsAt : Source → Body → List code.Touch → ℕ → Type 0
FitsAt s b xs i = (d : code.Touch) → compared.touch_fits s b (turned (touches_of (take i xs)) []) (touch_of (get_or xs i d)) (touches_of (drop (i + 1) xs)) ≡ true

-- of the first i touches those that are found fit
abbrev pub FoundTo : Source → Body → List code.Touch → ℕ → List Bool → Type 0
FoundTo s b xs i found = (length found ≡ i) × ((k : ℕ) (d : Bool) → k < length found → get_or found k d ≡ true → FitsAt s b xs k)

abbrev pub AreFound : Source → Body → List code.Touch → List Bool → Type 0
AreFound s b xs found = FoundTo s b xs (length xs) found

-- what stands in this body stands in one of the source
abbrev pub IsOfSource : Source → Body → Type 0
IsOfSource s c = (ready : Bool) (b : Body) (t : Touch) (ts : List Touch) → stands_in s ready b t ts c ≡ true → compared.stands_in_any s ready b t ts (bodies_of s.bodies.now) ≡ true
