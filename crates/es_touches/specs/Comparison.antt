-- What is held against the source, as code has it.
use Rattle.std.specs.Prelude.{List, [], ◌∷◌, ◌++◌, Bool, true, false, not, ◌&&◌, ◌||◌}
use Rattle.es_lowered.specs.DeadZones as spec
use Rattle.es_lowered.specs.DeadZones.{Body, ClassParts, Closures, Touch, TouchForm, runs_closure}
use Rattle.std.specs.Prelude.{ℕ}
use Rattle.es_touches.specs.Touches.{bodies_of, classes_of, closures_of, touch_of, touches_of}
use Rattle.es_touches.specs.declared.source.Source.{Source}
use Rattle.es_touches.specs.declared.touch.Touch as code

-- the last first, in front of others
abbrev pub turned : List Touch → List Touch → List Touch
turned [] front = front
turned (t ∷ ts) front = turned ts (t ∷ front)

-- the call of a closure
abbrev pub is_any_run : TouchForm → Bool
is_any_run (runs_closure k) = true
is_any_run form = false

-- no touch stands in a closure that is run elsewhere
abbrev pub none_in_closure : Closures → List Touch → Bool
none_in_closure called [] = true
none_in_closure called (t ∷ ts) = not (spec.stands_in_closure called t) && none_in_closure called ts

module _ (s : Source) where
  abbrev pub all_behind : List Touch → Touch → List Touch → List Touch → List Touch → Bool
  all_behind = spec.all_behind s.first s.supers.now (classes_of s.classes.now) (closures_of s.called.now) (bodies_of s.bodies.now)

  abbrev pub is_like : Touch → Touch → Bool
  is_like = spec.is_like s.first s.supers.now (classes_of s.classes.now) (closures_of s.called.now) (bodies_of s.bodies.now)

  abbrev pub stands_like : Touch → List Touch → List Touch → List Touch → Bool
  stands_like = spec.stands_like s.first s.supers.now (classes_of s.classes.now) (closures_of s.called.now) (bodies_of s.bodies.now)

  abbrev pub is_of_body : Bool → Bool → Body → Body → Bool
  is_of_body = spec.is_of_body s.first s.supers.now (classes_of s.classes.now) (closures_of s.called.now) (bodies_of s.bodies.now)

  abbrev pub stands_in_any : Bool → Body → Touch → List Touch → List Body → Bool
  stands_in_any = spec.stands_in_any s.first s.supers.now (classes_of s.classes.now) (closures_of s.called.now) (bodies_of s.bodies.now)

  -- t stands in this body of the source
  abbrev pub stands_in : Bool → Body → Touch → List Touch → Body → Bool
  stands_in ready b t ts c = is_of_body ready (spec.stands_in_closure (closures_of s.called.now) t) b c && ((c.derives || not (spec.is_this t.form)) && stands_like t ts c.touches c.touches)

  abbrev pub is_touched_as : List ℕ → TouchForm → List Touch → Bool
  is_touched_as = spec.is_touched_as s.first s.supers.now (classes_of s.classes.now) (closures_of s.called.now) (bodies_of s.bodies.now)

  abbrev pub is_touched_in : List ℕ → TouchForm → List Body → Bool
  is_touched_in = spec.is_touched_in s.first s.supers.now (classes_of s.classes.now) (closures_of s.called.now) (bodies_of s.bodies.now)

  abbrev pub reads_key : List ℕ → TouchForm → List ClassParts → Bool
  reads_key = spec.reads_key s.first s.supers.now (classes_of s.classes.now) (closures_of s.called.now) (bodies_of s.bodies.now)

  abbrev pub is_behind_super : Touch → List Touch → Bool
  is_behind_super = spec.is_behind_super s.first s.supers.now (classes_of s.classes.now) (closures_of s.called.now) (bodies_of s.bodies.now)

  abbrev pub touch_fits : Body → List Touch → Touch → List Touch → Bool
  touch_fits = spec.touch_fits s.first s.supers.now (classes_of s.classes.now) (closures_of s.called.now) (bodies_of s.bodies.now)

  abbrev pub in_same : Touch → List Touch → List Touch
  in_same = spec.in_same s.first s.supers.now (classes_of s.classes.now) (closures_of s.called.now) (bodies_of s.bodies.now)

  abbrev pub run_with : Touch → List Touch → List Touch
  run_with = spec.run_with s.first s.supers.now (classes_of s.classes.now) (closures_of s.called.now) (bodies_of s.bodies.now)

  abbrev pub run_without : Touch → List Touch → List Touch
  run_without = spec.run_without s.first s.supers.now (classes_of s.classes.now) (closures_of s.called.now) (bodies_of s.bodies.now)

  abbrev pub front_of_run : List Touch → Touch → List Touch → List Touch
  front_of_run = spec.front_of_run s.first s.supers.now (classes_of s.classes.now) (closures_of s.called.now) (bodies_of s.bodies.now)

  abbrev pub runs_fit : Body → List Touch → Touch → List Touch → List Touch → List Touch → Bool
  runs_fit = spec.runs_fit s.first s.supers.now (classes_of s.classes.now) (closures_of s.called.now) (bodies_of s.bodies.now)

  abbrev pub touches_fit : Body → List Touch → List Touch → Bool
  touches_fit = spec.touches_fit s.first s.supers.now (classes_of s.classes.now) (closures_of s.called.now) (bodies_of s.bodies.now)

  abbrev pub bodies_fit : List Body → Bool
  bodies_fit = spec.bodies_fit s.first s.supers.now (classes_of s.classes.now) (closures_of s.called.now) (bodies_of s.bodies.now)

-- one touch with those in front and those behind
abbrev pub one_fits : Source → Body → List code.Touch → List code.Touch → code.Touch → List code.Touch → Bool
one_fits s b front front_with x behind =
    touch_fits s b (turned (touches_of front) []) (touch_of x) (spec.put_off_behind (closures_of s.called.now) (touch_of x) (turned (touches_of front) []) ++ in_same s (touch_of x) (touches_of behind))
    && runs_fit s b (turned (touches_of front_with) []) (touch_of x) (touches_of behind) [] b.touches
