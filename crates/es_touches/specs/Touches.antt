-- Touches in code, as definitions see them.
use Rattle.std.specs.Prelude.{ℕ, List, map}
use Rattle.std.specs.Str.{chars}
use Rattle.es_lowered.specs.DeadZones as spec
use Rattle.es_marks.specs.Around.{held_parts}
use Rattle.es_touches.specs.declared.closures.Closure.{Closure}
use Rattle.es_touches.specs.declared.source.Body.{Body}
use Rattle.es_touches.specs.declared.source.ClassParts.{ClassParts}
use Rattle.es_touches.specs.declared.touch.KeptTouch.{KeptTouch}
use Rattle.es_touches.specs.declared.touch.Touch.{Touch}
use Rattle.es_touches.specs.declared.touch.TouchForm.{TouchForm}

abbrev pub form_of : TouchForm → spec.TouchForm
form_of (TouchForm.Reads b) = spec.reads b
form_of TouchForm.NamesClass = spec.names_class
form_of TouchForm.ReadsThis = spec.reads_this
form_of TouchForm.MakesClass = spec.makes_class
form_of TouchForm.CallsSuper = spec.calls_super
form_of (TouchForm.RunsClosure k) = spec.runs_closure k
form_of TouchForm.DefinesField = spec.defines_field
form_of TouchForm.BetweenParts = spec.between_parts
form_of TouchForm.Another = spec.another

abbrev pub touch_of : Touch → spec.Touch
touch_of x = record { number = x.number; form = form_of x.form; held = held_parts x.held.now }

abbrev pub touches_of : List Touch → List spec.Touch
touches_of xs = map touch_of xs

abbrev pub kept_touch : KeptTouch → spec.Touch
kept_touch x = record { number = x.number; form = form_of x.form; held = held_parts x.held.items }

abbrev pub kept_touches : List KeptTouch → List spec.Touch
kept_touches xs = map kept_touch xs

abbrev pub closure_of : Closure → List ℕ × ℕ
closure_of x = (chars x.name.now, x.arrow)

abbrev pub closures_of : List Closure → spec.Closures
closures_of xs = map closure_of xs

abbrev pub class_of : ClassParts → spec.ClassParts
class_of x = record { number = x.number; passed = x.passed.items; keys = x.keys.items; moving = x.moving.items }

abbrev pub classes_of : List ClassParts → List spec.ClassParts
classes_of xs = map class_of xs

abbrev pub body_of : Body → spec.Body
body_of x = record { number = x.number; is_of_fields = x.is_of_fields; of_class = x.of_class.now; derives = x.derives; touches = touches_of x.touches.items }

abbrev pub bodies_of : List Body → List spec.Body
bodies_of xs = map body_of xs
