-- Bodies that touch what they touched in the source.
use Rattle.std.specs.Prelude.{ℕ, List, [], ◌∷◌, Bool, false, not, ◌&&◌, ◌||◌, nat_eq}
use Rattle.es_steps.specs.SameMeanings.{same_list}
use Rattle.es_lowered.specs.DeadZones.{Body, Closures, Touch, TouchForm, reads, names_class, reads_this, makes_class, calls_super, runs_closure, defines_field, between_parts, another}
use Rattle.es_touches.specs.Comparison.{none_in_closure}

-- a form by two numbers
abbrev pub tag_of : TouchForm → ℕ
tag_of (reads b) = 0
tag_of names_class = 1
tag_of reads_this = 2
tag_of makes_class = 3
tag_of calls_super = 4
tag_of (runs_closure k) = 5
tag_of defines_field = 6
tag_of between_parts = 7
tag_of another = 8

abbrev pub number_of : TouchForm → ℕ
number_of (reads b) = b
number_of (runs_closure k) = k
number_of form = 0

abbrev pub same_form : TouchForm → TouchForm → Bool
same_form f g = nat_eq (tag_of f) (tag_of g) && nat_eq (number_of f) (number_of g)

abbrev pub same_part : ℕ × ℕ → ℕ × ℕ → Bool
same_part p q = nat_eq p.0 q.0 && nat_eq p.1 q.1

abbrev pub same_touch : Touch → Touch → Bool
same_touch t u = nat_eq t.number u.number && (same_form t.form u.form && same_list same_part t.held u.held)

-- `this` that is there behind `super(..)` alone is so in both
abbrev pub is_same_body : Body → Body → Bool
is_same_body b c = nat_eq b.number c.number && ((c.derives || not b.derives) && same_list same_touch b.touches c.touches)

abbrev pub any_same : Body → List Body → Bool
any_same b [] = false
any_same b (c ∷ cs) = is_same_body b c || any_same b cs

abbrev pub is_kept_body : Closures → List Body → Body → Bool
is_kept_body called sources b = none_in_closure called b.touches && any_same b sources
