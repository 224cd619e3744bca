-- The functions of private methods, as definitions see them.
use Rattle.std.proofs.Common.{Bor}
use Rattle.std.specs.Prelude.{ℕ, List, [], ◌∷◌, ◌++◌, map, Bool, true, false, cond}
use Rattle.std.specs.Str.{chars}
use Rattle.es_grouped.specs.Groups.{having}
use Rattle.es_lowered.specs.Timely.{Around, Mark, held_by, held_of, is_around}
use Rattle.es_steps.specs.Values.{String}
use Rattle.es_marks.specs.Around.{held_parts}
use Rattle.es_marks.specs.declared.around.HeldPart.{HeldPart}
use Rattle.es_marks.specs.declared.method_functions.MethodFunction.{MethodFunction}

abbrev pub method_function : MethodFunction → ℕ × String
method_function x = (x.node, chars x.name.now)

abbrev pub method_functions : List MethodFunction → List (ℕ × String)
method_functions xs = map method_function xs

-- what holds the class of one of them, if that is around
abbrev pub held_for : List Mark → List (ℕ × Bool) → ℕ × String → List (ℕ × ℕ)
held_for ms later f = cond (is_around f.0 later) (held_of f.1 ms) []

abbrev pub with_held : List (ℕ × String) → List Mark → Around → Around
with_held fs ms x = record x { held = held_by ms x.later fs ++ x.held }

-- ---- by the numbers of functions

-- what holds the class of each of these functions, with the number of that
abbrev pub helds : List Mark → List (ℕ × String) → List (ℕ × List (ℕ × ℕ))
helds ms fs = map (λ f. (f.0, held_of f.1 ms)) fs

abbrev pub held_list : Bor (List HeldPart) → List (ℕ × ℕ)
held_list hs = held_parts hs.now

abbrev pub held_lists : List (Bor (List HeldPart)) → List (List (ℕ × ℕ))
held_lists hs = map held_list hs

abbrev pub any_list : List (List (ℕ × ℕ)) → Bool
any_list [] = false
any_list (hs ∷ hss) = true

abbrev pub joined : List (List (ℕ × ℕ)) → List (ℕ × ℕ)
joined [] = []
joined (hs ∷ hss) = hs ++ joined hss

-- whether a function is one of these
abbrev pub stands_for : List (ℕ × List (ℕ × ℕ)) → ℕ × Bool → Bool
stands_for xs g = any_list (having g.0 xs)
