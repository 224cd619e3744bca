-- Marks with their places among all of a program.
use Rattle.std.specs.Prelude.{ℕ, List, [], ◌∷◌, ◌++◌, filter, Bool, cond, not, ◌&&◌, nat_lt}
use Rattle.std.specs.List.{list_any}
use Rattle.es_lowered.specs.ClassNames.{is_class_mark}
use Rattle.es_lowered.specs.Timely.{Mark}
use Rattle.es_steps.specs.KeptNodes.{all_pairs_stand}
use Rattle.es_steps.specs.References.{has_number}

-- whether the second is a mark of the class in front of the first, and all that may run or not around it is around that, too
abbrev pub is_front : ℕ × Mark → ℕ × Mark → Bool
is_front x y = nat_lt y.0 x.0 && (is_class_mark y.1.form && all_pairs_stand y.1.around.held x.1.around.held)

-- none of the class, and behind none of these that is
abbrev pub is_early : List (ℕ × Mark) → ℕ × Mark → Bool
is_early ys x = not (is_class_mark x.1.form) && not (list_any (is_front x) ys)

-- of node j, none of the class, and behind one of these that is
abbrev pub is_late : ℕ → List (ℕ × Mark) → ℕ × Mark → Bool
is_late j ys x = (not (is_class_mark x.1.form) && list_any (is_front x) ys) && has_number j x.1.node

-- ---- by the numbers of their nodes

abbrev pub of_node : ℕ → List (ℕ × Mark) → List (ℕ × Mark)
of_node k xs = filter (λ x. has_number k x.1.node) xs

abbrev pub of_nodes : List ℕ → List (ℕ × Mark) → List (ℕ × Mark)
of_nodes [] xs = []
of_nodes (k ∷ ks) xs = of_node k xs ++ of_nodes ks xs

-- a mark with the number of its node, if it is of one
abbrev pub with_number : List ℕ → ℕ × Mark → List (ℕ × (ℕ × Mark))
with_number [] x = []
with_number (k ∷ ks) x = (k, x) ∷ []

abbrev pub with_node : ℕ × Mark → List (ℕ × (ℕ × Mark))
with_node x = with_number x.1.node x

abbrev pub with_nodes : List (ℕ × Mark) → List (ℕ × (ℕ × Mark))
with_nodes [] = []
with_nodes (x ∷ xs) = with_node x ++ with_nodes xs

-- ---- those of the class

abbrev pub class_front : ℕ × Mark → List (ℕ × Mark)
class_front x = cond (is_class_mark x.1.form) (x ∷ []) []

abbrev pub class_marks : List (ℕ × Mark) → List (ℕ × Mark)
class_marks [] = []
class_marks (x ∷ xs) = class_front x ++ class_marks xs

-- ---- of node j, none of the class, and behind one of those that are

abbrev pub is_behind_any : List (ℕ × Mark) → List (ℕ × Mark) → ℕ → Bool
is_behind_any fronts xs j = list_any (λ x. not (is_class_mark x.1.form) && list_any (is_front x) fronts) (of_node j xs)
