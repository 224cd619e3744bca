-- The private members of the classes around a node, as code holds them.
use Rattle.std.specs.Prelude.{ℕ, ◌+◌, List, [], ◌++◌, Bool, false, cond, ◌||◌, nat_eq}
use Rattle.es_base.specs.Tree.{Parts, end, more, trees}
use Rattle.es_steps.specs.PrivateNames.{PrivateMember, elements_members}
use Rattle.es_steps.specs.Shapes.{unwritable_part}
use Rattle.es_outside.specs.declared.private_target.Around as around
use Rattle.es_outside.specs.declared.private_target.Around.{Around}

-- the private members that are seen, the nearest first
abbrev pub seen_by : Around → List PrivateMember
seen_by around.None = []
seen_by (around.Class' class names at outer) = elements_members class.0 (trees names.now.elements.now) ++ seen_by outer

-- the same in the i-th part of a class or another node, where `own` are seen in the third
abbrev pub seen_in : List PrivateMember → List PrivateMember → ℕ → List PrivateMember
seen_in inner seen i = cond (nat_eq i 2) inner seen

-- of the parts from the i-th on
abbrev pub unwritable_from : (ℕ → List PrivateMember) → ℕ → Parts → Bool
unwritable_from seen i end = false
unwritable_from seen i (more p ps) = unwritable_part (seen i) p || unwritable_from seen (i + 1) ps
