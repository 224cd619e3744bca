-- Which private names are seen where, part by part.
use Rattle.std.specs.Prelude.{ℕ, ◌+◌, List, Bool, false, ◌||◌}
use Rattle.es_base.specs.Tree.{Tree, Parts, Node, end, more}
use Rattle.es_lowered.specs.StrayNames.{seen_inside, stray_name_at}
use Rattle.es_steps.specs.PrivateNames.{PrivateMember}

-- in the i-th part of a node
abbrev pub seen_within : List PrivateMember → Tree → ℕ → List PrivateMember
seen_within seen (Node kind m span semantic_id ps) i = seen_inside seen kind m ps i

-- whether a name of none of them stands in the parts from the i-th on
abbrev pub stray_name_from : (ℕ → List PrivateMember) → ℕ → Parts → Bool
stray_name_from seen i end = false
stray_name_from seen i (more p ps) = stray_name_at (seen i) p || stray_name_from seen (i + 1) ps
