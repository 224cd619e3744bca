-- Private members, with the numbers by which they are looked up.
use Rattle.std.specs.Prelude.{ℕ, List, [], ◌∷◌, ◌++◌, Bool, cond, map, not, ◌&&◌}
use Rattle.es_seen_names.specs.PrivateMembers.{private_member_of}
use Rattle.es_seen_names.specs.declared.private_member.PrivateMember.{PrivateMember}
use Rattle.es_steps.specs.GeneratedForms.{is_function_member}

-- by their keys
abbrev pub numbered_members : List PrivateMember → List (ℕ × PrivateMember)
numbered_members xs = map (λ x. (x.node, x)) xs

-- private methods of instances, by their classes
abbrev pub is_branded : PrivateMember → Bool
is_branded x = is_function_member (private_member_of x) && not x.is_static

abbrev pub numbered_branded : List PrivateMember → List (ℕ × PrivateMember)
numbered_branded [] = []
numbered_branded (x ∷ xs) = cond (is_branded x) ((x.class, x) ∷ []) [] ++ numbered_branded xs
