-- Private names stand in classes that declare them. (ECMA-262, 15.7.1.)
use Rattle.std.specs.Prelude.{ℕ, suc, List, [], ◌++◌, Bool, true, false, not, ◌||◌, Option, Some, None}
use Rattle.es_base.specs.Tree.{Tree, Part, Parts, Node, end, more, child, list}
use Rattle.es_base.specs.declared.kind.Kind.{Kind}
use Rattle.es_steps.specs.Parts.{at, string_of}
use Rattle.es_steps.specs.PrivateNames.{PrivateMember, seen_members, declared_member}

abbrev pub is_undeclared : Option PrivateMember → Bool
is_undeclared None = true
is_undeclared (Some x) = false

abbrev pub is_stray_name : List PrivateMember → Kind → Parts → Bool
is_stray_name seen Kind.PrivateIdentifier ps = is_undeclared (declared_member (string_of (at 0 ps)) seen)
is_stray_name seen kind ps = false

-- the private members that are seen in the part i of a node, the nearest first
abbrev pub seen_inside : List PrivateMember → Kind → ℕ → Parts → ℕ → List PrivateMember
seen_inside seen kind m ps i = seen_members kind m ps i ++ seen

abbrev mutual
  pub has_stray_name : List PrivateMember → Tree → Bool
  has_stray_name seen (Node kind m span semantic_id ps) = is_stray_name seen kind ps || stray_name_in (seen_inside seen kind m ps) ps

  pub stray_name_at : List PrivateMember → Part → Bool
  stray_name_at seen (child t) = has_stray_name seen t
  stray_name_at seen (list ps) = stray_name_of seen ps
  stray_name_at seen p = false

  pub stray_name_in : (ℕ → List PrivateMember) → Parts → Bool
  stray_name_in seen end = false
  stray_name_in seen (more p ps) = stray_name_at (seen 0) p || stray_name_in (λ i. seen (suc i)) ps

  pub stray_name_of : List PrivateMember → Parts → Bool
  stray_name_of seen end = false
  stray_name_of seen (more p ps) = stray_name_at seen p || stray_name_of seen ps

-- of a program and what it was lowered to
abbrev pub private_names_stay : Tree → Tree → Bool
private_names_stay p q = has_stray_name [] p || not (has_stray_name [] q)
