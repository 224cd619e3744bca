-- What a name stands for is among the members of its number.
use Rattle.std.proofs.Common.{◌≡◌, refl, ap, ℕ, List, [], ◌∷◌, ◌++◌, Bool, true, false, cond, nat_eq, Some}
use Rattle.es_base.specs.declared.ledger.GeneratedKind.{GeneratedKind}
use Rattle.es_grouped.specs.Groups.{having}
use Rattle.es_lowered.specs.Temporaries.{class_before, class_of_member}
use Rattle.es_seen_names.specs.PrivateMembers.{private_member_of, private_members_of}
use Rattle.es_seen_names.specs.declared.private_member.PrivateMember as code
use Rattle.es_steps.specs.PrivateNames.{PrivateMember, member_at}
use Rattle.es_numbered_members.specs.NumberedMembers.{key_number, numbered_members}

pub member_by_number : (d : ℕ) (xs : List code.PrivateMember) → member_at d (private_members_of (having d (numbered_members xs))) ≡ member_at d (private_members_of xs)
member_by_number d [] = refl
member_by_number d (x ∷ xs) = here (nat_eq d x.node) refl (member_by_number d xs)
  where
    rest : List code.PrivateMember
    rest = having d (numbered_members xs)

    here : (b : Bool) → nat_eq d x.node ≡ b → member_at d (private_members_of rest) ≡ member_at d (private_members_of xs)
        → member_at d (private_members_of (cond b (x ∷ []) [] ++ rest)) ≡ cond b (Some (private_member_of x)) (member_at d (private_members_of xs))
    here true is h = ap (λ b. cond b (Some (private_member_of x)) (member_at d (private_members_of rest))) is
    here false is h = h

pub class_by_number : (g : GeneratedKind) (xs : List code.PrivateMember) → class_before g (private_members_of (having (key_number g) (numbered_members xs))) ≡ class_before g (private_members_of xs)
class_by_number (GeneratedKind.WeakMap d) xs = ap class_of_member (member_by_number d.0 xs)
class_by_number (GeneratedKind.Method d) xs = ap class_of_member (member_by_number d.0 xs)
class_by_number (GeneratedKind.LooseKey d) xs = ap class_of_member (member_by_number d.0 xs)
class_by_number g xs = refl
