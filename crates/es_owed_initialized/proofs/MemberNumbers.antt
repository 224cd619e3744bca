-- A member is found by its key, and a private method of instances by its class.
use Rattle.std.proofs.Common.{◌≡◌, refl, sym, ap, ◌∙◌, ℕ, List, [], ◌∷◌, ◌++◌, Bool, true, false, cond, ◌&&◌, ◌||◌, nat_eq, Some}
use Rattle.std.proofs.Math.Bool.{and-false}
use Rattle.es_grouped.specs.Groups.{having}
use Rattle.es_lowered.specs.Lowered.{has_branded}
use Rattle.es_owed_initialized.specs.Members.{is_branded, numbered_branded, numbered_members}
use Rattle.es_seen_names.specs.PrivateMembers.{private_member_of, private_members_of}
use Rattle.es_seen_names.specs.declared.private_member.PrivateMember.{PrivateMember}
use Rattle.es_steps.specs.PrivateNames.{member_at}

pub member_by_key : (d : ℕ) (xs : List PrivateMember) → member_at d (private_members_of (having d (numbered_members xs))) ≡ member_at d (private_members_of xs)
member_by_key d [] = refl
member_by_key d (x ∷ xs) = here (nat_eq d x.node) refl (member_by_key d xs)
  where
    rest : List PrivateMember
    rest = having d (numbered_members xs)

    here : (b : Bool) → nat_eq d x.node ≡ b → member_at d (private_members_of rest) ≡ member_at d (private_members_of xs)
        → member_at d (private_members_of (cond b (x ∷ []) [] ++ rest)) ≡ cond b (Some (private_member_of x)) (member_at d (private_members_of xs))
    here true is h = ap (λ b. cond b (Some (private_member_of x)) (member_at d (private_members_of rest))) is
    here false is h = h

pub branded_by_class : (n : ℕ) (xs : List PrivateMember) → has_branded n (private_members_of (having n (numbered_branded xs))) ≡ has_branded n (private_members_of xs)
branded_by_class n [] = refl
branded_by_class n (x ∷ xs) = here (is_branded x) refl (branded_by_class n xs)
  where
    rest : List PrivateMember
    rest = having n (numbered_branded xs)

    others : Bool
    others = has_branded n (private_members_of xs)

    of_class : (b : Bool) → nat_eq n x.class ≡ b → has_branded n (private_members_of rest) ≡ others
        → has_branded n (private_members_of (cond b (x ∷ []) [] ++ rest)) ≡ ((b && is_branded x) || others)
    of_class true is h = ap (λ b. (b && is_branded x) || has_branded n (private_members_of rest)) is ∙ ap (λ b. is_branded x || b) h
    of_class false is h = h

    here : (a : Bool) → is_branded x ≡ a → has_branded n (private_members_of rest) ≡ others
        → has_branded n (private_members_of (having n (cond a ((x.class, x) ∷ []) [] ++ numbered_branded xs))) ≡ ((nat_eq n x.class && is_branded x) || others)
    here true is h = of_class (nat_eq n x.class) refl h
    here false is h = h ∙ sym (ap (λ b. (nat_eq n x.class && b) || others) is ∙ ap (λ b. b || others) (and-false (nat_eq n x.class)))
