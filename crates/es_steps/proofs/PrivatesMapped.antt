-- Private members and what private names mean follow a change of numbers.
use Rattle.std.specs.Prelude.{◌≡◌, ℕ, List, [], ◌∷◌, Bool, true, false, ◌&&◌, bytes_eq, nat_eq, Option, Some, None}
use Rattle.std.proofs.Common.{refl, ap, ◌∙◌}
use Rattle.es_base.specs.Tree.{Part, Parts, Node, end, more, child}
use Rattle.es_base.specs.declared.kind.Kind.{Kind}
use Rattle.es_steps.specs.Parts.{at, items, string_of, is_true}
use Rattle.es_steps.specs.PrivateNames.{PrivateKind, a_field, PrivateMember, method_kind, keyed_member, element_members, elements_members, body_members, is_class, members_at, seen_members, member_at, PrivateReference, is_read, is_written, first_number, declared_member, reference_to, private_reference, one_side, reference_of, field_test, test_of}
use Rattle.es_steps.specs.Values.{String}
use Rattle.es_steps.proofs.Mapped.{Renames, mapped_part, mapped_parts, mapped_option, mapped_private, mapped_privates, mapped_private_reference, mapped_test}
use Rattle.es_steps.proofs.PartsMapped.{cond-mapped, append-mapped, at-mapped, items_at-mapped, string_at-mapped, is_true_at-mapped}

module _ (f : ℕ → ℕ) where
  keyed_member-mapped : (n : ℕ) (is_static : Bool) (kind : PrivateKind) (p : Part) → keyed_member (f n) is_static kind (mapped_part f p) ≡ mapped_privates f (keyed_member n is_static kind p)
  keyed_member-mapped n is_static kind (child (Node Kind.PrivateIdentifier d span semantic_id ps)) = rw (string_at-mapped f 0 ps) refl
  keyed_member-mapped n is_static kind p = refl

  element_members-mapped : (n : ℕ) (p : Part) → element_members (f n) (mapped_part f p) ≡ mapped_privates f (element_members n p)
  element_members-mapped n (child (Node Kind.PropertyDefinition m span semantic_id ps)) = rw (is_true_at-mapped f 3 ps, at-mapped f 0 ps) (keyed_member-mapped n (is_true (at 3 ps)) a_field (at 0 ps))
  element_members-mapped n (child (Node Kind.MethodDefinition m span semantic_id ps)) = rw (is_true_at-mapped f 4 ps, string_at-mapped f 2 ps, at-mapped f 0 ps) (keyed_member-mapped n (is_true (at 4 ps)) (method_kind (string_of (at 2 ps))) (at 0 ps))
  element_members-mapped n p = refl

  elements_members-mapped : (n : ℕ) (ps : Parts) → elements_members (f n) (mapped_parts f ps) ≡ mapped_privates f (elements_members n ps)
  elements_members-mapped n end = refl
  elements_members-mapped n (more p ps) = append-mapped (mapped_private f) _ _ (element_members-mapped n p) (elements_members-mapped n ps)

  body_members-mapped : (n : ℕ) (p : Part) → body_members (f n) (mapped_part f p) ≡ mapped_privates f (body_members n p)
  body_members-mapped n (child (Node Kind.ClassBody m span semantic_id ps)) = rw (items_at-mapped f 0 ps) (elements_members-mapped n (items (at 0 ps)))
  body_members-mapped n p = refl

  pub members_at-mapped : (kind : Kind) (m : ℕ) (ps : Parts) → members_at kind (f m) (mapped_parts f ps) ≡ mapped_privates f (members_at kind m ps)
  members_at-mapped kind m ps = cond-mapped (mapped_privates f) (is_class kind) _ [] (rw (at-mapped f 2 ps) (body_members-mapped m (at 2 ps))) refl

  pub seen_members-mapped : (kind : Kind) (m : ℕ) (ps : Parts) (i : ℕ) → seen_members kind (f m) (mapped_parts f ps) i ≡ mapped_privates f (seen_members kind m ps i)
  seen_members-mapped kind m ps i = cond-mapped (mapped_privates f) (nat_eq i 2) _ [] (members_at-mapped kind m ps) refl

  one_side-mapped : (b : Bool) (d : ℕ) → one_side b (f d) ≡ mapped_option f (one_side b d)
  one_side-mapped true d = refl
  one_side-mapped false d = refl

  pub reference_of-mapped : (x : PrivateMember) → reference_of (mapped_private f x) ≡ mapped_private_reference f (reference_of x)
  reference_of-mapped x = rw (one_side-mapped (is_read x.kind) x.number, one_side-mapped (is_written x.kind) x.number) refl

  pub field_test-mapped : (x : PrivateReference) (d : Option ℕ) → field_test (mapped_private_reference f x) (mapped_option f d) ≡ mapped_test f (field_test x d)
  field_test-mapped x None = refl
  field_test-mapped x (Some d) = refl

  pub test_of-mapped : (x : PrivateReference) → test_of (mapped_private_reference f x) ≡ mapped_test f (test_of x)
  test_of-mapped x = cond-mapped (mapped_test f) x.is_static _ _ refl (cond-mapped (mapped_test f) x.is_field _ _ (field_test-mapped x x.reads) refl)

  pub declared_member-mapped : (s : String) (xs : List PrivateMember) → declared_member s (mapped_privates f xs) ≡ mapped_option (mapped_private f) (declared_member s xs)
  declared_member-mapped s [] = refl
  declared_member-mapped s (x ∷ xs) = cond-mapped (mapped_option (mapped_private f)) (bytes_eq s x.spelling) (Some x) _ refl (declared_member-mapped s xs)

module _ {first : ℕ} {f : ℕ → ℕ} (r : Renames first f) where
  pub member_at-mapped : (d : ℕ) (xs : List PrivateMember) → member_at (f d) (mapped_privates f xs) ≡ mapped_option (mapped_private f) (member_at d xs)
  member_at-mapped d [] = refl
  member_at-mapped d (x ∷ xs) = rw (r.apart d x.number) (cond-mapped (mapped_option (mapped_private f)) (nat_eq d x.number) (Some x) _ refl (member_at-mapped d xs))

  first_number-mapped : (side : PrivateKind → Bool) (s : String) (n : ℕ) (xs : List PrivateMember) → first_number side s (f n) (mapped_privates f xs) ≡ mapped_option f (first_number side s n xs)
  first_number-mapped side s n [] = refl
  first_number-mapped side s n (x ∷ xs) = rw (r.apart n x.class) (cond-mapped (mapped_option f) (side x.kind && (nat_eq n x.class && bytes_eq s x.spelling)) (Some x.number) _ refl (first_number-mapped side s n xs))

  reference_to-mapped : (s : String) (seen : List PrivateMember) (x : Option PrivateMember) → reference_to s (mapped_privates f seen) (mapped_option (mapped_private f) x) ≡ mapped_option (mapped_private_reference f) (reference_to s seen x)
  reference_to-mapped s seen None = refl
  reference_to-mapped s seen (Some x) = rw (first_number-mapped is_read s x.class seen, first_number-mapped is_written s x.class seen) refl

  pub private_reference-mapped : (s : String) (seen : List PrivateMember) → private_reference s (mapped_privates f seen) ≡ mapped_option (mapped_private_reference f) (private_reference s seen)
  private_reference-mapped s seen = ap (reference_to s (mapped_privates f seen)) (declared_member-mapped f s seen) ∙ reference_to-mapped s seen (declared_member s seen)
