-- Whether private names are declared does not depend on numbers.
use Rattle.std.specs.Prelude.{◌≡◌, ℕ, suc, List, [], not, ◌||◌, Option, Some, None}
use Rattle.std.proofs.Common.{refl, ap, ap₂, ◌∙◌}
use Rattle.es_base.specs.Tree.{Tree, Part, Parts, Node, end, more, child, list}
use Rattle.es_base.specs.declared.kind.Kind.{Kind}
use Rattle.es_lowered.specs.StrayNames.{is_undeclared, is_stray_name, seen_inside, has_stray_name, stray_name_at, stray_name_in, stray_name_of, private_names_stay}
use Rattle.es_steps.specs.Parts.{at, string_of}
use Rattle.es_steps.specs.PrivateNames.{PrivateMember, seen_members, declared_member}
use Rattle.es_steps.proofs.Mapped.{mapped, mapped_part, mapped_parts, mapped_option, mapped_private, mapped_privates}
use Rattle.es_steps.proofs.PartsMapped.{append-mapped, string_at-mapped}
use Rattle.es_steps.proofs.PrivatesMapped.{seen_members-mapped, declared_member-mapped}

module _ (f : ℕ → ℕ) where
  is_undeclared-mapped : (x : Option PrivateMember) → is_undeclared (mapped_option (mapped_private f) x) ≡ is_undeclared x
  is_undeclared-mapped None = refl
  is_undeclared-mapped (Some x) = refl

  is_stray_name-mapped : (seen : List PrivateMember) (kind : Kind) (ps : Parts) → is_stray_name (mapped_privates f seen) kind (mapped_parts f ps) ≡ is_stray_name seen kind ps
  is_stray_name-mapped seen Kind.PrivateIdentifier ps =
      rw (string_at-mapped f 0 ps, declared_member-mapped f (string_of (at 0 ps)) seen) (is_undeclared-mapped (declared_member (string_of (at 0 ps)) seen))
  is_stray_name-mapped seen kind ps = refl

  seen_inside-mapped : (seen : List PrivateMember) (kind : Kind) (m : ℕ) (ps : Parts) (i : ℕ) → seen_inside (mapped_privates f seen) kind (f m) (mapped_parts f ps) i ≡ mapped_privates f (seen_inside seen kind m ps i)
  seen_inside-mapped seen kind m ps i = append-mapped (mapped_private f) (seen_members kind m ps i) seen (seen_members-mapped f kind m ps i) refl

  mutual
    has_stray_name-mapped : (seen : List PrivateMember) (t : Tree) → has_stray_name (mapped_privates f seen) (mapped f t) ≡ has_stray_name seen t
    has_stray_name-mapped seen (Node kind m span semantic_id ps) =
        ap₂ (λ a b. a || b) (is_stray_name-mapped seen kind ps) (stray_name_in-mapped (seen_inside (mapped_privates f seen) kind (f m) (mapped_parts f ps)) (seen_inside seen kind m ps) (seen_inside-mapped seen kind m ps) ps)

    stray_name_at-mapped : (seen : List PrivateMember) (p : Part) → stray_name_at (mapped_privates f seen) (mapped_part f p) ≡ stray_name_at seen p
    stray_name_at-mapped seen (child t) = has_stray_name-mapped seen t
    stray_name_at-mapped seen (list ps) = stray_name_of-mapped seen ps
    stray_name_at-mapped seen p = refl

    stray_name_in-mapped : (there here : ℕ → List PrivateMember) → ((i : ℕ) → there i ≡ mapped_privates f (here i)) → (ps : Parts) → stray_name_in there (mapped_parts f ps) ≡ stray_name_in here ps
    stray_name_in-mapped there here same end = refl
    stray_name_in-mapped there here same (more p ps) =
        ap₂ (λ a b. a || b) (ap (λ seen. stray_name_at seen (mapped_part f p)) (same 0) ∙ stray_name_at-mapped (here 0) p)
        (stray_name_in-mapped (λ i. there (suc i)) (λ i. here (suc i)) (λ i. same (suc i)) ps)

    stray_name_of-mapped : (seen : List PrivateMember) (ps : Parts) → stray_name_of (mapped_privates f seen) (mapped_parts f ps) ≡ stray_name_of seen ps
    stray_name_of-mapped seen end = refl
    stray_name_of-mapped seen (more p ps) = ap₂ (λ a b. a || b) (stray_name_at-mapped seen p) (stray_name_of-mapped seen ps)

  pub private_names_stay-mapped : (p q : Tree) → private_names_stay (mapped f p) (mapped f q) ≡ private_names_stay p q
  private_names_stay-mapped p q = ap₂ (λ a b. a || not b) (has_stray_name-mapped [] p) (has_stray_name-mapped [] q)
