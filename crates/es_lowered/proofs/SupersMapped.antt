-- Where `super` stands does not depend on numbers.
use Rattle.std.specs.Prelude.{◌≡◌, ℕ, suc, false, cond, not, ◌&&◌, ◌||◌, nat_eq}
use Rattle.std.proofs.Common.{refl, ap, ap₂, ◌∙◌}
use Rattle.es_base.specs.Tree.{Tree, Part, Parts, Node, end, more, child, list}
use Rattle.es_base.specs.declared.kind.Kind.{Kind}
use Rattle.es_lowered.specs.Supers.{SuperPlace, no_place, in_no_method, in_method, in_class, is_stray_super, super_inside, has_stray_super, stray_super_at, stray_super_in, stray_super_of, supers_stay}
use Rattle.es_steps.specs.Context.{is_constructor}
use Rattle.es_steps.specs.Parts.{at}
use Rattle.es_steps.specs.Printable.{is_accessor}
use Rattle.es_steps.proofs.Mapped.{mapped, mapped_part, mapped_parts}
use Rattle.es_steps.proofs.PrintableMapped.{is_super_part-mapped}
use Rattle.es_steps.proofs.PartsMapped.{at-mapped, string_at-mapped, is_true_at-mapped, is_present_at-mapped}

module _ (f : ℕ → ℕ) where
  is_stray_super-mapped : (x : SuperPlace) (kind : Kind) (ps : Parts) → is_stray_super x kind (mapped_parts f ps) ≡ is_stray_super x kind ps
  is_stray_super-mapped x Kind.CallExpression ps = rw (at-mapped f 0 ps, is_super_part-mapped f (at 0 ps)) refl
  is_stray_super-mapped x Kind.MemberExpression ps = rw (at-mapped f 0 ps, is_super_part-mapped f (at 0 ps)) refl
  is_stray_super-mapped x kind ps = refl

  super_inside-mapped : (x : SuperPlace) (kind : Kind) (ps : Parts) → super_inside x kind (mapped_parts f ps) ≡ super_inside x kind ps
  super_inside-mapped x Kind.MethodDefinition ps = ap (λ s i. cond (nat_eq i 1) (in_method (is_constructor s && x.has_heritage) x) (in_no_method x)) (string_at-mapped f 2 ps)
  super_inside-mapped x Kind.Property ps =
      ap₂ (λ b s i. cond (nat_eq i 1 && (b || is_accessor s)) (in_method false x) (in_no_method x)) (is_true_at-mapped f 3 ps) (string_at-mapped f 2 ps)
  super_inside-mapped x Kind.ClassDeclaration ps = ap (λ b i. cond (nat_eq i 2) (in_class b x) (in_no_method x)) (is_present_at-mapped f 1 ps)
  super_inside-mapped x Kind.ClassExpression ps = ap (λ b i. cond (nat_eq i 2) (in_class b x) (in_no_method x)) (is_present_at-mapped f 1 ps)
  super_inside-mapped x kind ps = refl

  mutual
    has_stray_super-mapped : (x : SuperPlace) (t : Tree) → has_stray_super x (mapped f t) ≡ has_stray_super x t
    has_stray_super-mapped x (Node kind m span semantic_id ps) =
        ap₂ (λ a b. a || b) (is_stray_super-mapped x kind ps) (ap (λ y. stray_super_in y (mapped_parts f ps)) (super_inside-mapped x kind ps) ∙ stray_super_in-mapped (super_inside x kind ps) ps)

    stray_super_at-mapped : (x : SuperPlace) (p : Part) → stray_super_at x (mapped_part f p) ≡ stray_super_at x p
    stray_super_at-mapped x (child t) = has_stray_super-mapped x t
    stray_super_at-mapped x (list ps) = stray_super_of-mapped x ps
    stray_super_at-mapped x p = refl

    stray_super_in-mapped : (x : ℕ → SuperPlace) (ps : Parts) → stray_super_in x (mapped_parts f ps) ≡ stray_super_in x ps
    stray_super_in-mapped x end = refl
    stray_super_in-mapped x (more p ps) = ap₂ (λ a b. a || b) (stray_super_at-mapped (x 0) p) (stray_super_in-mapped (λ i. x (suc i)) ps)

    stray_super_of-mapped : (x : SuperPlace) (ps : Parts) → stray_super_of x (mapped_parts f ps) ≡ stray_super_of x ps
    stray_super_of-mapped x end = refl
    stray_super_of-mapped x (more p ps) = ap₂ (λ a b. a || b) (stray_super_at-mapped x p) (stray_super_of-mapped x ps)

  pub supers_stay-mapped : (p q : Tree) → supers_stay (mapped f p) (mapped f q) ≡ supers_stay p q
  supers_stay-mapped p q = ap₂ (λ a b. a || not b) (has_stray_super-mapped no_place p) (has_stray_super-mapped no_place q)
