-- That what a module exports as default is there before what stood behind it does not depend on numbers.
use Rattle.std.specs.Prelude.{◌≡◌, ℕ, [], map, Bool, ◌||◌}
use Rattle.std.proofs.Common.{refl, ap₂}
use Rattle.es_base.specs.Tree.{Tree, Part, Parts, Node, end, more, child}
use Rattle.es_base.specs.declared.kind.Kind.{Kind}
use Rattle.es_lowered.specs.DefaultExport.{running_here, is_default, declares_default, holds, running_up_to, up_to, default_stays}
use Rattle.es_steps.specs.Meaning.{body_of}
use Rattle.es_lowered.proofs.ClassNamesMapped.{numbers_of_part-mapped}
use Rattle.es_steps.proofs.KeptNodesMapped.{are_new_or_among-mapped}
use Rattle.es_steps.proofs.Mapped.{Renames, mapped, mapped_part, mapped_parts}
use Rattle.es_steps.proofs.MeaningMapped.{body_of-mapped}
use Rattle.es_steps.proofs.PartsMapped.{cond-mapped, append-mapped}

module _ (f : ℕ → ℕ) where
  running_here-mapped : (p : Part) → running_here (mapped_part f p) ≡ map f (running_here p)
  running_here-mapped (child (Node Kind.FunctionDeclaration m span semantic_id ps)) = refl
  running_here-mapped p = numbers_of_part-mapped f p

  is_default-mapped : (p : Part) → is_default (mapped_part f p) ≡ is_default p
  is_default-mapped (child (Node Kind.ExportDefaultDeclaration m span semantic_id ps)) = refl
  is_default-mapped p = refl

  declares_default-mapped : (p : Part) → declares_default (mapped_part f p) ≡ declares_default p
  declares_default-mapped (child (Node Kind.ExportDefaultDeclaration m span semantic_id (more (child (Node Kind.ClassDeclaration n nspan n_semantic_id ps)) rest))) = refl
  declares_default-mapped (child (Node Kind.ExportDefaultDeclaration m span semantic_id (more (child (Node Kind.FunctionDeclaration n nspan n_semantic_id ps)) rest))) = refl
  declares_default-mapped p = refl

  holds-mapped : (is_it : Part → Bool) → ((p : Part) → is_it (mapped_part f p) ≡ is_it p) → (ps : Parts) → holds is_it (mapped_parts f ps) ≡ holds is_it ps
  holds-mapped is_it found end = refl
  holds-mapped is_it found (more p ps) = ap₂ (λ a b. a || b) (found p) (holds-mapped is_it found ps)

  running_up_to-mapped : (ps : Parts) → running_up_to (mapped_parts f ps) ≡ map f (running_up_to ps)
  running_up_to-mapped end = refl
  running_up_to-mapped (more p ps) = append-mapped f _ _ (running_here-mapped p) (rw (is_default-mapped p) (cond-mapped (map f) (is_default p) [] (running_up_to ps) refl (running_up_to-mapped ps)))

  up_to-mapped : (ps : Parts) → up_to (mapped_parts f ps) ≡ map f (up_to ps)
  up_to-mapped end = refl
  up_to-mapped (more p ps) = append-mapped f _ _ (numbers_of_part-mapped f p) (rw (is_default-mapped p) (cond-mapped (map f) (is_default p) [] (up_to ps) refl (up_to-mapped ps)))

pub default_stays-mapped : {first : ℕ} {f : ℕ → ℕ} → Renames first f → (p q : Tree) → default_stays first (mapped f p) (mapped f q) ≡ default_stays first p q
default_stays-mapped {f = f} r p q =
    rw (body_of-mapped f p, body_of-mapped f q, holds-mapped f is_default (is_default-mapped f) (body_of q), holds-mapped f is_default (is_default-mapped f) (body_of p), holds-mapped f declares_default (declares_default-mapped f) (body_of p), up_to-mapped f (body_of p), running_up_to-mapped f (body_of q), are_new_or_among-mapped r (up_to (body_of p)) (running_up_to (body_of q))) refl
