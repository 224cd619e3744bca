-- References are looked up by their numbers.
use Rattle.std.proofs.Common.{◌≡◌, refl, ap, ℕ, List, [], ◌∷◌, ◌++◌, map, Bool, true, false, cond, ◌&&◌, ◌||◌, nat_eq}
use Rattle.es_grouped.specs.Groups.{having}
use Rattle.es_lowered.specs.ClassNames.{is_written_at}
use Rattle.es_referents.specs.Meanings.{any_writes, first_of, of_number, referent_in}
use Rattle.es_references.specs.References.{references_of}
use Rattle.es_references.specs.declared.references.Reference.{Reference}
use Rattle.es_steps.specs.LoweredClasses.{referent_of}

pub by_numbers : (m : ℕ) (rs : List Reference) → having m (map (λ (r : Reference). (r.node.0, r)) rs) ≡ of_number m rs
by_numbers m [] = refl
by_numbers m (r ∷ rs) = ap (λ xs. cond (nat_eq m r.node.0) (r ∷ []) [] ++ xs) (by_numbers m rs)

pub first_at : (m : ℕ) (rs : List Reference) → referent_in (first_of (of_number m rs)) ≡ referent_of m (references_of rs)
first_at m [] = refl
first_at m (r ∷ rs) = here (nat_eq m r.node.0) (first_at m rs)
  where
    here : (b : Bool) → referent_in (first_of (of_number m rs)) ≡ referent_of m (references_of rs)
        → referent_in (first_of (cond b (r ∷ []) [] ++ of_number m rs)) ≡ cond b (referent_in (first_of (r ∷ []))) (referent_of m (references_of rs))
    here true h = refl
    here false h = h

pub writes_at : (m : ℕ) (rs : List Reference) → any_writes (of_number m rs) ≡ is_written_at m (references_of rs)
writes_at m [] = refl
writes_at m (r ∷ rs) = here (nat_eq m r.node.0) (writes_at m rs)
  where
    here : (b : Bool) → any_writes (of_number m rs) ≡ is_written_at m (references_of rs)
        → any_writes (cond b (r ∷ []) [] ++ of_number m rs) ≡ ((b && r.writes) || is_written_at m (references_of rs))
    here true h = ap (λ b. r.writes || b) h
    here false h = h
