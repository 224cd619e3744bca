-- Which computed keys are what they were does not depend on numbers.
use Rattle.std.specs.Prelude.{◌≡◌, ℕ, List, [], ◌∷◌, map, ◌&&◌, ◌||◌, nat_eq, Option, Some, None}
use Rattle.std.proofs.Common.{refl, ap, ap₂, ◌∙◌}
use Rattle.es_base.specs.Preorder.{preorder}
use Rattle.es_base.specs.Tree.{Tree}
use Rattle.es_lowered.specs.HelperCalls.{computed_keys}
use Rattle.es_lowered.specs.KeptKeys.{means_the_same, names_one_class, which_stay, keys_that_stay}
use Rattle.es_lowered.specs.ClassNames.{class_numbers, naming, naming_in_source}
use Rattle.es_lowered.specs.Definitions.{class_identifiers}
use Rattle.es_lowered.proofs.ClassNamesMapped.{class_numbers-mapped, naming_in-mapped}
use Rattle.es_base.specs.declared.ledger.LedgerEntry.{LedgerEntry}
use Rattle.es_lowered.proofs.HelperCallsMapped.{all_computed_keys-mapped}
use Rattle.es_steps.specs.LoweredClasses.{referent_of}
use Rattle.es_steps.specs.References.{Reference, resolve, has_number}
use Rattle.es_steps.specs.Values.{Referent, Bound, Free}
use Rattle.es_steps.proofs.KeptNodesMapped.{referent_of-mapped}
use Rattle.es_steps.proofs.Mapped.{Renames, mapped, mapped_option, mapped_referent, mapped_reference, mapped_ledger}
use Rattle.es_steps.proofs.PartsMapped.{cond-mapped, append-mapped, preorder-mapped}
use Rattle.es_steps.proofs.ReferencesMapped.{resolve-mapped, has_number-mapped}

means_the_same-mapped : (f : ℕ → ℕ) (one : (a b : ℕ) → nat_eq (f a) (f b) ≡ nat_eq a b) (a b : Option Referent) → means_the_same (mapped_option (mapped_referent f) a) (mapped_option (mapped_referent f) b) ≡ means_the_same a b
means_the_same-mapped f one None None = refl
means_the_same-mapped f one None (Some (Bound c)) = refl
means_the_same-mapped f one None (Some (Free t)) = refl
means_the_same-mapped f one (Some (Bound b)) (Some (Bound c)) = one b c
means_the_same-mapped f one (Some (Bound b)) (Some (Free t)) = refl
means_the_same-mapped f one (Some (Bound b)) None = refl
means_the_same-mapped f one (Some (Free s)) (Some (Bound c)) = refl
means_the_same-mapped f one (Some (Free s)) (Some (Free t)) = refl
means_the_same-mapped f one (Some (Free s)) None = refl

module _ {first : ℕ} {f : ℕ → ℕ} (r : Renames first f) (ledger : List LedgerEntry) (p q : Tree) where
  names_one_class-mapped : (ns : List ℕ) (m : ℕ) → names_one_class first (mapped_ledger f ledger) (mapped f p) (mapped f q) (map f ns) (f m) ≡ names_one_class first ledger p q ns m
  names_one_class-mapped [] m = refl
  names_one_class-mapped (n ∷ ns) m =
      ap₂ (λ a b. a || b)
      (ap₂ (λ a b. a && b)
      (ap (has_number (f m)) (naming_in-mapped r n [] p) ∙ has_number-mapped r m (naming_in_source first n p))
      (ap (has_number (f m)) (naming_in-mapped r n ledger q) ∙ has_number-mapped r m (naming n ledger (resolve q) (class_identifiers first n (preorder q)) (preorder q))))
      (names_one_class-mapped ns m)

  which_stay-mapped : (ps qs : List Reference) (ns : List ℕ) → which_stay first (mapped_ledger f ledger) (mapped f p) (mapped f q) (map (mapped_reference f) ps) (map (mapped_reference f) qs) (map f ns) ≡ map f (which_stay first ledger p q ps qs ns)
  which_stay-mapped ps qs [] = refl
  which_stay-mapped ps qs (n ∷ ns) =
      append-mapped f _ _
      (rw (referent_of-mapped r n ps, referent_of-mapped r n qs, means_the_same-mapped f r.apart (referent_of n ps) (referent_of n qs), preorder-mapped f p, class_numbers-mapped f (preorder p), names_one_class-mapped (class_numbers (preorder p)) n)
      (cond-mapped (map f) (means_the_same (referent_of n ps) (referent_of n qs) || names_one_class first ledger p q (class_numbers (preorder p)) n) (n ∷ []) [] refl refl))
      (which_stay-mapped ps qs ns)

  pub keys_that_stay-mapped : keys_that_stay first (mapped_ledger f ledger) (mapped f p) (mapped f q) ≡ map f (keys_that_stay first ledger p q)
  keys_that_stay-mapped =
      rw (resolve-mapped f p, resolve-mapped f q, all_computed_keys-mapped f p) (which_stay-mapped (resolve p) (resolve q) (computed_keys (preorder p)))
