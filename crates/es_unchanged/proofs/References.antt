-- In a program that is left as it is names are read and written where they are.
use Rattle.std.specs.Prelude.{◌≡◌, ℕ, List, [], ◌∷◌, ◌++◌, Bool, true, false, cond, not, ◌||◌, nat_eq}
use Rattle.std.proofs.Common.{refl}
use Rattle.es_base.specs.Preorder.{preorder}
use Rattle.es_base.specs.Tree.{Tree}
use Rattle.es_left.proofs.Booleans.{both}
use Rattle.es_steps.proofs.Reflexive.{number-same}
use Rattle.es_lowered.specs.FunctionsAround.{PlacedReference}
use Rattle.es_lowered.specs.KeptReferences.{plain_targets, writing_numbers, writes_fit, inner_references, references_stay}
use Rattle.es_lowered.specs.StrayNames.{has_stray_name}
use Rattle.es_lowered.specs.Supers.{no_place, has_stray_super}
use Rattle.es_steps.specs.References.{Reference, resolve, has_number}
use Rattle.es_steps.specs.declared.options.Options.{Options}
use Rattle.es_unchanged.proofs.ClassLets.{class_lets-fit}
use Rattle.es_unchanged.proofs.ClassNames.{classes-timely}
use Rattle.es_unchanged.proofs.DeadZones.{dead_zones-stay}
use Rattle.es_unchanged.proofs.HeadValues.{head_values-stay}
use Rattle.es_unchanged.proofs.DefaultExport.{default-stays}
use Rattle.es_unchanged.proofs.Placed.{stand-where}
use Rattle.es_unchanged.proofs.Standing.{or_right}

-- old are numbers of references that write
writes-own : (first : ℕ) (targets old : List ℕ) (rs : List Reference) → ((m : ℕ) → has_number m (writing_numbers rs) ≡ true → has_number m old ≡ true) → writes_fit first [] targets old rs ≡ true
writes-own first targets old [] h = refl
writes-own first targets old (r ∷ rs) h = both (own r.writes refl) (writes-own first targets old rs (λ m i. h m (behind r.writes m i)))
  where
    own : (b : Bool) → r.writes ≡ b → (not b || has_number r.number old) ≡ true
    own true e = h r.number (rw (e, number-same r.number) refl)
    own false e = refl

    behind : (b : Bool) (m : ℕ) → has_number m (writing_numbers rs) ≡ true → has_number m (cond b (r.number ∷ []) [] ++ writing_numbers rs) ≡ true
    behind true m i = or_right (nat_eq m r.number) (has_number m (writing_numbers rs)) i
    behind false m i = i

none-comes : (b : Bool) → (b || not b) ≡ true
none-comes true = refl
none-comes false = refl

pub references-stay : (first : ℕ) (o : Options) (t : Tree) → references_stay first o [] t t ≡ true
references-stay first o t =
    let inner : List PlacedReference = inner_references first (preorder t) t in
    both (both (classes-timely first t) (both (none-comes (has_stray_super no_place t)) (none-comes (has_stray_name [] t)))) (both (writes-own first (plain_targets (preorder t)) (writing_numbers (resolve t)) (resolve t) (λ m i. i)) (both (stand-where first inner inner (λ r i. i)) (both (default-stays first t) (both (class_lets-fit first (preorder t) t (λ u i. i)) (both (dead_zones-stay first o t) (head_values-stay (resolve t) (preorder t)))))))
