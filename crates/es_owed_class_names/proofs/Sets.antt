-- Sets of numbers in the place of lists.
use Rattle.std.proofs.Common.{◌≡◌, refl, sym, ap, ◌∙◌, ℕ, ◌<◌, List, [], ◌∷◌, ◌++◌, length, get_or, true, cond}
use Rattle.std.proofs.lemmas.List.Folds.{list_any_at}
use Rattle.std.specs.Prelude.{nat_eq}
use Rattle.es_binding_faults.proofs.HasNumbers.{contained}
use Rattle.es_lowered.specs.ClassNames.{common, without}
use Rattle.es_steps.proofs.Reflexive.{number-same}
use Rattle.es_steps.specs.References.{has_number}

pub same_common : (ns ks ms : List ℕ) → ((n : ℕ) → has_number n ns ≡ has_number n ks) → common ns ms ≡ common ks ms
same_common ns ks [] same = refl
same_common ns ks (m ∷ ms) same = ap (λ b. cond b (m ∷ []) [] ++ common ns ms) (same m) ∙ ap (λ rs. cond (has_number m ks) (m ∷ []) [] ++ rs) (same_common ns ks ms same)

pub same_without : (ns ks ms : List ℕ) → ((n : ℕ) → has_number n ns ≡ has_number n ks) → without ns ms ≡ without ks ms
same_without ns ks [] same = refl
same_without ns ks (m ∷ ms) same = ap (λ b. cond b [] (m ∷ []) ++ without ns ms) (same m) ∙ ap (λ rs. cond (has_number m ks) [] (m ∷ []) ++ rs) (same_without ns ks ms same)

pub one_among : (ns : List ℕ) (i d n : ℕ) → i < length ns → n ≡ get_or ns i d → has_number n ns ≡ true
one_among ns i d n below is = sym (contained n ns) ∙ list_any_at (nat_eq n) ns i d below (ap (λ k. nat_eq n k) (sym is) ∙ number-same n)
