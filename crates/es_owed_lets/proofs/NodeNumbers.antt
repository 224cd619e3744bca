-- Numbers of nodes among others.
use Rattle.std.proofs.Common.{◌≡◌, refl, ap, ◌∙◌, ℕ, List, [], ◌∷◌, ◌++◌, ◌&&◌, ◌||◌}
use Rattle.es_base.specs.Numbered.{is_new}
use Rattle.es_base.specs.Preorder.{number_of}
use Rattle.es_base.specs.Tree.{Tree}
use Rattle.es_lowered.specs.ClassNames.{numbers_of}
use Rattle.es_steps.specs.KeptNodes.{are_new_or_among}
use Rattle.es_steps.specs.References.{has_number}

pub numbers_both : (ts us : List Tree) → numbers_of (ts ++ us) ≡ numbers_of ts ++ numbers_of us
numbers_both [] us = refl
numbers_both (t ∷ ts) us = ap (λ ns. number_of t ∷ ns) (numbers_both ts us)

-- sets of the same numbers
pub same_new : (first : ℕ) (ns ks ms : List ℕ) → ((n : ℕ) → has_number n ns ≡ has_number n ks) → are_new_or_among first ns ms ≡ are_new_or_among first ks ms
same_new first ns ks [] same = refl
same_new first ns ks (m ∷ ms) same = ap (λ b. (is_new first m || b) && are_new_or_among first ns ms) (same m) ∙ ap (λ b. (is_new first m || has_number m ks) && b) (same_new first ns ks ms same)
