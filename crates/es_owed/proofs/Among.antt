-- Sets of the same numbers.
use Rattle.std.proofs.Common.{◌≡◌, refl, ap, ◌∙◌, ℕ, List, [], ◌∷◌, ◌&&◌, ◌||◌}
use Rattle.es_base.specs.Numbered.{is_new}
use Rattle.es_steps.specs.KeptNodes.{are_new_or_among}
use Rattle.es_steps.specs.References.{has_number}

pub same_new_or_among : (first : ℕ) (ns ks ms : List ℕ) → ((n : ℕ) → has_number n ns ≡ has_number n ks) → are_new_or_among first ns ms ≡ are_new_or_among first ks ms
same_new_or_among first ns ks [] same = refl
same_new_or_among first ns ks (m ∷ ms) same =
    ap (λ b. (is_new first m || b) && are_new_or_among first ns ms) (same m)
    ∙ ap (λ b. (is_new first m || has_number m ks) && b) (same_new_or_among first ns ks ms same)
