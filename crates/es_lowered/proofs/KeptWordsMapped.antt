-- What a node says by itself does not depend on numbers.
use Rattle.std.specs.Prelude.{◌≡◌, ℕ, suc, Bool, ◌&&◌, ◌||◌}
use Rattle.std.proofs.Common.{refl, ap, ap₂, ◌∙◌}
use Rattle.es_base.specs.Tree.{Tree, Part, Parts, Node, end, more, child, list}
use Rattle.es_base.specs.declared.kind.Kind.{Kind}
use Rattle.es_lowered.specs.KeptWords.{is_this_name, same_name, same_word, same_words, is_free, keeps_computed, keeps_value, keeps_words}
use Rattle.es_lowered.proofs.HelperCallsMapped.{is_number_at-mapped}
use Rattle.es_steps.specs.Parts.{at, string_of}
use Rattle.es_steps.specs.Values.{String}
use Rattle.es_steps.proofs.Mapped.{mapped, mapped_part, mapped_parts}
use Rattle.es_steps.proofs.PartsMapped.{at-mapped, is_present_at-mapped, is_true_at-mapped, string_at-mapped}

module _ (f : ℕ → ℕ) where
  is_this_name-mapped : (s : String) (t : Tree) → is_this_name s (mapped f t) ≡ is_this_name s t
  is_this_name-mapped s (Node Kind.IdentifierName m span semantic_id ps) = rw (string_at-mapped f 0 ps) refl
  is_this_name-mapped s t = refl

  same_name-mapped : (t u : Tree) → same_name (mapped f t) (mapped f u) ≡ same_name t u
  same_name-mapped (Node Kind.IdentifierName m span semantic_id ps) u = ap (λ s. is_this_name s (mapped f u)) (string_at-mapped f 0 ps) ∙ is_this_name-mapped (string_of (at 0 ps)) u
  same_name-mapped t u = refl

  same_word-mapped : (p q : Part) → same_word (mapped_part f p) (mapped_part f q) ≡ same_word p q
  same_word-mapped (child t) (child u) = same_name-mapped t u
  same_word-mapped (child t) q = refl
  same_word-mapped p (child u) = refl
  same_word-mapped (list ps) (list qs) = refl
  same_word-mapped (list ps) q = refl
  same_word-mapped p (list qs) = refl
  same_word-mapped p q = refl

  same_words-mapped : (free : ℕ → Bool) (ps qs : Parts) → same_words free (mapped_parts f ps) (mapped_parts f qs) ≡ same_words free ps qs
  same_words-mapped free end end = refl
  same_words-mapped free (more p ps) (more q qs) = ap₂ (λ a b. (free 0 || a) && b) (same_word-mapped p q) (same_words-mapped (λ i. free (suc i)) ps qs)
  same_words-mapped free end (more q qs) = refl
  same_words-mapped free (more p ps) end = refl

  keeps_computed-mapped : (kind : Kind) (ps qs : Parts) → keeps_computed kind (mapped_parts f ps) (mapped_parts f qs) ≡ keeps_computed kind ps qs
  keeps_computed-mapped Kind.PropertyDefinition ps qs = rw (is_true_at-mapped f 2 ps, is_true_at-mapped f 2 qs) refl
  keeps_computed-mapped Kind.Property ps qs = rw (is_true_at-mapped f 5 ps, is_true_at-mapped f 5 qs, is_number_at-mapped f ps) refl
  keeps_computed-mapped kind ps qs = refl

  keeps_value-mapped : (kind : Kind) (ps qs : Parts) → keeps_value kind (mapped_parts f ps) (mapped_parts f qs) ≡ keeps_value kind ps qs
  keeps_value-mapped Kind.PropertyDefinition ps qs = rw (is_present_at-mapped f 1 ps, at-mapped f 1 ps, at-mapped f 1 qs, same_word-mapped (at 1 ps) (at 1 qs), is_true_at-mapped f 3 ps) refl
  keeps_value-mapped kind ps qs = refl

  pub keeps_words-mapped : (kind : Kind) (ps qs : Parts) → keeps_words kind (mapped_parts f ps) (mapped_parts f qs) ≡ keeps_words kind ps qs
  keeps_words-mapped kind ps qs = rw (same_words-mapped (is_free kind) ps qs, keeps_computed-mapped kind ps qs, keeps_value-mapped kind ps qs) refl
