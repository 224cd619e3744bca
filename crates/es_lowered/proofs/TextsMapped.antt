-- That literals and strings of templates have their texts, under a change of numbers.
use Rattle.std.specs.Prelude.{not, ◌≡◌, ℕ, List, [], ◌∷◌, map, Bool, ◌&&◌, ◌||◌}
use Rattle.std.proofs.Common.{refl, ap, ap₂, ◌∙◌}
use Rattle.es_base.specs.Preorder.{preorder}
use Rattle.es_base.specs.Tree.{Tree, Part, Parts, Node, end, more, string, literal}
use Rattle.es_base.specs.declared.kind.Kind.{Kind}
use Rattle.es_steps.specs.Parts.{at, string_of}
use Rattle.es_lowered.specs.Texts.{is_plain, is_not_copied, has_name, is_character_among, are_characters, is_beginning_among, is_beginning, is_new_name, has_characters, is_literal_among, is_string_among, has_its_text, all_have_their_texts, texts_stay}
use Rattle.es_steps.proofs.KeptNodesMapped.{same_parts-mapped, stands_equal-mapped}
use Rattle.es_steps.proofs.Mapped.{Renames, mapped, mapped_part, mapped_parts}
use Rattle.es_steps.proofs.PartsMapped.{at-mapped, string_at-mapped, preorder-mapped}

is_plain-mapped : (f : ℕ → ℕ) (p : Part) → is_plain (mapped_part f p) ≡ is_plain p
is_plain-mapped f (literal v) = refl
is_plain-mapped f p = refl

is_not_copied-mapped : (f : ℕ → ℕ) (p : Part) → is_not_copied (mapped_part f p) ≡ is_not_copied p
is_not_copied-mapped f (literal v) = refl
is_not_copied-mapped f p = refl

is_character_among-mapped : (f : ℕ → ℕ) (c : ℕ) (ts : List Tree) → is_character_among c (map (mapped f) ts) ≡ is_character_among c ts
is_character_among-mapped f c [] = refl
is_character_among-mapped f c (Node kind n span semantic_id ps ∷ ts) = rw (string_at-mapped f 0 ps, is_character_among-mapped f c ts) refl

are_characters-mapped : (f : ℕ → ℕ) (ts : List Tree) (cs : List ℕ) → are_characters (map (mapped f) ts) cs ≡ are_characters ts cs
are_characters-mapped f ts [] = refl
are_characters-mapped f ts (c ∷ cs) = rw (is_character_among-mapped f c ts, are_characters-mapped f ts cs) refl

is_beginning_among-mapped : (f : ℕ → ℕ) (c : ℕ) (ts : List Tree) → is_beginning_among c (map (mapped f) ts) ≡ is_beginning_among c ts
is_beginning_among-mapped f c [] = refl
is_beginning_among-mapped f c (Node kind n span semantic_id ps ∷ ts) = rw (string_at-mapped f 0 ps, is_beginning_among-mapped f c ts) refl

is_beginning-mapped : (f : ℕ → ℕ) (ts : List Tree) (cs : List ℕ) → is_beginning (map (mapped f) ts) cs ≡ is_beginning ts cs
is_beginning-mapped f ts [] = refl
is_beginning-mapped f ts (c ∷ cs) = rw (is_beginning_among-mapped f c ts) refl

is_new_name-mapped : (f : ℕ → ℕ) (ts : List Tree) (cs : List ℕ) → is_new_name (map (mapped f) ts) cs ≡ is_new_name ts cs
is_new_name-mapped f ts cs = ap₂ (λ a b. a && b) (are_characters-mapped f ts cs) (is_beginning-mapped f ts cs)

module _ {first : ℕ} {f : ℕ → ℕ} (r : Renames first f) where
  is_string_among-mapped : (qs : Parts) (ts : List Tree) → is_string_among (mapped_parts f qs) (map (mapped f) ts) ≡ is_string_among qs ts
  is_string_among-mapped qs [] = refl
  is_string_among-mapped qs (Node Kind.TemplateElement n span semantic_id ps ∷ ts) = ap₂ (λ a b. a || b) (same_parts-mapped r qs ps) (is_string_among-mapped qs ts)
  is_string_among-mapped qs (t ∷ ts) = is_string_among-mapped qs ts

  is_literal_among-mapped : (qs : Parts) (ts : List Tree) → is_literal_among (mapped_parts f qs) (map (mapped f) ts) ≡ is_literal_among qs ts
  is_literal_among-mapped qs [] = refl
  is_literal_among-mapped qs (Node Kind.Literal n span semantic_id ps ∷ ts) = ap₂ (λ a b. a || b) (same_parts-mapped r qs ps) (is_literal_among-mapped qs ts)
  is_literal_among-mapped qs (t ∷ ts) = is_literal_among-mapped qs ts

  has_characters-mapped : (is_name : Bool) (ts : List Tree) (t : Tree) (s : List ℕ) → has_characters is_name (map (mapped f) ts) (mapped f t) s ≡ has_characters is_name ts t s
  has_characters-mapped is_name ts t s = ap₂ (λ a b. not is_name || (a || b)) (stands_equal-mapped r t ts) (is_new_name-mapped f ts s)

  has_its_text-mapped : (ps : List Tree) (t : Tree) → has_its_text first (map (mapped f) ps) (mapped f t) ≡ has_its_text first ps t
  has_its_text-mapped ps (Node Kind.Literal n span semantic_id qs) =
      rw (r.new n, at-mapped f 0 qs, is_plain-mapped f (at 0 qs), is_not_copied-mapped f (at 0 qs), is_literal_among-mapped qs ps, stands_equal-mapped r (Node Kind.Literal n span semantic_id qs) ps) refl
  has_its_text-mapped ps (Node Kind.TemplateElement n span semantic_id qs) =
      rw (r.new n, is_string_among-mapped qs ps, stands_equal-mapped r (Node Kind.TemplateElement n span semantic_id qs) ps) refl
  has_its_text-mapped ps (Node Kind.ExpressionStatement n span semantic_id (more e (more (string s) end))) =
      ap₂ (λ a b. a || b) (r.new n) (stands_equal-mapped r (Node Kind.ExpressionStatement n span semantic_id (more e (more (string s) end))) ps)
  has_its_text-mapped ps (Node Kind.PrivateIdentifier n span semantic_id qs) =
      rw (r.new n, string_at-mapped f 0 qs, is_new_name-mapped f ps (string_of (at 0 qs)), stands_equal-mapped r (Node Kind.PrivateIdentifier n span semantic_id qs) ps) refl
  has_its_text-mapped ps (Node kind n span semantic_id qs) = ap (has_characters (has_name kind) (map (mapped f) ps) (mapped f (Node kind n span semantic_id qs))) (string_at-mapped f 0 qs) ∙ has_characters-mapped (has_name kind) ps (Node kind n span semantic_id qs) (string_of (at 0 qs))

  all_texts-mapped : (ps ts : List Tree) → all_have_their_texts first (map (mapped f) ps) (map (mapped f) ts) ≡ all_have_their_texts first ps ts
  all_texts-mapped ps [] = refl
  all_texts-mapped ps (t ∷ ts) = ap₂ (λ a b. a && b) (has_its_text-mapped ps t) (all_texts-mapped ps ts)

  pub texts_stay-mapped : (p q : Tree) → texts_stay first (mapped f p) (mapped f q) ≡ texts_stay first p q
  texts_stay-mapped p q = rw (preorder-mapped f p, preorder-mapped f q) (all_texts-mapped (preorder p) (preorder q))
