-- What has the members of another has its text.
use Rattle.std.proofs.Common.{◌≡◌, refl, sym, ap, ◌∙◌, true≢false, ℕ, List, [], ◌∷◌, ◌++◌, Bool, true, false, cond, ◌&&◌, ◌||◌, bytes_eq, nat_eq, Option, Some, None, Bor}
use Rattle.std.proofs.Math.Bool.{and-false}
use Rattle.std.proofs.lemmas.Slice.Eq.{bytes_eq-Decides}
use Rattle.es_base.specs.Tree.{Tree, Part, Parts, end, more, child, absent, list, string, no_string, boolean, literal}
use Rattle.es_base.specs.declared.kind.Kind.{Kind}
use Rattle.es_base.specs.declared.literal.LiteralValue.{LiteralValue}
use Rattle.es_base.specs.declared.literal.LiteralValue.TheVariants as literal_value
use Rattle.es_binding_faults.specs.Leasts.{Numbers}
use Rattle.es_binding_faults.specs.Seen.{seen}
use Rattle.es_grouped.specs.Groups.{having}
use Rattle.es_lowered.specs.Texts.{is_literal_among, is_string_among}
use Rattle.es_node.specs.View.{kind_of, parts_in}
use Rattle.es_generated.proofs.NumberedNames.{apart}
use Rattle.es_generated.specs.Spellings.{spelling_number}
use Rattle.es_steps.specs.Parts.{at}
use Rattle.es_steps.specs.SameTrees.{same_kind, same_literal, same_part, same_parts}
use Rattle.es_steps.specs.Values.{String}
use Rattle.es_owed_texts.specs.TextNumbers.{has_text, literal_text, numbered_texts, text_of}
use Rattle.es_owed_texts.specs.Written.{is_copy_of}
use Rattle.es_owed_texts.proofs.WrittenNodes.{copy_node, literal_more, string_more}

first_of : (a b : Bool) → (a && b) ≡ true → a ≡ true
first_of true b e = refl
first_of false b e = absurd (true≢false (sym e))

second_of : (a b : Bool) → (a && b) ≡ true → b ≡ true
second_of true b e = e
second_of false b e = absurd (true≢false (sym e))

one : (s t : String) → bytes_eq s t ≡ true → s ≡ t
one s t = (bytes_eq-Decides s t).0

-- ---- what is the same has one text

same_string : (s t : String) (raw source : Option String) → same_literal (literal_value.String s raw) (literal_value.String t source) ≡ true → literal_text (literal_value.String s raw) ≡ literal_text (literal_value.String t source)
same_string s t None None e = refl
same_string s t (Some a) (Some b) e = one a b (second_of (bytes_eq s t) (bytes_eq a b) e)
same_string s t None (Some b) e = absurd (true≢false (sym (second_of (bytes_eq s t) false e)))
same_string s t (Some a) None e = absurd (true≢false (sym (second_of (bytes_eq s t) false e)))

same_value : (v w : LiteralValue) → same_literal v w ≡ true → literal_text v ≡ literal_text w
same_value (literal_value.String s raw) (literal_value.String t source) e = same_string s t raw source e
same_value (literal_value.Number s) (literal_value.Number t) e = one s t e
same_value (literal_value.BigInt s) (literal_value.BigInt t) e = one s t e
same_value (literal_value.RegExp p f) (literal_value.RegExp q g) e = one p q (first_of (bytes_eq p q) (bytes_eq f g) e)
same_value (literal_value.Boolean b) (literal_value.Boolean c) e = refl
same_value literal_value.Null literal_value.Null e = refl
same_value v w e = absurd (true≢false (sym e))

same_text : (p q : Part) → same_part p q ≡ true → text_of p ≡ text_of q
same_text (child t) (child u) e = refl
same_text absent absent e = refl
same_text (list ps) (list qs) e = refl
same_text (string s) (string t) e = one s t e
same_text no_string no_string e = refl
same_text (boolean b) (boolean c) e = refl
same_text (literal v) (literal w) e = same_value v w e
same_text p q e = absurd (true≢false (sym e))

same_first : (ps qs : Parts) → same_parts ps qs ≡ true → text_of (at 0 ps) ≡ text_of (at 0 qs)
same_first end end e = refl
same_first (more p ps) (more q qs) e = same_text p q (first_of (same_part p q) (same_parts ps qs) e)
same_first ps qs e = absurd (true≢false (sym e))

others : (ns : Numbers) (ps qs : Parts) → nat_eq (spelling_number ns (text_of (at 0 ps))) (spelling_number ns (text_of (at 0 qs))) ≡ false → same_parts ps qs ≡ false
others ns ps qs other = here (same_parts ps qs) refl
  where
    here : (b : Bool) → same_parts ps qs ≡ b → b ≡ false
    here true e = absurd (true≢false (sym ((bytes_eq-Decides (text_of (at 0 ps)) (text_of (at 0 qs))).1 (same_first ps qs e)) ∙ apart ns (text_of (at 0 ps)) (text_of (at 0 qs)) other))
    here false e = refl

-- ---- copies are found by their texts

no_copy : (kind : Kind) (ns : Numbers) (qs : Parts) (t : Tree) → nat_eq (spelling_number ns (text_of (at 0 qs))) (spelling_number ns (text_of (at 0 (parts_in t)))) ≡ false → is_copy_of kind qs t ≡ false
no_copy kind ns qs t other = copy_node kind qs t ∙ ap (λ b. same_kind kind (kind_of t) && b) (others ns qs (parts_in t) other) ∙ and-false (same_kind kind (kind_of t))

no_literal : (kind : Kind) → has_text kind ≡ false → same_kind Kind.Literal kind ≡ false
no_literal Kind.Literal e = absurd (true≢false e)
no_literal Kind.TemplateElement e = refl
no_literal kind e = refl

no_template : (kind : Kind) → has_text kind ≡ false → same_kind Kind.TemplateElement kind ≡ false
no_template Kind.Literal e = refl
no_template Kind.TemplateElement e = absurd (true≢false e)
no_template kind e = refl

module _ (kind : Kind) (no_kind : (k : Kind) → has_text k ≡ false → same_kind kind k ≡ false) (among : Parts → List Tree → Bool) (none : (qs : Parts) → among qs [] ≡ false) (next : (qs : Parts) (t : Tree) (ts : List Tree) → among qs (t ∷ ts) ≡ (is_copy_of kind qs t || among qs ts)) where
  by_text : (ns : Numbers) (qs : Parts) (ts : List (Bor Tree)) → among qs (seen (having (spelling_number ns (text_of (at 0 qs))) (numbered_texts ns ts))) ≡ among qs (seen ts)
  by_text ns qs [] = refl
  by_text ns qs (t ∷ ts) = here (has_text (kind_of t.now)) refl (by_text ns qs ts)
    where
      m : ℕ
      m = spelling_number ns (text_of (at 0 qs))

      n : ℕ
      n = spelling_number ns (text_of (at 0 (parts_in t.now)))

      rest : List (Bor Tree)
      rest = having m (numbered_texts ns ts)

      without : is_copy_of kind qs t.now ≡ false → among qs (seen rest) ≡ among qs (seen ts) → among qs (seen rest) ≡ among qs (t.now ∷ seen ts)
      without other h = h ∙ ap (λ b. b || among qs (seen ts)) (sym other) ∙ sym (next qs t.now (seen ts))

      text : (b : Bool) → nat_eq m n ≡ b → among qs (seen rest) ≡ among qs (seen ts) → among qs (seen (cond b (t ∷ []) [] ++ rest)) ≡ among qs (t.now ∷ seen ts)
      text true is h = next qs t.now (seen rest) ∙ ap (λ b. is_copy_of kind qs t.now || b) h ∙ sym (next qs t.now (seen ts))
      text false is h = without (no_copy kind ns qs t.now is) h

      here : (b : Bool) → has_text (kind_of t.now) ≡ b → among qs (seen rest) ≡ among qs (seen ts) → among qs (seen (having m (cond b ((n, t) ∷ []) [] ++ numbered_texts ns ts))) ≡ among qs (t.now ∷ seen ts)
      here true is h = text (nat_eq m n) refl h
      here false is h = without (copy_node kind qs t.now ∙ ap (λ b. b && same_parts qs (parts_in t.now)) (no_kind (kind_of t.now) is)) h

pub literal_by_text : (ns : Numbers) (qs : Parts) (ts : List (Bor Tree)) → is_literal_among qs (seen (having (spelling_number ns (text_of (at 0 qs))) (numbered_texts ns ts))) ≡ is_literal_among qs (seen ts)
literal_by_text ns qs ts = by_text Kind.Literal no_literal is_literal_among (λ qs. refl) literal_more ns qs ts

pub string_by_text : (ns : Numbers) (qs : Parts) (ts : List (Bor Tree)) → is_string_among qs (seen (having (spelling_number ns (text_of (at 0 qs))) (numbered_texts ns ts))) ≡ is_string_among qs (seen ts)
string_by_text ns qs ts = by_text Kind.TemplateElement no_template is_string_among (λ qs. refl) string_more ns qs ts
