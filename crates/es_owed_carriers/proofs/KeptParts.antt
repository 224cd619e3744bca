-- What nodes say by themselves, part by part.
use Rattle.std.proofs.Common.{◌≡◌, refl, sym, ap, ◌∙◌, ℕ, suc, ◌+◌, List, [], ◌∷◌, length, Bool, true, false, ◌&&◌, ◌||◌, arith}
use Rattle.std.specs.Prelude.{bytes_eq, not}
use Rattle.es_base.specs.Tree.{Tree, Part, Parts, Node, end, more, child, absent, list, string, no_string, boolean, literal}
use Rattle.es_base.specs.declared.kind.Kind.{Kind}
use Rattle.es_lowered.specs.HelperCalls.{is_number_key}
use Rattle.es_lowered.specs.KeptWords.{is_free, is_this_name, keeps_computed, keeps_value, same_name, same_word, same_words}
use Rattle.es_node.specs.View.{kind_of, part_of, parts_of}
use Rattle.es_node.specs.declared.node.Part as code
use Rattle.es_steps.specs.Parts.{is_present}
use Rattle.es_steps.specs.Printable.{name_of_part}
use Rattle.es_steps.specs.SameTrees.{same_part}
use Rattle.es_owed_carriers.specs.Words.{words_from}

words_by : (kind : Kind) (f : ℕ → Bool) (i : ℕ) (ps qs : Parts) → ((k : ℕ) → f k ≡ is_free kind (i + k)) → words_from kind i ps qs ≡ same_words f ps qs
words_by kind f i end end same = refl
words_by kind f i end (more q qs) same = refl
words_by kind f i (more p ps) end same = refl
words_by kind f i (more p ps) (more q qs) same =
    ap (λ b. (b || same_word p q) && words_from kind (i + 1) ps qs) (sym (same 0 ∙ ap (is_free kind) (at_once i)))
    ∙ ap (λ b. (f 0 || same_word p q) && b) (words_by kind (λ k. f (suc k)) (i + 1) ps qs (λ k. same (suc k) ∙ ap (is_free kind) (one_on i k)))
  where
    at_once : (i : ℕ) → i + 0 ≡ i
    at_once i = omega arith

    one_on : (i k : ℕ) → i + suc k ≡ (i + 1) + k
    one_on i k = omega arith

from_zero : (k : ℕ) → k ≡ 0 + k
from_zero k = omega arith

pub words_of_kind : (kind : Kind) (ps qs : Parts) → words_from kind 0 ps qs ≡ same_words (is_free kind) ps qs
words_of_kind kind ps qs = words_by kind (is_free kind) 0 ps qs (λ k. ap (is_free kind) (from_zero k))

and_false : (a b : Bool) → b ≡ false → (a && b) ≡ false
and_false true b e = e
and_false false b e = refl

differ_from : (kind : Kind) (i : ℕ) (xs ys : List code.Part) → (length xs ≡ length ys → ⊥) → words_from kind i (parts_of xs) (parts_of ys) ≡ false
differ_from kind i [] [] other = absurd (other refl)
differ_from kind i [] (y ∷ ys) other = refl
differ_from kind i (x ∷ xs) [] other = refl
differ_from kind i (x ∷ xs) (y ∷ ys) other = and_false (is_free kind i || same_word (part_of x) (part_of y)) (words_from kind (i + 1) (parts_of xs) (parts_of ys)) (differ_from kind (i + 1) xs ys (λ e. other (ap (λ n. suc n) e)))

pub words_differ : (kind : Kind) (xs ys : List code.Part) → (length xs ≡ length ys → ⊥) → words_from kind 0 (parts_of xs) (parts_of ys) ≡ false
words_differ kind xs ys other = differ_from kind 0 xs ys other

-- ---- by the sort of a part

pub absent_words : (q : Part) → same_part absent q ≡ same_word absent q
absent_words (child t) = refl
absent_words absent = refl
absent_words (list ps) = refl
absent_words (string s) = refl
absent_words no_string = refl
absent_words (boolean b) = refl
absent_words (literal v) = refl

pub string_words : (s : List ℕ) (q : Part) → same_part (string s) q ≡ same_word (string s) q
string_words s (child t) = refl
string_words s absent = refl
string_words s (list ps) = refl
string_words s (string t) = refl
string_words s no_string = refl
string_words s (boolean b) = refl
string_words s (literal v) = refl

pub no_string_words : (q : Part) → same_part no_string q ≡ same_word no_string q
no_string_words (child t) = refl
no_string_words absent = refl
no_string_words (list ps) = refl
no_string_words (string s) = refl
no_string_words no_string = refl
no_string_words (boolean b) = refl
no_string_words (literal v) = refl

pub boolean_words : (b : Bool) (q : Part) → same_part (boolean b) q ≡ same_word (boolean b) q
boolean_words b (child t) = refl
boolean_words b absent = refl
boolean_words b (list ps) = refl
boolean_words b (string s) = refl
boolean_words b no_string = refl
boolean_words b (boolean c) = refl
boolean_words b (literal v) = refl

pub words_of_lists : (ps qs : Parts) (q : Part) → same_word (list ps) q ≡ same_word (list qs) q
words_of_lists ps qs (child t) = refl
words_of_lists ps qs absent = refl
words_of_lists ps qs (list rs) = refl
words_of_lists ps qs (string s) = refl
words_of_lists ps qs no_string = refl
words_of_lists ps qs (boolean b) = refl
words_of_lists ps qs (literal v) = refl

-- ---- names

pub name_kept : (t u : Tree) → kind_of t ≡ Kind.IdentifierName → same_name t u ≡ is_this_name (name_of_part (child t)) u
name_kept (Node Kind.IdentifierName m span semantic_id ps) u is = refl
name_kept (Node kind m span semantic_id ps) u is = absurd (cc)

pub no_name : (t u : Tree) → (kind_of t ≡ Kind.IdentifierName → ⊥) → same_name t u ≡ true
no_name (Node Kind.IdentifierName m span semantic_id ps) u other = absurd (other refl)
no_name (Node kind m span semantic_id ps) u other = refl

pub this_name : (s : List ℕ) (t : Tree) → kind_of t ≡ Kind.IdentifierName → is_this_name s t ≡ bytes_eq s (name_of_part (child t))
this_name s (Node Kind.IdentifierName m span semantic_id ps) is = refl
this_name s (Node kind m span semantic_id ps) is = absurd (cc)

pub not_this_name : (s : List ℕ) (t : Tree) → (kind_of t ≡ Kind.IdentifierName → ⊥) → is_this_name s t ≡ false
not_this_name s (Node Kind.IdentifierName m span semantic_id ps) other = absurd (other refl)
not_this_name s (Node kind m span semantic_id ps) other = refl

-- ---- keys

pub no_computed_key : (kind : Kind) (ps qs : Parts) → (kind ≡ Kind.PropertyDefinition → ⊥) → (kind ≡ Kind.Property → ⊥) → keeps_computed kind ps qs ≡ true
no_computed_key Kind.PropertyDefinition ps qs a b = absurd (a refl)
no_computed_key Kind.Property ps qs a b = absurd (b refl)
no_computed_key kind ps qs a b = refl

pub no_literal : (t : Tree) → (kind_of t ≡ Kind.Literal → ⊥) → is_number_key (child t) ≡ false
no_literal (Node Kind.Literal m span semantic_id ps) other = absurd (other refl)
no_literal (Node kind m span semantic_id ps) other = refl

pub no_field : (kind : Kind) (ps qs : Parts) → (kind ≡ Kind.PropertyDefinition → ⊥) → keeps_value kind ps qs ≡ true
no_field Kind.PropertyDefinition ps qs a = absurd (a refl)
no_field kind ps qs a = refl

pub word_of_nothing : (p : Part) → same_word absent p ≡ not (is_present p)
word_of_nothing absent = refl
word_of_nothing p = refl

pub word_is_nothing : (p : Part) → same_word p absent ≡ not (is_present p)
word_is_nothing absent = refl
word_is_nothing p = refl
