-- Names that are suggested, by their characters.
use Rattle.std.proofs.Common.{◌≡◌, refl, sym, ap, ◌∙◌, ℕ, zero, suc, ◌+◌, ◌<◌, ◌≤◌, List, [], ◌∷◌, ◌++◌, append-nil, append_assoc, length, get_or, take, true, false, cond, encode_utf8, arith}
use Rattle.std.specs.Prelude.{codes, fold}
use Rattle.std.specs.Str.{chars, IsUtf8, encode_utf8_all}
use Rattle.std.proofs.lemmas.Bool.{and_parts, and_from}
use Rattle.std.proofs.lemmas.List.{take_more, take_all}
use Rattle.std.proofs.lemmas.Str.{chars-append, chars-nil, chars-encodes, encodes-append, encodes-chars, scalars-chars, encode_ascii}
use lib.Utf8.{scalars}
use Rattle.es_base.specs.Tree.{Tree, Node}
use Rattle.es_base.specs.declared.kind.Kind.{Kind}
use Rattle.es_base.proofs.Ascii.{chars_ascii}
use Rattle.es_node.specs.View.{kind_of}
use Rattle.program_names.specs.Suggested.{name_parts, with_part, or_ref}

pub no_parts : (t : Tree) → (kind_of t ≡ Kind.IdentifierReference → ⊥) → (kind_of t ≡ Kind.IdentifierName → ⊥) → (kind_of t ≡ Kind.PrivateIdentifier → ⊥)
    → (kind_of t ≡ Kind.ThisExpression → ⊥) → (kind_of t ≡ Kind.Super → ⊥) → (kind_of t ≡ Kind.MemberExpression → ⊥) → (kind_of t ≡ Kind.PrivateField → ⊥)
    → (kind_of t ≡ Kind.CallExpression → ⊥) → (kind_of t ≡ Kind.NewExpression → ⊥) → (kind_of t ≡ Kind.ChainExpression → ⊥) → (kind_of t ≡ Kind.AssignmentExpression → ⊥) → name_parts t ≡ []
no_parts (Node Kind.IdentifierReference m span s ps) a b c d e f g h i j k = absurd (a refl)
no_parts (Node Kind.IdentifierName m span s ps) a b c d e f g h i j k = absurd (b refl)
no_parts (Node Kind.PrivateIdentifier m span s ps) a b c d e f g h i j k = absurd (c refl)
no_parts (Node Kind.ThisExpression m span s ps) a b c d e f g h i j k = absurd (d refl)
no_parts (Node Kind.Super m span s ps) a b c d e f g h i j k = absurd (e refl)
no_parts (Node Kind.MemberExpression m span s ps) a b c d e f g h i j k = absurd (f refl)
no_parts (Node Kind.PrivateField m span s ps) a b c d e f g h i j k = absurd (g refl)
no_parts (Node Kind.CallExpression m span s ps) a b c d e f g h i j k = absurd (h refl)
no_parts (Node Kind.NewExpression m span s ps) a b c d e f g h i j k = absurd (i refl)
no_parts (Node Kind.ChainExpression m span s ps) a b c d e f g h i j k = absurd (j refl)
no_parts (Node Kind.AssignmentExpression m span s ps) a b c d e f g h i j k = absurd (k refl)
no_parts (Node kind m span s ps) a b c d e f g h i j k = refl

-- ---- one more part, by bytes

pub part_first : (old part new : List ℕ) → length old ≡ 0 → new ≡ old ++ part → chars new ≡ with_part (chars old) (chars part)
part_first [] part new empty is = ap chars is ∙ sym (ap (λ s. with_part s (chars part)) chars-nil)
part_first (b ∷ old) part new empty is = absurd (omega arith)

dollar : chars (encode_utf8 36) ≡ 36 ∷ []
dollar = ap chars (encode_ascii 36 (omega arith)) ∙ chars_ascii (36 ∷ []) refl

pub part_next : (old part mid new : List ℕ) → IsUtf8 old → IsUtf8 mid → ¬ (length old ≡ 0) → mid ≡ old ++ encode_utf8 36 → new ≡ mid ++ part → chars new ≡ with_part (chars old) (chars part)
part_next old part mid new u v some middle is =
    ap chars is ∙ chars-append mid part v
    ∙ ap (λ s. s ++ chars part) (ap chars middle ∙ chars-append old (encode_utf8 36) u ∙ ap (λ s. chars old ++ s) dollar)
    ∙ append_assoc (chars old) (36 ∷ []) (chars part)
    ∙ by (chars old) refl
  where
    by : (cs : List ℕ) → chars old ≡ cs → cs ++ ((36 ∷ []) ++ chars part) ≡ with_part cs (chars part)
    by [] e = absurd (some (ap length (sym (encodes-chars old u) ∙ ap encode_utf8_all e)))
    by (c ∷ cs) e = refl

-- ---- the first characters

scalars-take : (n : ℕ) (cs : List ℕ) → scalars cs ≡ true → scalars (take n cs) ≡ true
scalars-take zero cs h = refl
scalars-take (suc n) [] h = refl
scalars-take (suc n) (c ∷ cs) h = let both = and_parts _ (scalars cs) h in and_from _ (scalars (take n cs)) both.0 (scalars-take n cs both.1)

pub first_more : (cs old new : List ℕ) (n c : ℕ) → (n < length cs) × (c ≡ get_or cs n c) → old ≡ encode_utf8_all (take n cs) → new ≡ old ++ encode_utf8 c → new ≡ encode_utf8_all (take (n + 1) cs)
first_more cs old new n c at before is =
    is ∙ ap (λ s. s ++ encode_utf8 c) before
    ∙ ap (λ s. encode_utf8_all (take n cs) ++ s) (sym (append-nil (encode_utf8 c)))
    ∙ sym (encodes-append (take n cs) (c ∷ []))
    ∙ ap (λ d. encode_utf8_all (take n cs ++ d ∷ [])) at.1
    ∙ ap encode_utf8_all (sym (take_more cs n c at.0))

pub first_all : (bs first : List ℕ) (n : ℕ) → IsUtf8 bs → first ≡ encode_utf8_all (take n (chars bs)) → length (chars bs) ≤ n → n ≤ 20 → chars first ≡ take 20 (chars bs)
first_all bs first n u is all few =
    ap chars is ∙ chars-encodes (take n (chars bs)) (scalars-take n (chars bs) (scalars-chars bs u))
    ∙ take_all n (chars bs) all ∙ sym (take_all 20 (chars bs) (omega arith))

pub first_cut : (bs first : List ℕ) (n : ℕ) → IsUtf8 bs → first ≡ encode_utf8_all (take n (chars bs)) → n ≡ 20 → chars first ≡ take 20 (chars bs)
first_cut bs first n u is cut =
    ap chars is ∙ chars-encodes (take n (chars bs)) (scalars-take n (chars bs) (scalars-chars bs u)) ∙ ap (λ k. take k (chars bs)) cut

-- ---- the name

pub ref_given : (bs : List ℕ) → length bs ≡ 0 → or_ref (chars bs) ≡ codes "ref"
ref_given [] empty = ap or_ref chars-nil
ref_given (b ∷ bs) empty = absurd (omega arith)

pub name_given : (bs : List ℕ) → IsUtf8 bs → ¬ (length bs ≡ 0) → chars bs ≡ or_ref (chars bs)
name_given bs u some = by (chars bs) refl
  where
    by : (cs : List ℕ) → chars bs ≡ cs → cs ≡ or_ref cs
    by [] e = absurd (some (ap length (sym (encodes-chars bs u) ∙ ap encode_utf8_all e)))
    by (c ∷ cs) e = refl

-- ---- words

pub this_parts : (t : Tree) → Kind.ThisExpression ≡ kind_of t → name_parts t ≡ codes "this" ∷ []
this_parts (Node kind m span s ps) e = ap (λ k. name_parts (Node k m span s ps)) (sym e)

pub super_parts : (t : Tree) → Kind.Super ≡ kind_of t → name_parts t ≡ codes "super" ∷ []
super_parts (Node kind m span s ps) e = ap (λ k. name_parts (Node k m span s ps)) (sym e)

pub word_added : (old word new : List ℕ) (t : Tree) → chars word ≡ word → name_parts t ≡ word ∷ [] → chars new ≡ with_part (chars old) (chars word) → chars new ≡ fold with_part (chars old) (name_parts t)
word_added old word new t ascii is added = added ∙ ap (with_part (chars old)) ascii ∙ sym (ap (fold with_part (chars old)) is)
