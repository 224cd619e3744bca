-- Where a program of the first form can be printed, what it is lowered to can be.
use Rattle.std.specs.Prelude.{◌≡◌, ℕ, ◌+◌, List, [], ◌∷◌, ◌++◌, Bool, true, false, not, ◌||◌, bytes_eq, codes}
use Rattle.std.proofs.Common.{refl, sym, subst}
use Rattle.es_base.specs.Tree.{Tree, Part, Parts, Node, end, more, child, absent, list, trees}
use Rattle.es_base.specs.declared.kind.Kind.{Kind}
use Rattle.std.proofs.Math.Bool.{and-false}
use Rattle.std.proofs.lemmas.List.{append-nil}
use Rattle.std.proofs.Common.{append_assoc}
use Rattle.es_base.specs.Preorder.{preorder, preorder_of}
use Rattle.es_base.specs.Conforms.{is_among}
use Rattle.es_left.proofs.Booleans.{none_of}
use Rattle.es_steps.specs.Reserved.{Words, no_words, strict_words, is_reserved_word, field_words, strict_if, has_reserved, reserved_in, reserved_at}
use Rattle.es_steps.specs.Strict.{has_use_strict}
use Rattle.es_steps.specs.Printable.{any_optional, any_uncooked, any_bare, bare_in, bare_strings, prologue, stays_printable, has_late_directive, has_bad, bad_at, bad_in, Jumps, no_jumps, has_stray, stray_in, has_stray_target, stray_target_of, is_printable}
use Rattle.class_properties.proofs.Numbered.{definitions_from, lowered_elements, statement_size, lowered_statements, lowered_from}
use Rattle.class_properties.proofs.Shaped.{no_value, a_literal, a_reference, a_key, a_field, AreFields, a_body, a_name, a_class, AreClasses, IsProgram, a_program}

-- ---- no chain

fields-plain : (es : Parts) → AreFields es → any_optional es ≡ false
fields-plain end h = refl
fields-plain (more p es) (a_field m span semantic_id key v hk hv, h) = fields-plain es h

definitions-plain : (es : Parts) → AreFields es → (k : ℕ) → any_optional (trees (definitions_from k es)) ≡ false
definitions-plain end h k = refl
definitions-plain (more p es) (a_field m span semantic_id key v hk hv, h) k = definitions-plain es h _

classes-plain : (ps : Parts) → AreClasses ps → any_optional ps ≡ false
classes-plain end h = refl
classes-plain (more p ps) (a_class n span semantic_id id body hid hbody, h) = classes-plain ps h

lowered-plain : (ps : Parts) → AreClasses ps → (k : ℕ) → any_optional (lowered_statements k ps) ≡ false
lowered-plain end h k = refl
lowered-plain (more p ps) (a_class n span semantic_id id body hid (a_body j bspan b_semantic_id es he), h) k = lowered-plain ps h _

-- ---- no template without strings that are cooked

fields-cooked : (es : Parts) → AreFields es → any_uncooked es ≡ false
fields-cooked end h = refl
fields-cooked (more p es) (a_field m span semantic_id key v hk hv, h) = fields-cooked es h

definitions-cooked : (es : Parts) → AreFields es → (k : ℕ) → any_uncooked (trees (definitions_from k es)) ≡ false
definitions-cooked end h k = refl
definitions-cooked (more p es) (a_field m span semantic_id key v hk hv, h) k = definitions-cooked es h _

lowered-cooked : (ps : Parts) → AreClasses ps → (k : ℕ) → any_uncooked (lowered_statements k ps) ≡ false
lowered-cooked end h k = refl
lowered-cooked (more p ps) (a_class n span semantic_id id body hid (a_body j bspan b_semantic_id es he), h) k = lowered-cooked ps h _

-- ---- no declaration without an initializer

definitions-initialized : (es : Parts) → AreFields es → (k : ℕ) → any_bare (trees (definitions_from k es)) ≡ false
definitions-initialized end h k = refl
definitions-initialized (more p es) (a_field m span semantic_id key v hk hv, h) k = definitions-initialized es h _

lowered-initialized : (ps : Parts) → AreClasses ps → (k : ℕ) → any_bare (lowered_statements k ps) ≡ false
lowered-initialized end h k = refl
lowered-initialized (more p ps) (a_class n span semantic_id id body hid (a_body j bspan b_semantic_id es he), h) k = lowered-initialized ps h _

-- ---- no directive, and no string that is printed as one

definitions-bare : (es : Parts) → AreFields es → (k : ℕ) → bare_in (trees (definitions_from k es)) ≡ []
definitions-bare end h k = refl
definitions-bare (more p es) (a_field m span semantic_id key v hk hv, h) k = refl

lowered-bare : (ps : Parts) → AreClasses ps → (k : ℕ) → bare_in (lowered_statements k ps) ≡ []
lowered-bare end h k = refl
lowered-bare (more p ps) (a_class n span semantic_id id body hid (a_body j bspan b_semantic_id es he), h) k = refl

bare-append : (ts us : List Tree) → bare_strings (ts ++ us) ≡ bare_strings ts ++ bare_strings us
bare-append [] us = refl
bare-append (Node kind m span semantic_id ps ∷ ts) us = rw (bare-append ts us) (sym (append_assoc (bare_in (prologue kind ps)) (bare_strings ts) (bare_strings us)))

all-bare-definitions : (es : Parts) → AreFields es → (k : ℕ) → bare_strings (preorder_of (trees (definitions_from k es))) ≡ []
all-bare-definitions end h k = refl
all-bare-definitions (more p es) (a_field m span semantic_id key v (a_key i ispan i_semantic_id s) no_value, h) k = all-bare-definitions es h (k + 9)
all-bare-definitions (more p es) (a_field m span semantic_id key v (a_key i ispan i_semantic_id s) (a_literal l lspan l_semantic_id x fine), h) k = all-bare-definitions es h (k + 7)
all-bare-definitions (more p es) (a_field m span semantic_id key v (a_key i ispan i_semantic_id s) (a_reference r rspan r_semantic_id x), h) k = all-bare-definitions es h (k + 7)

all-bare-elements : (es : Parts) → AreFields es → (k : ℕ) → bare_strings (preorder_of (lowered_elements k es)) ≡ []
all-bare-elements end h k = refl
all-bare-elements (more p es) h k =
    let made : List Tree = preorder_of (trees (definitions_from (k + 4) (more p es))) in
    rw (definitions-bare (more p es) h (k + 4), append-nil made, append-nil made, append-nil made, append-nil made) (all-bare-definitions (more p es) h (k + 4))

all-bare-classes : (ps : Parts) → AreClasses ps → (k : ℕ) → bare_strings (preorder_of (lowered_statements k ps)) ≡ []
all-bare-classes end h k = refl
all-bare-classes (more p ps) (a_class n span semantic_id id body (a_name i ispan i_semantic_id s free) (a_body j bspan b_semantic_id es he), h) k =
    let made : List Tree = preorder_of (lowered_elements k es) in
    let rest : List Tree = preorder_of (lowered_statements (k + statement_size p) ps) in
    rw (append-nil made, append-nil made, bare-append made rest, all-bare-elements es he k) (all-bare-classes ps h _)

no-bare : (k : ℕ) (t : Tree) → IsProgram t → bare_strings (preorder (lowered_from k t)) ≡ []
no-bare k t (a_program m span semantic_id s all h) =
    rw (lowered-bare all h k, append-nil (preorder_of (lowered_statements k all))) (all-bare-classes all h k)

definitions-undirected : (es : Parts) → AreFields es → (k : ℕ) (late : Bool) → has_late_directive late (trees (definitions_from k es)) ≡ false
definitions-undirected end h k late = refl
definitions-undirected (more p es) (a_field m span semantic_id key v hk hv, h) k true = definitions-undirected es h _ true
definitions-undirected (more p es) (a_field m span semantic_id key v hk hv, h) k false = definitions-undirected es h _ true

lowered-undirected : (ps : Parts) → AreClasses ps → (k : ℕ) (late : Bool) → has_late_directive late (lowered_statements k ps) ≡ false
lowered-undirected end h k late = refl
lowered-undirected (more p ps) (a_class n span semantic_id id body hid (a_body j bspan b_semantic_id es he), h) k true = lowered-undirected ps h _ true
lowered-undirected (more p ps) (a_class n span semantic_id id body hid (a_body j bspan b_semantic_id es he), h) k false = lowered-undirected ps h _ true

-- ---- fields

-- the value of the first field, and the other fields
first_value : (v : Part) (a b : Bool) (rest : Parts) → ((a || (b || (bad_at false false v || false))) || bad_in false false rest) ≡ false → (bad_at false false v ≡ false) × (bad_in false false rest ≡ false)
first_value v a b rest h =
    let both = none_of (a || (b || (bad_at false false v || false))) (bad_in false false rest) h in
    let inner = none_of b (bad_at false false v || false) (none_of a (b || (bad_at false false v || false)) both.0).1 in
    ((none_of (bad_at false false v) false inner.1).0, both.1)

definitions-good : (es : Parts) → AreFields es → (k : ℕ) → bad_in false false es ≡ false → bad_in false false (trees (definitions_from k es)) ≡ false
definitions-good end h k g = refl
definitions-good (more p es) (a_field m span semantic_id key v (a_key i ispan i_semantic_id s) no_value, h) k g =
    definitions-good es h (k + 9) (none_of (bad_at false false p) (bad_in false false es) g).1
definitions-good (more p es) (a_field m span semantic_id key v (a_key i ispan i_semantic_id s) (a_literal l lspan l_semantic_id w fine), h) k g =
    let good = first_value v _ _ es g in rw (good.0, definitions-good es h (k + 7) good.1) refl
definitions-good (more p es) (a_field m span semantic_id key v (a_key i ispan i_semantic_id s) (a_reference r rspan r_semantic_id x), h) k g =
    let good = first_value v _ _ es g in rw (good.0, definitions-good es h (k + 7) good.1) refl

elements-good : (es : Parts) → AreFields es → (k : ℕ) → bad_in false false es ≡ false → bad_in false false (lowered_elements k es) ≡ false
elements-good end h k g = refl
elements-good (more p es) h k g = rw (definitions-undirected (more p es) h (k + 4) false, definitions-cooked (more p es) h (k + 4), definitions-initialized (more p es) h (k + 4), definitions-plain (more p es) h (k + 4), definitions-good (more p es) h (k + 4) g) refl

-- ---- classes

classes-good : (in_module : Bool) (ps : Parts) → AreClasses ps → (k : ℕ) → bad_in false in_module ps ≡ false → bad_in false in_module (lowered_statements k ps) ≡ false
classes-good in_module end h k g = refl
classes-good in_module (more p ps) (a_class n span semantic_id id body (a_name i ispan i_semantic_id s free) (a_body j bspan b_semantic_id es he), h) k g =
    let all = none_of (bad_at false in_module p) (bad_in false in_module ps) g in
    let named = none_of (bad_at false false id) (bad_at false false body || false) all.0 in
    let in_body = none_of (bad_at false false body) false named.1 in
    let elements = none_of (((any_optional es || false) || ((any_uncooked es || false) || (any_bare es || false))) || false) (bad_in false false es || false) in_body.0 in
    let good : bad_in false false (lowered_elements k es) ≡ false = elements-good es he k (none_of (bad_in false false es) false elements.1).0 in
    lowered-good es he named.0 good (classes-good in_module ps h _ all.1)
  where
    lowered-good : (es : Parts) → AreFields es → bad_at false false id ≡ false → bad_in false false (lowered_elements k es) ≡ false → bad_in false in_module (lowered_statements (k + statement_size p) ps) ≡ false
        → bad_in false in_module (more (child (Node Kind.ClassDeclaration n span semantic_id (more id (more absent (more (child (Node Kind.ClassBody j bspan b_semantic_id (more (list (lowered_elements k es)) end))) end))))) (lowered_statements (k + statement_size p) ps)) ≡ false
    lowered-good end h a b c = rw (a, c) refl
    lowered-good (more e es) h a b c = rw (a, b, c) refl

-- ---- nothing is left by a jump

definitions-stay : (j : Jumps) (es : Parts) → AreFields es → (k : ℕ) → stray_in j (trees (definitions_from k es)) ≡ false
definitions-stay j end h k = refl
definitions-stay j (more p es) (a_field m span semantic_id key v (a_key i ispan i_semantic_id s) no_value, h) k = definitions-stay j es h (k + 9)
definitions-stay j (more p es) (a_field m span semantic_id key v (a_key i ispan i_semantic_id s) (a_literal l lspan l_semantic_id w fine), h) k = definitions-stay j es h (k + 7)
definitions-stay j (more p es) (a_field m span semantic_id key v (a_key i ispan i_semantic_id s) (a_reference r rspan r_semantic_id x), h) k = definitions-stay j es h (k + 7)

classes-stay : (j : Jumps) (ps : Parts) → AreClasses ps → (k : ℕ) → stray_in j (lowered_statements k ps) ≡ false
classes-stay j end h k = refl
classes-stay j (more p ps) (a_class n span semantic_id id body (a_name i ispan i_semantic_id s free) (a_body b bspan b_semantic_id end he), h) k = classes-stay j ps h _
classes-stay j (more p ps) (a_class n span semantic_id id body (a_name i ispan i_semantic_id s free) (a_body b bspan b_semantic_id (more e es) he), h) k =
    rw (definitions-stay (no_jumps true) (more e es) he (k + 4)) (classes-stay j ps h _)

program-stays : (k : ℕ) (t : Tree) → IsProgram t → has_stray (no_jumps false) (lowered_from k t) ≡ false
program-stays k t (a_program m span semantic_id s all h) = rw (classes-stay (no_jumps false) all h k) refl

-- ---- nor is there a `new.target`

definitions-untargeted : (inside : Bool) (es : Parts) → AreFields es → (k : ℕ) → stray_target_of inside (trees (definitions_from k es)) ≡ false
definitions-untargeted inside end h k = refl
definitions-untargeted inside (more p es) (a_field m span semantic_id key v (a_key i ispan i_semantic_id s) no_value, h) k = definitions-untargeted inside es h (k + 9)
definitions-untargeted inside (more p es) (a_field m span semantic_id key v (a_key i ispan i_semantic_id s) (a_literal l lspan l_semantic_id w fine), h) k = definitions-untargeted inside es h (k + 7)
definitions-untargeted inside (more p es) (a_field m span semantic_id key v (a_key i ispan i_semantic_id s) (a_reference r rspan r_semantic_id x), h) k = definitions-untargeted inside es h (k + 7)

classes-untargeted : (inside : Bool) (ps : Parts) → AreClasses ps → (k : ℕ) → stray_target_of inside (lowered_statements k ps) ≡ false
classes-untargeted inside end h k = refl
classes-untargeted inside (more p ps) (a_class n span semantic_id id body (a_name i ispan i_semantic_id s free) (a_body b bspan b_semantic_id end he), h) k = classes-untargeted inside ps h _
classes-untargeted inside (more p ps) (a_class n span semantic_id id body (a_name i ispan i_semantic_id s free) (a_body b bspan b_semantic_id (more e es) he), h) k =
    rw (definitions-untargeted _ (more e es) he (k + 4)) (classes-untargeted inside ps h _)

program-untargeted : (k : ℕ) (t : Tree) → IsProgram t → has_stray_target false (lowered_from k t) ≡ false
program-untargeted k t (a_program m span semantic_id s all h) = rw (classes-untargeted _ all h k) refl

-- ---- no name is a reserved word

not-reserved : (w : Words) (s : List ℕ) → is_among s strict_words ≡ false → bytes_eq s (codes "await") ≡ false → bytes_eq s (codes "yield") ≡ false → is_reserved_word w s ≡ false
not-reserved w s a b c = rw (a, b, c, and-false w.in_strict, and-false (w.in_module || (w.in_block || w.in_async)), and-false w.in_generator) refl

helper-free : (w : Words) → is_reserved_word w (codes "babelHelpers") ≡ false
helper-free w = not-reserved w (codes "babelHelpers") refl refl refl

definitions-undirecting : (es : Parts) → AreFields es → (k : ℕ) → has_use_strict (trees (definitions_from k es)) ≡ false
definitions-undirecting end h k = refl
definitions-undirecting (more p es) (a_field m span semantic_id key v hk hv, h) k = definitions-undirecting es h _

-- where the constructor has the values
abbrev constructor_words : Words → Words
constructor_words w = record w { in_block = false; in_element = false; in_async = false; in_generator = false }

-- the value of the first field, and the other fields
value-free : (w : Words) (v : Part) (es : Parts) → ((reserved_at (field_words w 1) v || false) || reserved_in (λ i. w) es) ≡ false → (reserved_at (field_words w 1) v ≡ false) × (reserved_in (λ i. w) es ≡ false)
value-free w v es h =
    let both = none_of (reserved_at (field_words w 1) v || false) (reserved_in (λ i. w) es) h in
    ((none_of (reserved_at (field_words w 1) v) false both.0).0, both.1)

definitions-free : (w : Words) (es : Parts) → AreFields es → (k : ℕ) → reserved_in (λ i. w) es ≡ false → reserved_in (λ i. constructor_words w) (trees (definitions_from k es)) ≡ false
definitions-free w end h k g = refl
definitions-free w (more p es) (a_field m span semantic_id key v (a_key i ispan i_semantic_id s) no_value, h) k g =
    rw (helper-free (constructor_words w)) (definitions-free w es h (k + 9) g)
definitions-free w (more p es) (a_field m span semantic_id key v (a_key i ispan i_semantic_id s) (a_literal l lspan l_semantic_id x fine), h) k g =
    rw (helper-free (constructor_words w)) (definitions-free w es h (k + 7) g)
definitions-free w (more p es) (a_field m span semantic_id key v (a_key i ispan i_semantic_id s) (a_reference r rspan r_semantic_id x), h) k g =
    let free = value-free w v es g in
    let named = none_of (is_reserved_word (field_words w 1) x || bytes_eq x (codes "arguments")) false free.0 in
    rw (helper-free (constructor_words w), (none_of (is_reserved_word (field_words w 1) x) (bytes_eq x (codes "arguments")) named.0).0) (definitions-free w es h (k + 7) free.1)

elements-free : (w : Words) (es : Parts) → AreFields es → (k : ℕ) → reserved_in (λ i. w) es ≡ false → reserved_in (λ i. w) (lowered_elements k es) ≡ false
elements-free w end h k g = refl
elements-free w (more p es) h k g = rw (definitions-undirecting (more p es) h (k + 4), definitions-free w (more p es) h (k + 4) g) refl

classes-free : (w : Words) (ps : Parts) → AreClasses ps → (k : ℕ) → reserved_in (λ i. w) ps ≡ false → reserved_in (λ i. w) (lowered_statements k ps) ≡ false
classes-free w end h k g = refl
classes-free w (more p ps) (a_class n span semantic_id id body (a_name i ispan i_semantic_id s free) (a_body j bspan b_semantic_id es he), h) k g =
    let inside : Words = strict_if true w in
    let all = none_of (reserved_at w p) (reserved_in (λ i. w) ps) g in
    let named = none_of (reserved_at inside id) (reserved_at inside body || false) all.0 in
    let in_body = none_of (reserved_at inside body) false named.1 in
    let elements = none_of (reserved_in (λ i. inside) es) false in_body.0 in
    rw (named.0, elements-free inside es he k elements.0) (classes-free w ps h _ all.1)

classes-undirecting : (ps : Parts) → AreClasses ps → has_use_strict ps ≡ false
classes-undirecting end h = refl
classes-undirecting (more p ps) (a_class n span semantic_id id body hid hbody, h) = classes-undirecting ps h

lowered-undirecting : (ps : Parts) → AreClasses ps → (k : ℕ) → has_use_strict (lowered_statements k ps) ≡ false
lowered-undirecting end h k = refl
lowered-undirecting (more p ps) (a_class n span semantic_id id body hid (a_body j bspan b_semantic_id es he), h) k = lowered-undirecting ps h _

abbrev program_words : List ℕ → Bool → Words
program_words s has_directive = record (strict_if (bytes_eq s (codes "module") || has_directive) no_words) { in_module = bytes_eq s (codes "module") }

program-free : (k : ℕ) (t : Tree) → IsProgram t → has_reserved no_words t ≡ false → has_reserved no_words (lowered_from k t) ≡ false
program-free k t (a_program m span semantic_id s all h) g =
    let all_free : (reserved_in (λ i. program_words s false) all || false) ≡ false = subst (λ b. (reserved_in (λ i. program_words s b) all || false) ≡ false) (classes-undirecting all h) g in
    rw (lowered-undirecting all h k, classes-free (program_words s false) all h k (none_of (reserved_in (λ i. program_words s false) all) false all_free).0) refl

-- ---- programs

printed : (a b c d e f : Bool) → (a ≡ false → b ≡ false) → d ≡ false → (e ≡ false → f ≡ false) → (not (not (a || (c || e))) || not (b || (d || f))) ≡ true
printed true b c d e f h none i = refl
printed false b true d e f h none i = refl
printed false b false d true f h none i = refl
printed false b false d false f h none i = rw (h refl, none, i refl) refl

program-good : (k : ℕ) (t : Tree) → IsProgram t → has_bad false false t ≡ false → has_bad false false (lowered_from k t) ≡ false
program-good k t (a_program m span semantic_id s all h) g =
    let inside = none_of ((has_late_directive false all || ((any_optional all || false) || ((any_uncooked all || false) || (any_bare all || false)))) || false) (bad_in false (bytes_eq s (codes "module")) all || false) g in
    let good = none_of (bad_in false (bytes_eq s (codes "module")) all) false inside.1 in
    rw (lowered-undirected all h k false, lowered-cooked all h k, lowered-initialized all h k, lowered-plain all h k, classes-good (bytes_eq s (codes "module")) all h k good.0) refl

printable-lowered : (k : ℕ) (t : Tree) → IsProgram t → (not (is_printable t) || is_printable (lowered_from k t)) ≡ true
printable-lowered k t h =
    printed (has_bad false false t) (has_bad false false (lowered_from k t)) (has_stray (no_jumps false) t) (has_stray (no_jumps false) (lowered_from k t))
    (has_stray_target false t || has_reserved no_words t) (has_stray_target false (lowered_from k t) || has_reserved no_words (lowered_from k t))
    (program-good k t h) (program-stays k t h) (λ i. rw (program-untargeted k t h, program-free k t h (none_of (has_stray_target false t) (has_reserved no_words t) i).1) refl)

pub lowered-stays_printable : (k : ℕ) (t : Tree) → IsProgram t → stays_printable t (lowered_from k t) ≡ true
lowered-stays_printable k t h = rw (printable-lowered k t h, no-bare k t h) refl
