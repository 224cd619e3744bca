-- In a lowered program of the first form each literal has its text: the values are those of the source, the keys have none.
use Rattle.std.specs.Prelude.{◌≡◌, ℕ, ◌+◌, ◌≤◌, List, [], ◌∷◌, ◌++◌, Bool, true, false, cond, codes, None}
use Rattle.std.proofs.Common.{refl, sym, subst, arith}
use Rattle.std.proofs.lemmas.Bool.{le-leb, lt-leb, and_parts}
use Rattle.std.proofs.lemmas.List.{append-nil}
use Rattle.es_base.specs.Numbered.{is_new}
use Rattle.es_base.specs.Preorder.{nodes, number_of, preorder, preorder_of, numbered_from}
use Rattle.es_base.specs.Tree.{Tree, Parts, Node, end, more, string, literal, trees}
use Rattle.es_base.specs.declared.kind.Kind.{Kind}
use Rattle.es_left.proofs.Booleans.{both}
use Rattle.es_steps.specs.KeptNodes.{stands_equal}
use Rattle.es_lowered.specs.Texts.{is_new_name, has_characters, all_have_their_texts, texts_stay}
use Rattle.es_unchanged.proofs.Standing.{or_right, In, here, later, in-left, in-right, stands-equal}
use Rattle.es_unchanged.proofs.Unchanged.{Below, numbered-below, old-characters}
use Rattle.class_properties.proofs.Numbered.{definitions_from, lowered_elements, lowered_statements, lowered_from, statement_size}
use Rattle.class_properties.proofs.Numbered as numbered
use Rattle.class_properties.proofs.Shaped.{no_value, a_literal, a_reference, a_key, a_field, AreFields, a_name, a_body, a_class, AreClasses, IsProgram, a_program}

pub below-old : (first : ℕ) (t : Tree) (ts : List Tree) → Below first ts → In t ts → is_new first (number_of t) ≡ false
below-old first t [] b h = elim h [ ]
below-old first t (u ∷ ts) b here = lt-leb first (number_of t) b.0
below-old first t (u ∷ ts) b (later i) = below-old first t ts b.1 i

-- nodes that are old, among those of the source
abbrev pub OldAmong : ℕ → List Tree → List Tree → Type 0
OldAmong first ts ps = (t : Tree) → In t ts → (is_new first (number_of t) ≡ false) × In t ps

texts-append : (first : ℕ) (ps ts us : List Tree) → all_have_their_texts first ps ts ≡ true → all_have_their_texts first ps us ≡ true → all_have_their_texts first ps (ts ++ us) ≡ true
texts-append first ps [] us a b = b
texts-append first ps (t ∷ ts) us a b =
    let parts = and_parts _ (all_have_their_texts first ps ts) a in
    both parts.0 (texts-append first ps ts us parts.1 b)

module _ (first : ℕ) (ps : List Tree) where
  -- an old literal of the source
  old-text : (t : Tree) (b : Bool) → is_new first (number_of t) ≡ false → In t ps → cond (is_new first (number_of t)) b (stands_equal t ps) ≡ true
  old-text t b e i = rw e (stands-equal t ps i)

  -- a new name of characters of ASCII, as the helper, its member and the constructor have
  new-characters : (t : Tree) (s : List ℕ) → is_new_name ps s ≡ true → has_characters true ps t s ≡ true
  new-characters t s h = or_right (stands_equal t ps) (is_new_name ps s) h

  helper-characters : (n : ℕ) → has_characters true ps (Node Kind.IdentifierReference n None None (more (string (codes "babelHelpers")) end)) (codes "babelHelpers") ≡ true
  helper-characters n = new-characters (Node Kind.IdentifierReference n None None (more (string (codes "babelHelpers")) end)) (codes "babelHelpers") refl

  member-characters : (n : ℕ) → has_characters true ps (Node Kind.IdentifierName n None None (more (string (codes "defineProperty")) end)) (codes "defineProperty") ≡ true
  member-characters n = new-characters (Node Kind.IdentifierName n None None (more (string (codes "defineProperty")) end)) (codes "defineProperty") refl

  constructor-characters : (n : ℕ) → has_characters true ps (Node Kind.IdentifierName n None None (more (string (codes "constructor")) end)) (codes "constructor") ≡ true
  constructor-characters n = new-characters (Node Kind.IdentifierName n None None (more (string (codes "constructor")) end)) (codes "constructor") refl

  fields-texts : (es : Parts) → AreFields es → OldAmong first (preorder_of es) ps → (n : ℕ) → first ≤ n → all_have_their_texts first ps (preorder_of (trees (definitions_from n es))) ≡ true
  fields-texts end h old n l = refl
  fields-texts (more p es) (a_field m span semantic_id k v (a_key km kspan k_semantic_id s) no_value, h) old n l =
      rw (helper-characters (n + 3), member-characters (n + 4), le-leb first (n + 6) (omega (arith, l)), le-leb first (n + 7 + 1) (omega (arith, l))) (fields-texts es h (λ t i. old t (later (later i))) (n + 9) (omega (arith, l)))
  fields-texts (more p es) (a_field m span semantic_id k v (a_key km kspan k_semantic_id s) (a_literal vm vspan v_semantic_id x fine), h) old n l =
      let value : Tree = Node Kind.Literal vm vspan v_semantic_id (more (literal x) end) in
      let stands = old value (later (later here)) in
      rw (helper-characters (n + 3), member-characters (n + 4), le-leb first (n + 6) (omega (arith, l)), stands.0, stands-equal value ps stands.1) (fields-texts es h (λ t i. old t (later (later (later i)))) (n + 7) (omega (arith, l)))
  fields-texts (more p es) (a_field m span semantic_id k v (a_key km kspan k_semantic_id s) (a_reference vm vspan v_semantic_id x), h) old n l =
      let value : Tree = Node Kind.IdentifierReference vm vspan v_semantic_id (more (string x) end) in
      rw (helper-characters (n + 3), member-characters (n + 4), le-leb first (n + 6) (omega (arith, l)), old-characters true value ps x (old value (later (later here))).1) (fields-texts es h (λ t i. old t (later (later (later i)))) (n + 7) (omega (arith, l)))

  elements-texts : (es : Parts) → AreFields es → OldAmong first (preorder_of es) ps → (n : ℕ) → first ≤ n → all_have_their_texts first ps (preorder_of (lowered_elements n es)) ≡ true
  elements-texts end h old n l = refl
  elements-texts (more p es) h old n l =
      let made : List Tree = preorder_of (trees (definitions_from (n + 4) (more p es))) in
      rw (constructor-characters (n + 1), append-nil made, append-nil made, append-nil made, append-nil made) (fields-texts (more p es) h old (n + 4) (omega (arith, l)))

  classes-texts : (cs : Parts) → AreClasses cs → OldAmong first (preorder_of cs) ps → (n : ℕ) → first ≤ n → all_have_their_texts first ps (preorder_of (lowered_statements n cs)) ≡ true
  classes-texts end h old n l = refl
  classes-texts (more p cs) (a_class m span semantic_id id body (a_name i ispan i_semantic_id s free) (a_body j bspan b_semantic_id es he), h) old n l =
      let next : ℕ = n + statement_size p in
      let made : List Tree = preorder_of (lowered_elements n es) in
      let rest : List Tree = preorder_of (lowered_statements next cs) in
      let name : Tree = Node Kind.BindingIdentifier i ispan i_semantic_id (more (string s) end) in
      rw (old-characters true name ps s (old name (later here)).1)
      (texts-append first ps ((made ++ []) ++ []) rest
      (texts-append first ps (made ++ []) [] (texts-append first ps made [] (elements-texts es he (λ t k. old t (later (later (later (in-left t ((preorder_of es ++ []) ++ []) (preorder_of cs) (in-left t (preorder_of es ++ []) [] (in-left t (preorder_of es) [] k))))))) n l) refl) refl)
      (classes-texts cs h (λ t k. old t (later (later (later (in-right t ((preorder_of es ++ []) ++ []) (preorder_of cs) k))))) next (omega (arith, l))))

  program-texts : (k : ℕ) (t : Tree) → IsProgram t → OldAmong first (preorder t) ps → first ≤ k → all_have_their_texts first ps (preorder (lowered_from k t)) ≡ true
  program-texts k t (a_program m span semantic_id s all h) old l =
      texts-append first ps (preorder_of (lowered_statements k all)) [] (classes-texts all h (λ u i. old u (later (in-left u (preorder_of all) [] i))) k l) refl

pub texts-stay : (t : Tree) → IsProgram t → t ≡ numbered_from 0 t → texts_stay (nodes t) t (numbered.lowered t) ≡ true
texts-stay t p e =
    let below : Below (nodes t) (preorder t) = subst (λ u. Below (nodes t) (preorder u)) (sym e) (numbered-below (nodes t) 0 t (omega arith)) in
    program-texts (nodes t) (preorder t) (nodes t) t p (λ u i. (below-old (nodes t) u (preorder t) below i, i)) (omega arith)
