-- Giving the new nodes of a lowered program their numbers gives the program whose numbers are written out one by one.
use Rattle.std.specs.Prelude.{nat_le}
use Rattle.std.proofs.Common.{◌≡◌, refl, sym, ap, ap₂, ◌∙◌, subst, ℕ, ◌+◌, ◌≤◌, List, [], map, Bool, true, false, arith}
use Rattle.std.proofs.lemmas.Bool.{le-leb, lt-leb}
use Rattle.es_base.specs.Conforms.{conforms}
use Rattle.es_base.specs.Numbered.{unnumbered}
use Rattle.es_base.specs.Preorder.{nodes, nodes_of, nodes_of_part, numbered_from, numbered_part, numbered_parts, one_if, news, news_of, news_of_part, renumbered, renumbered_part, renumbered_parts}
use Rattle.es_base.specs.Tree.{Tree, Part, Parts, Node, end, more, child, absent, list, string, no_string, boolean, literal, trees}
use Rattle.es_base.specs.declared.kind.Kind.{Kind}
use Rattle.es_base.specs.declared.table.Place.{Place}
use Rattle.es_steps.specs.FirstForm.{is_first_form}
use Rattle.es_steps.specs.Generated.{constructor_at, define_at, void_at}
use Rattle.es_steps.specs.Values.{String}
use Rattle.class_properties.specs.Lowering.{children, void_0, define_property, constructor, value_or_void, definition, lowered_elements, lowered_class, with_constructors, lowered}
use Rattle.class_properties.proofs.Numbered as numbered
use Rattle.class_properties.proofs.Small.{form-fits}
use Rattle.class_properties.proofs.Shaped.{IsValue, no_value, a_literal, a_reference, a_key, a_field, AreFields, a_name, a_body, a_class, AreClasses, IsProgram, a_program, first_form-shaped}

-- ---- a tree without new nodes stays as it is

not_new : (b : Bool) → one_if b ≡ 0 → b ≡ false
not_new true e = absurd (omega (arith, e))
not_new false e = refl

both_none : (j k : ℕ) → j + k ≡ 0 → (j ≡ 0) × (k ≡ 0)
both_none j k e = (omega (arith, e), omega (arith, e))

mutual
  renumbered-old : (first n : ℕ) (t : Tree) → news first t ≡ 0 → renumbered first n t ≡ t
  renumbered-old first n (Node kind id span semantic_id parts) none =
      let old = both_none (one_if (nat_le first id)) (news_of first parts) none in
      rw (not_new (nat_le first id) old.0) (ap (Node kind id span semantic_id) (renumbered_parts-old first _ parts old.1))

  renumbered_part-old : (first n : ℕ) (p : Part) → news_of_part first p ≡ 0 → renumbered_part first n p ≡ p
  renumbered_part-old first n (child t) none = ap child (renumbered-old first n t none)
  renumbered_part-old first n absent none = refl
  renumbered_part-old first n (list all) none = ap list (renumbered_parts-old first n all none)
  renumbered_part-old first n (string chars) none = refl
  renumbered_part-old first n no_string none = refl
  renumbered_part-old first n (boolean value) none = refl
  renumbered_part-old first n (literal value) none = refl

  renumbered_parts-old : (first n : ℕ) (ps : Parts) → news_of first ps ≡ 0 → renumbered_parts first n ps ≡ ps
  renumbered_parts-old first n end none = refl
  renumbered_parts-old first n (more p rest) none =
      let old = both_none (news_of_part first p) (news_of first rest) none in
      ap₂ more (renumbered_part-old first n p old.0) (renumbered_parts-old first _ rest old.1)

-- the numbers n, n + 1, .. of a tree, where they end by `first`, are not new
mutual
  news-numbered : (first n : ℕ) (t : Tree) → n + nodes t ≤ first → news first (numbered_from n t) ≡ 0
  news-numbered first n (Node kind id span semantic_id parts) l = rw (lt-leb first n (omega (arith, l))) (omega (arith, news_of-numbered first (n + 1) parts (omega (arith, l))))

  news_of_part-numbered : (first n : ℕ) (p : Part) → n + nodes_of_part p ≤ first → news_of_part first (numbered_part n p) ≡ 0
  news_of_part-numbered first n (child t) l = news-numbered first n t l
  news_of_part-numbered first n absent l = refl
  news_of_part-numbered first n (list all) l = news_of-numbered first n all l
  news_of_part-numbered first n (string chars) l = refl
  news_of_part-numbered first n no_string l = refl
  news_of_part-numbered first n (boolean value) l = refl
  news_of_part-numbered first n (literal value) l = refl

  news_of-numbered : (first n : ℕ) (ps : Parts) → n + nodes_of ps ≤ first → news_of first (numbered_parts n ps) ≡ 0
  news_of-numbered first n end l = refl
  news_of-numbered first n (more p rest) l =
      omega (arith, news_of_part-numbered first n p (omega (arith, l)), news_of-numbered first (n + nodes_of_part p) rest (omega (arith, l)))

-- ---- new nodes

module _ (first : ℕ) (fits : first ≤ unnumbered) where
  new : nat_le first unnumbered ≡ true
  new = le-leb first unnumbered fits

  void-numbered : (n : ℕ) → renumbered first n void_0 ≡ void_at n
  void-numbered n =
      let second : n + 1 + 0 ≡ n + 1 = omega arith in
      rw (new, second) refl

  define-numbered : (n : ℕ) (s : String) (v w : Tree) → ((j : ℕ) → j ≡ n + 7 → renumbered first j v ≡ w) → renumbered first n (define_property s v) ≡ define_at n s w
  define-numbered n s v w same =
      let second : n + 1 + 1 ≡ n + 2 = omega arith in
      let third : n + 2 + 1 ≡ n + 3 = omega arith in
      let fourth : n + 3 + 1 ≡ n + 4 = omega arith in
      let fifth : n + 2 + 3 ≡ n + 5 = omega arith in
      let sixth : n + 5 + 1 ≡ n + 6 = omega arith in
      rw (new, second, third, fourth, fifth, sixth, same (n + 6 + 1) (omega arith)) refl

  constructor-numbered : (n : ℕ) (ts us : List Tree) → ((j : ℕ) → j ≡ n + 4 → renumbered_parts first j (trees ts) ≡ trees us) → renumbered first n (constructor ts) ≡ constructor_at n us
  constructor-numbered n ts us same =
      let second : n + 1 + 1 ≡ n + 2 = omega arith in
      let third : n + 2 + 1 + 0 + 0 ≡ n + 3 = omega arith in
      rw (new, second, third, same (n + 3 + 1) (omega arith)) refl

  -- ---- fields

  news-void : news first void_0 ≡ 2
  news-void = rw new refl

  news-define : (s : String) (v : Tree) → news first (define_property s v) ≡ 7 + news first v
  news-define s v = rw new (omega arith)

  news-constructor : (ts : List Tree) → news first (constructor ts) ≡ 4 + news_of first (trees ts)
  news-constructor ts = rw new (omega arith)

  value-numbered : (n : ℕ) (v : Part) → IsValue v → news_of_part first v ≡ 0 → renumbered first n (value_or_void v) ≡ numbered.value_from n v
  value-numbered n v no_value none = void-numbered n
  value-numbered n v (a_literal m span semantic_id x fine) none = renumbered-old first n _ none
  value-numbered n v (a_reference m span semantic_id s) none = renumbered-old first n _ none

  value-news : (v : Part) → IsValue v → news_of_part first v ≡ 0 → news first (value_or_void v) ≡ numbered.value_size v
  value-news v no_value none = news-void
  value-news v (a_literal m span semantic_id x fine) none = none
  value-news v (a_reference m span semantic_id s) none = none

  definitions-numbered : (es : Parts) → AreFields es → news_of first es ≡ 0 → (n k : ℕ) → k ≡ n → renumbered_parts first k (trees (map definition (children es))) ≡ trees (numbered.definitions_from n es)
  definitions-numbered end h none n k e = refl
  definitions-numbered (more p es) (a_field m span semantic_id key v (a_key i ispan i_semantic_id s) hv, h) none n k e =
      let old : news_of_part first v ≡ 0 = omega (arith, none) in
      let size : news first (define_property s (value_or_void v)) ≡ 7 + numbered.value_size v = news-define s (value_or_void v) ∙ ap (λ j. 7 + j) (value-news v hv old) in
      rw e
      (ap₂ (λ t rest. more (child t) rest)
      (define-numbered n s (value_or_void v) _ (λ j l. value-numbered j v hv old ∙ ap (λ i. numbered.value_from i v) l))
      (definitions-numbered es h (omega (arith, none)) _ _ (ap (λ j. n + j) size)))

  definitions-news : (es : Parts) → AreFields es → news_of first es ≡ 0 → news_of first (trees (map definition (children es))) ≡ numbered.fields_size es
  definitions-news end h none = refl
  definitions-news (more p es) (a_field m span semantic_id key v (a_key i ispan i_semantic_id s) hv, h) none =
      ap₂ (λ j k. j + k) (news-define s (value_or_void v) ∙ ap (λ j. 7 + j) (value-news v hv (omega (arith, none)))) (definitions-news es h (omega (arith, none)))

  -- ---- classes

  elements-numbered : (n k : ℕ) (es : Parts) → AreFields es → news_of first es ≡ 0 → k ≡ n → renumbered_parts first k (trees (lowered_elements (children es))) ≡ numbered.lowered_elements n es
  elements-numbered n k end h none e = refl
  elements-numbered n k (more p es) (a_field m span semantic_id key v hk hv, h) none e =
      let fields : AreFields (more p es) = (a_field m span semantic_id key v hk hv, h) in
      rw e (ap (λ t. more (child t) end) (constructor-numbered n (map definition (children (more p es))) (numbered.definitions_from (n + 4) (more p es)) (λ j l. definitions-numbered (more p es) fields none (n + 4) j l)))

  elements-news : (es : Parts) → AreFields es → news_of first es ≡ 0 → news_of first (trees (lowered_elements (children es))) ≡ numbered.elements_size es
  elements-news end h none = refl
  elements-news (more p es) (a_field m span semantic_id key v hk hv, h) none =
      omega (arith, news-constructor (map definition (children (more p es))), definitions-news (more p es) (a_field m span semantic_id key v hk hv, h) none)

  classes-numbered : (ps : Parts) → AreClasses ps → news_of first ps ≡ 0 → (n k : ℕ) → k ≡ n → renumbered_parts first k (trees (map lowered_class (children ps))) ≡ numbered.lowered_statements n ps
  classes-numbered end h none n k e = refl
  classes-numbered (more p ps) (a_class m span semantic_id id body (a_name i ispan i_semantic_id s free) (a_body b bspan b_semantic_id es he), h) none n k e =
      let class_old : nat_le first m ≡ false = not_new (nat_le first m) (omega (arith, none)) in
      let name_old : nat_le first i ≡ false = not_new (nat_le first i) (omega (arith, none)) in
      let body_old : nat_le first b ≡ false = not_new (nat_le first b) (omega (arith, none)) in
      let fields_old : news_of first es ≡ 0 = omega (arith, none) in
      rw (class_old, name_old, body_old)
      (ap₂ (λ elements rest. more (child (Node Kind.ClassDeclaration m span semantic_id (more id (more absent (more (child (Node Kind.ClassBody b bspan b_semantic_id (more (list elements) end))) end))))) rest)
      (elements-numbered n _ es he fields_old (omega (arith, e)))
      (classes-numbered ps h (omega (arith, none)) (n + numbered.elements_size es) _ (omega (arith, e, elements-news es he fields_old))))

  program-numbered : (n : ℕ) (t : Tree) → IsProgram t → news first t ≡ 0 → renumbered first n (with_constructors t) ≡ numbered.lowered_from n t
  program-numbered n t (a_program m span semantic_id s all h) none =
      rw (not_new (nat_le first m) (omega (arith, none))) (ap (λ classes. Node Kind.Program m span semantic_id (more (string s) (more (list classes) end))) (classes-numbered all h (omega (arith, none)) n _ (omega arith)))

-- a program of the first form has fewer nodes than there are numbers
program-fits : (t : Tree) → is_first_form t [] ≡ true → nodes t ≤ unnumbered
program-fits t h = omega (arith, form-fits t [] h)

pub lowered-numbered : (t : Tree) → conforms Place.Program t ≡ true → is_first_form t [] ≡ true → t ≡ numbered_from 0 t → lowered t ≡ numbered.lowered t
lowered-numbered t f h e =
    let old : news (nodes t) t ≡ 0 = subst (λ u. news (nodes t) u ≡ 0) (sym e) (news-numbered (nodes t) 0 t (omega arith)) in
    program-numbered (nodes t) (program-fits t h) (nodes t) t (first_form-shaped t [] f h) old
