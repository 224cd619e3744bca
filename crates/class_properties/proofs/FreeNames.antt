-- What a program of the first form is lowered to reads no name of a class: each name that it reads is free.
use Rattle.std.specs.Prelude.{◌≡◌, ℕ, ◌+◌, List, [], ◌∷◌, ◌++◌, Bool, true, false, cond, not, ◌||◌, ◌&&◌, nat_eq, bytes_eq, codes, Option, Some, None}
use Rattle.std.proofs.Common.{refl, ap, ◌∙◌}
use Rattle.std.proofs.lemmas.Bool.{and_parts}
use Rattle.std.proofs.lemmas.List.{append-nil}
use Rattle.es_base.specs.Conforms.{is_among}
use Rattle.es_base.specs.Preorder.{preorder}
use Rattle.es_base.specs.Tree.{Tree, Parts, Node, end, more, child, trees}
use Rattle.es_base.specs.declared.kind.Kind.{Kind}
use Rattle.es_left.proofs.Booleans.{both, none_of}
use Rattle.es_lowered.specs.ClassNames.{class_numbers, naming, class_runs, class_timely, all_classes_timely, classes_timely}
use Rattle.es_lowered.specs.Definitions.{class_identifiers, is_bound_among, names_class}
use Rattle.es_name_set.proofs.NameSets.{bytes_eq-flipped}
use Rattle.es_steps.proofs.FirstMeaning.{no_false, both_empty, unless_true}
use Rattle.es_steps.specs.FirstForm.{is_plain_name, is_plain_value, is_plain_key, is_new_name, unless, elements_breaches, body_breaches, statement_breaches, statements_breaches, class_names, breaches, no_numbers, is_first_form}
use Rattle.es_steps.specs.LoweredClasses.{referent_of}
use Rattle.es_steps.specs.References.{Reference, declared, referent, item_references, resolve}
use Rattle.es_steps.specs.Scopes.{Declaration, body_names}
use Rattle.es_steps.specs.Values.{String, Referent, Free}
use Rattle.es_unchanged.proofs.ClassNames.{unmoved}
use Rattle.class_properties.proofs.Declared.{names-definitions, names-lowered, four_ends, two_ends}
use Rattle.class_properties.proofs.Numbered.{definitions_from, lowered_elements, statement_size, lowered_statements, lowered_from}
use Rattle.class_properties.proofs.Shaped.{no_value, a_literal, a_reference, a_field, AreFields, a_body, a_name, a_class, AreClasses, IsProgram, a_program}

-- ---- names that the classes do not declare: that of the helpers, and those of values

pub record Leaves (classes : List String) (names : List Declaration) : Type 0 where
  pub helpers : declared (codes "babelHelpers") names ≡ None
  pub others : (s : String) → is_among s classes ≡ false → declared s names ≡ None

pub leaves : (ps : Parts) → AreClasses ps → Leaves (class_names ps) (body_names ps ++ [])
leaves end h = record { helpers = refl; others = λ s a. refl }
leaves (more p ps) (a_class n span semantic_id id body (a_name i ispan i_semantic_id x other) hbody, h) =
    let rest : Leaves (class_names ps) (body_names ps ++ []) = leaves ps h in record {
      helpers = rw (none_of (bytes_eq (codes "babelHelpers") x) _ other).0 rest.helpers;
      others = λ s a. behind s (none_of (bytes_eq x s) (is_among s (class_names ps)) a) rest;
    }
  where
    behind : (s : String) → (bytes_eq x s ≡ false) × (is_among s (class_names ps) ≡ false) → Leaves (class_names ps) (body_names ps ++ []) → declared s (body_names (more p ps) ++ []) ≡ None
    behind s apart rest = rw (bytes_eq-flipped s x ∙ apart.0) (rest.others s apart.1)

-- ---- references, each of which is free

abbrev pub AreFree : List Reference → Type 0
AreFree [] = Unit
AreFree (r ∷ rs) = (r.to ≡ Free r.spelling) × AreFree rs

free-append : (xs ys : List Reference) → AreFree xs → AreFree ys → AreFree (xs ++ ys)
free-append [] ys a b = b
free-append (x ∷ xs) ys a b = (a.0, free-append xs ys a.1 b)

not_first : (a b : Bool) → not (a || b) ≡ true → a ≡ false
not_first true b h = no_false h
not_first false b h = refl

module _ (classes : List String) (names : List Declaration) (l : Leaves classes names) where
  helpers-free : referent (codes "babelHelpers") (declared (codes "babelHelpers") names) ≡ Free (codes "babelHelpers")
  helpers-free = ap (referent (codes "babelHelpers")) l.helpers

  definitions-free : (es : Parts) → AreFields es → no_numbers (elements_breaches classes es) ≡ true → (k : ℕ) → AreFree (item_references names false (trees (definitions_from k es)))
  definitions-free end h f k = tt
  definitions-free (more p es) (a_field m span semantic_id key v hk no_value, h) f k =
      let free = both_empty (unless (is_plain_key key && true) m) (elements_breaches classes es) f in
      (helpers-free, definitions-free es h free.1 (k + 9))
  definitions-free (more p es) (a_field m span semantic_id key v hk (a_literal i ispan i_semantic_id w fine), h) f k =
      let free = both_empty (unless (is_plain_key key && is_plain_value classes v) m) (elements_breaches classes es) f in
      (helpers-free, definitions-free es h free.1 (k + 7))
  definitions-free (more p es) (a_field m span semantic_id key v hk (a_reference i ispan i_semantic_id s), h) f k =
      let free = both_empty (unless (is_plain_key key && is_plain_name classes s) m) (elements_breaches classes es) f in
      let plain = and_parts (is_plain_key key) (is_plain_name classes s) (unless_true (is_plain_key key && is_plain_name classes s) m free.0) in
      let other : is_among s classes ≡ false = not_first (is_among s classes) (bytes_eq s (codes "arguments")) plain.1 in
      (helpers-free, (ap (referent s) (l.others s other), definitions-free es h free.1 (k + 7)))

  elements-free : (es : Parts) → AreFields es → no_numbers (elements_breaches classes es) ≡ true → (k : ℕ) → AreFree (item_references names false (lowered_elements k es))
  elements-free end h f k = tt
  elements-free (more p es) h f k =
      rw (names-definitions (more p es) h (k + 4), four_ends (item_references names false (trees (definitions_from (k + 4) (more p es))))) (definitions-free (more p es) h f (k + 4))

  classes-free : (earlier : List String) (ps : Parts) → AreClasses ps → no_numbers (statements_breaches earlier classes ps) ≡ true → (k : ℕ) → AreFree (item_references names false (lowered_statements k ps))
  classes-free earlier end h f k = tt
  classes-free earlier (more p ps) (a_class n span semantic_id id body (a_name i ispan i_semantic_id s other) (a_body m bspan b_semantic_id es he), h) f k =
      let next : ℕ = k + statement_size p in
      let behind : List String = class_names (more p end) ++ earlier in
      let free = both_empty (statement_breaches earlier classes p) (statements_breaches behind classes ps) f in
      let inside = both_empty (unless (is_new_name earlier id && true) n) (body_breaches classes body) free.0 in
      rw (two_ends (item_references names false (lowered_elements k es)) (item_references names false (lowered_statements next ps)))
      (free-append (item_references names false (lowered_elements k es)) (item_references names false (lowered_statements next ps)) (elements-free es he inside.1 k) (classes-free behind ps h free.1 next))

pub lowered-free : (k : ℕ) (t : Tree) → IsProgram t → is_first_form t [] ≡ true → AreFree (resolve (lowered_from k t))
lowered-free k t (a_program m span semantic_id s all h) f =
    let names : List Declaration = body_names all ++ [] in
    let plain : no_numbers (breaches t) ≡ true = (both_empty (breaches t) [] f).0 in
    let free = both_empty (unless _ m) (statements_breaches [] (class_names all) all) plain in
    rw (names-lowered all h k, append-nil (item_references names false (lowered_statements k all))) (classes-free (class_names all) names (leaves all h) [] all h free.1 k)

-- ---- so none of them names a class

module _ (n : ℕ) (rs : List Reference) (ids : List ℕ) (free : AreFree rs) where
  name-none : (t : Tree) → names_class n [] rs ids (child t) ≡ false
  name-none (Node Kind.IdentifierReference m span semantic_id ps) = unbound m rs free
    where
      either : (b : Bool) (s : String) (x : Option Referent) → is_bound_among ids x ≡ false → is_bound_among ids (cond b (Some (Free s)) x) ≡ false
      either true s x e = refl
      either false s x e = e

      unbound : (m : ℕ) (rs : List Reference) → AreFree rs → is_bound_among ids (referent_of m rs) ≡ false
      unbound m [] a = refl
      unbound m (r ∷ rs) a = rw a.0 (either (nat_eq m r.number) r.spelling (referent_of m rs) (unbound m rs a.1))
  name-none t = refl

  naming-none : (ts : List Tree) → naming n [] rs ids ts ≡ []
  naming-none [] = refl
  naming-none (t ∷ ts) = rw (name-none t, naming-none ts) refl

class-timely : (first : ℕ) (p q : Tree) (n : ℕ) → AreFree (resolve q) → class_timely first [] p q n ≡ true
class-timely first p q n free =
    rw (unmoved (preorder q), naming-none n (resolve q) (class_identifiers first n (preorder q)) free (preorder q)) (unread (class_runs n (preorder q)))
  where
    unread : (runs : Bool) → not (runs && false) && true ≡ true
    unread true = refl
    unread false = refl

all-timely : (first : ℕ) (p q : Tree) (ns : List ℕ) → AreFree (resolve q) → all_classes_timely first [] p q ns ≡ true
all-timely first p q [] free = refl
all-timely first p q (n ∷ ns) free = both (class-timely first p q n free) (all-timely first p q ns free)

pub classes-timely : (first k : ℕ) (t : Tree) → IsProgram t → is_first_form t [] ≡ true → classes_timely first [] t (lowered_from k t) ≡ true
classes-timely first k t p f = all-timely first t (lowered_from k t) (class_numbers (preorder t)) (lowered-free k t p f)
