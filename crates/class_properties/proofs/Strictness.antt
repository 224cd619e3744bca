-- A lowered program of the first form has no code that becomes strict: its classes were strict, and nothing else is.
use Rattle.std.specs.Prelude.{◌≡◌, ℕ, ◌+◌, ◌<◌, ◌≤◌, List, [], ◌∷◌, ◌++◌, map, Bool, true, false, ◌||◌, nat_eq}
use Rattle.std.proofs.Common.{refl, sym, ap, ap₂, ◌∙◌, arith, ◌⊎◌, inl, inr}
use Rattle.std.proofs.lemmas.Bool.{le-leb, true≢false}
use Rattle.std.proofs.lemmas.List.{map-append}
use Rattle.es_base.specs.Numbered.{is_new}
use Rattle.es_base.specs.Preorder.{nodes, nodes_of, nodes_of_part, number_of, preorder, preorder_of, preorder_of_part, numbered_from, numbered_part, numbered_parts}
use Rattle.es_base.specs.Tree.{Tree, Part, Parts, Node, end, more, child, absent, list, string, no_string, boolean, literal}
use Rattle.es_base.specs.declared.kind.Kind.{Kind}
use Rattle.es_steps.specs.KeptNodes.{are_new_or_among}
use Rattle.es_steps.specs.References.{has_number}
use Rattle.es_steps.specs.Strict.{if_strict, strict_numbers, strict_in, strict_at, has_use_strict}
use Rattle.es_unchanged.proofs.Standing.{or_right}
use Rattle.class_properties.proofs.Entering.{among-append}
use Rattle.class_properties.proofs.Laid.{Laid, none, kept, generated}
use Rattle.class_properties.proofs.Numbered.{lowered_statement, statement_size, lowered_statements}
use Rattle.class_properties.proofs.Shaped.{IsClass, a_class, AreClasses}

-- ---- in strict code all numbers are strict

mutual
  all-strict : (t : Tree) → strict_numbers true t ≡ map number_of (preorder t)
  all-strict (Node kind m span semantic_id ps) = ap (λ ns. m ∷ ns) (all-strict_in ps)

  all-strict_in : (ps : Parts) → strict_in true ps ≡ map number_of (preorder_of ps)
  all-strict_in end = refl
  all-strict_in (more p ps) = ap₂ (λ xs ys. xs ++ ys) (all-strict_at p) (all-strict_in ps) ∙ sym (map-append number_of (preorder_of_part p) (preorder_of ps))

  all-strict_at : (p : Part) → strict_at true p ≡ map number_of (preorder_of_part p)
  all-strict_at (child t) = all-strict t
  all-strict_at absent = refl
  all-strict_at (list ps) = all-strict_in ps
  all-strict_at (string s) = refl
  all-strict_at no_string = refl
  all-strict_at (boolean b) = refl
  all-strict_at (literal v) = refl

-- ---- the numbers of a tree that is numbered

has-left : (k : ℕ) (xs ys : List ℕ) → has_number k xs ≡ true → has_number k (xs ++ ys) ≡ true
has-left k [] ys h = absurd (true≢false (sym h))
has-left k (x ∷ xs) ys h = either (nat_eq k x) h (has-left k xs ys)
  where
    either : (b : Bool) → (b || has_number k xs) ≡ true → (has_number k xs ≡ true → has_number k (xs ++ ys) ≡ true) → (b || has_number k (xs ++ ys)) ≡ true
    either true i f = refl
    either false i f = f i

has-right : (k : ℕ) (xs ys : List ℕ) → has_number k ys ≡ true → has_number k (xs ++ ys) ≡ true
has-right k [] ys h = h
has-right k (x ∷ xs) ys h = or_right (nat_eq k x) (has_number k (xs ++ ys)) (has-right k xs ys h)

has-append : (k : ℕ) (ts us : List Tree) → has_number k (map number_of ts ++ map number_of us) ≡ true → has_number k (map number_of (ts ++ us)) ≡ true
has-append k ts us h = ap (has_number k) (map-append number_of ts us) ∙ h

below-or-not : (k n : ℕ) → (k < n) ⊎ (n ≤ k)
below-or-not k n = grind arith

first-or-later : (k n : ℕ) → n ≤ k → (nat_eq k n ≡ true) ⊎ (n + 1 ≤ k)
first-or-later k n l = grind (arith, l)

has-either : {A B : Type 0} (k : ℕ) (xs ys : List ℕ) → A ⊎ B → (A → has_number k xs ≡ true) → (B → has_number k ys ≡ true) → has_number k (xs ++ ys) ≡ true
has-either k xs ys (inl a) f g = has-left k xs ys (f a)
has-either k xs ys (inr b) f g = has-right k xs ys (g b)

mutual
  has-node : (k n : ℕ) (t : Tree) → (nat_eq k n ≡ true) ⊎ (n + 1 ≤ k) → k < n + nodes t → has_number k (map number_of (preorder (numbered_from n t))) ≡ true
  has-node k n (Node kind m span semantic_id ps) (inl e) u = rw e refl
  has-node k n (Node kind m span semantic_id ps) (inr i) u = or_right (nat_eq k n) (has_number k (map number_of (preorder_of (numbered_parts (n + 1) ps)))) (has-numbered_parts k (n + 1) ps i (omega (arith, u)))

  has-numbered_part : (k n : ℕ) (p : Part) → n ≤ k → k < n + nodes_of_part p → has_number k (map number_of (preorder_of_part (numbered_part n p))) ≡ true
  has-numbered_part k n (child t) l u = has-node k n t (first-or-later k n l) u
  has-numbered_part k n absent l u = absurd (omega (arith, l, u))
  has-numbered_part k n (list ps) l u = has-numbered_parts k n ps l u
  has-numbered_part k n (string s) l u = absurd (omega (arith, l, u))
  has-numbered_part k n no_string l u = absurd (omega (arith, l, u))
  has-numbered_part k n (boolean b) l u = absurd (omega (arith, l, u))
  has-numbered_part k n (literal v) l u = absurd (omega (arith, l, u))

  has-numbered_parts : (k n : ℕ) (ps : Parts) → n ≤ k → k < n + nodes_of ps → has_number k (map number_of (preorder_of (numbered_parts n ps))) ≡ true
  has-numbered_parts k n end l u = absurd (omega (arith, l, u))
  has-numbered_parts k n (more p ps) l u =
      has-append k (preorder_of_part (numbered_part n p)) (preorder_of (numbered_parts (n + nodes_of_part p) ps))
      (has-either k (map number_of (preorder_of_part (numbered_part n p))) (map number_of (preorder_of (numbered_parts (n + nodes_of_part p) ps))) (below-or-not k (n + nodes_of_part p))
      (λ i. has-numbered_part k n p l i) (λ i. has-numbered_parts k (n + nodes_of_part p) ps i (omega (arith, u))))

-- ---- classes are strict

class-strict : (strict : Bool) (p : Part) → IsClass p → (lo : ℕ) → strict_at strict (numbered_part lo p) ≡ map number_of (preorder_of_part (numbered_part lo p))
class-strict true p h lo = all-strict_at (numbered_part lo p)
class-strict false p (a_class m span semantic_id id body named h) lo = all-strict_at (numbered_part lo (child (Node Kind.ClassDeclaration m span semantic_id (more id (more absent (more body end))))))

lowered-strict : (strict : Bool) (n : ℕ) (p : Part) → IsClass p → (lo : ℕ) → strict_at strict (lowered_statement n (numbered_part lo p)) ≡ map number_of (preorder_of_part (lowered_statement n (numbered_part lo p)))
lowered-strict true n p h lo = all-strict_at (lowered_statement n (numbered_part lo p))
lowered-strict false n p (a_class m span semantic_id id body named h) lo = all-strict_at (lowered_statement n (numbered_part lo (child (Node Kind.ClassDeclaration m span semantic_id (more id (more absent (more body end)))))))

classes-strict : (strict : Bool) (ps : Parts) → AreClasses ps → (lo : ℕ) → strict_in strict (numbered_parts lo ps) ≡ map number_of (preorder_of (numbered_parts lo ps))
classes-strict strict end h lo = refl
classes-strict strict (more p ps) h lo =
    ap₂ (λ xs ys. xs ++ ys) (class-strict strict p h.0 lo) (classes-strict strict ps h.1 (lo + nodes_of_part p))
    ∙ sym (map-append number_of (preorder_of_part (numbered_part lo p)) (preorder_of (numbered_parts (lo + nodes_of_part p) ps)))

all-lowered-strict : (strict : Bool) (n : ℕ) (ps : Parts) → AreClasses ps → (lo : ℕ) → strict_in strict (lowered_statements n (numbered_parts lo ps)) ≡ map number_of (preorder_of (lowered_statements n (numbered_parts lo ps)))
all-lowered-strict strict n end h lo = refl
all-lowered-strict strict n (more p ps) h lo =
    let rest : Parts = lowered_statements (n + statement_size (numbered_part lo p)) (numbered_parts (lo + nodes_of_part p) ps) in
    ap₂ (λ xs ys. xs ++ ys) (lowered-strict strict n p h.0 lo) (all-lowered-strict strict (n + statement_size (numbered_part lo p)) ps h.1 (lo + nodes_of_part p))
    ∙ sym (map-append number_of (preorder_of_part (lowered_statement n (numbered_part lo p))) (preorder_of rest))

-- and none of them is a directive
pub no-directive : (ps : Parts) → AreClasses ps → (lo : ℕ) → has_use_strict (numbered_parts lo ps) ≡ false
no-directive end h lo = refl
no-directive (more p ps) (a_class m span semantic_id id body named h, rest) lo = no-directive ps rest (lo + nodes_of_part p)

pub no-lowered_directive : (n : ℕ) (ps : Parts) → AreClasses ps → (lo : ℕ) → has_use_strict (lowered_statements n (numbered_parts lo ps)) ≡ false
no-lowered_directive n end h lo = refl
no-lowered_directive n (more p ps) (a_class m span semantic_id id body named h, rest) lo = no-lowered_directive (n + statement_size (numbered_part lo p)) ps rest (lo + nodes_of_part p)

-- ---- none becomes strict

laid-strict : {first hi m lo n : ℕ} {ts : List Tree} (strict : List ℕ) → first ≤ n → ((k : ℕ) → lo ≤ k → k < first → has_number k strict ≡ true) → Laid first hi m lo n ts → are_new_or_among first strict (map number_of ts) ≡ true
laid-strict strict l f (none lh e) = refl
laid-strict {first = first} {ts = t ∷ ts} strict l f (kept a b s rest) =
    rw (or_right (is_new first (number_of t)) (has_number (number_of t) strict) (f (number_of t) a b))
    (laid-strict strict l (λ k i j. f k (omega (arith, a, i)) j) rest)
laid-strict {first = first} {ts = t ∷ ts} strict l f (generated e s rest) =
    rw (le-leb first (number_of t) (omega (arith, l, e))) (laid-strict strict (omega (arith, l)) f rest)

-- the program itself is strict in both, or in none
own-strict : (first : ℕ) (b : Bool) (rest : List ℕ) → are_new_or_among first (if_strict b 0 ++ rest) (if_strict b 0) ≡ true
own-strict first true rest = rw (or_right (is_new first 0) true refl) refl
own-strict first false rest = refl

pub program-strict : (first n : ℕ) (b : Bool) (all : Parts) → AreClasses all → 1 + nodes_of all ≡ first → first ≤ n → {m : ℕ} → Laid first (1 + nodes_of all) m 1 n (preorder_of (lowered_statements n (numbered_parts 1 all)))
    → are_new_or_among first (if_strict b 0 ++ (strict_in b (numbered_parts 1 all) ++ [])) (if_strict b 0 ++ (strict_in b (lowered_statements n (numbered_parts 1 all)) ++ [])) ≡ true
program-strict first n b all h e l laid =
    let source : List ℕ = strict_in b (numbered_parts 1 all) ++ [] in
    let all_strict : List ℕ = if_strict b 0 ++ source in
    let has : (k : ℕ) → 1 ≤ k → k < first → has_number k all_strict ≡ true =
    λ k i j. has-right k (if_strict b 0) source (has-left k (strict_in b (numbered_parts 1 all)) [] (ap (has_number k) (classes-strict b all h 1) ∙ has-numbered_parts k 1 all i (omega (arith, j, e)))) in
    among-append first all_strict (if_strict b 0) (strict_in b (lowered_statements n (numbered_parts 1 all)) ++ [])
    (own-strict first b source)
    (among-append first all_strict (strict_in b (lowered_statements n (numbered_parts 1 all))) [] (ap (are_new_or_among first all_strict) (all-lowered-strict b n all h 1) ∙ laid-strict all_strict l has laid) refl)
