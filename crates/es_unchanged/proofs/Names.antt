-- In a program that is left as it is no class loses its name, no code becomes strict, and nothing gets into a class.
use Rattle.std.specs.Prelude.{◌≡◌, ℕ, List, [], ◌∷◌, map, Bool, true, false, ◌||◌, not, nat_eq, Option}
use Rattle.std.specs.List.{IsDistinct, AllByRecursion}
use Rattle.std.proofs.Common.{refl}
use Rattle.std.proofs.Math.Bool.{and-false}
use Rattle.es_base.specs.Numbered.{is_new, EachOnce}
use Rattle.es_base.specs.Preorder.{number_of, preorder, preorder_of_part}
use Rattle.es_base.specs.Tree.{Tree, Parts, Node, end, more, child, absent}
use Rattle.es_base.specs.declared.kind.Kind.{Kind}
use Rattle.es_base.specs.declared.ledger.LedgerEntry.{LedgerEntry}
use Rattle.es_left.proofs.Booleans.{both}
use Rattle.es_lowered.specs.ClassNames.{MovedFunction, moved_functions}
use Rattle.es_steps.proofs.Reflexive.{number-same}
use Rattle.es_steps.specs.KeptNodes.{are_new_or_among, numbers_in_class, none_enters, classes_kept}
use Rattle.es_lowered.specs.OwnNames.{is_bound_among, references_to, identifier_at, identifiers_at, any_stands, loses_name, none_loses_name, declares_by, any_declares, reads_itself, none_reads_itself, own_names_stay}
use Rattle.es_steps.specs.Parts.{at}
use Rattle.es_steps.specs.PrivateNames.{is_class}
use Rattle.es_steps.specs.References.{Reference, resolve, has_number}
use Rattle.es_steps.specs.Strict.{strict_numbers, none_becomes_strict}
use Rattle.es_steps.specs.Values.{Referent, Bound}
use Rattle.es_unchanged.proofs.Standing.{In, here, later, Among, apart-sym, or_right}

-- ---- own names

identifier-apart : (n : ℕ) (t : Tree) → nat_eq n (number_of t) ≡ false → identifier_at n t ≡ []
identifier-apart n (Node Kind.ClassDeclaration m span semantic_id (more (child (Node kind b bspan b_semantic_id bs)) ps)) e = rw e refl
identifier-apart n t e = refl

identifiers-apart : (n : ℕ) (ts : List Tree) → AllByRecursion (λ y. nat_eq n y ≡ false) (map number_of ts) → identifiers_at n ts ≡ []
identifiers-apart n [] a = refl
identifiers-apart n (t ∷ ts) a = rw (identifier-apart n t a.0, identifiers-apart n ts a.1) refl

pub number-apart : (k : ℕ) (t : Tree) (ts : List Tree) → AllByRecursion (λ y. nat_eq k y ≡ false) (map number_of ts) → In t ts → nat_eq k (number_of t) ≡ false
number-apart k t [] a h = elim h [ ]
number-apart k t (u ∷ ts) a here = a.0
number-apart k t (u ∷ ts) a (later i) = number-apart k t ts a.1 i

-- no declaration has the number of a tree that is none
identifiers-none : (t : Tree) (ts : List Tree) → EachOnce (map number_of ts) → In t ts → identifier_at (number_of t) t ≡ [] → identifiers_at (number_of t) ts ≡ []
unfolding IsDistinct
identifiers-none t [] once h e = elim h [ ]
identifiers-none t (u ∷ ts) once here e = rw (e, identifiers-apart (number_of t) ts once.0) refl
identifiers-none t (u ∷ ts) once (later i) e =
    rw (identifier-apart (number_of t) u (apart-sym (number_of u) (number_of t) (number-apart (number_of u) t ts once.0 i)), identifiers-none t ts once.1 i e) refl

bound-none : (r : Referent) → is_bound_among [] r ≡ false
bound-none (Bound b) = refl
bound-none r = refl

references-none : (rs : List Reference) → references_to [] rs ≡ []
references-none [] = refl
references-none (r ∷ rs) = rw (bound-none r.to, references-none rs) refl

stands-none : (ts : List Tree) → any_stands [] ts ≡ false
stands-none [] = refl
stands-none (t ∷ ts) = stands-none ts

loses-none : (t : Tree) (ts : List Tree) (rs : List Reference) → EachOnce (map number_of ts) → In t ts → loses_name ts rs t ≡ false
loses-none (Node Kind.ClassExpression n span semantic_id (more absent (more heritage (more body rest)))) ts rs once h =
    rw (identifiers-none (Node Kind.ClassExpression n span semantic_id (more absent (more heritage (more body rest)))) ts once h refl, references-none rs, stands-none (preorder_of_part body)) refl
loses-none t ts rs once h = refl

none-loses : (ts us : List Tree) (rs : List Reference) → EachOnce (map number_of us) → Among ts us → none_loses_name us rs ts ≡ true
none-loses [] us rs once h = refl
none-loses (t ∷ ts) us rs once h = rw (loses-none t us rs once (h t here)) (none-loses ts us rs once (λ u i. h u (later i)))

-- each declarator is one of the program
declares-itself : (t : Tree) (ts : List Tree) (m b : ℕ) → In t ts → declares_by m b t ≡ true → any_declares m b ts ≡ true
declares-itself t [] m b h e = elim h [ ]
declares-itself t (u ∷ us) m b here e = rw e refl
declares-itself t (u ∷ us) m b (later i) e = or_right (declares_by m b u) (any_declares m b us) (declares-itself t us m b i e)

module _ (ledger : List LedgerEntry) (fs : List MovedFunction) (qs : List Tree) where
  reads-none : (t : Tree) (ts : List Tree) (rs : List Reference) → In t ts → reads_itself ledger fs ts qs rs t ≡ false
  reads-none (Node Kind.VariableDeclarator m span semantic_id (more (child (Node kind b bspan b_semantic_id bs)) (more e end))) ts rs h =
      rw (declares-itself (Node Kind.VariableDeclarator m span semantic_id (more (child (Node kind b bspan b_semantic_id bs)) (more e end))) ts m b h (rw (number-same m, number-same b) refl)) refl
  reads-none t ts rs h = refl

  none-reads : (ts us : List Tree) (rs : List Reference) → Among ts us → none_reads_itself ledger fs us qs rs ts ≡ true
  none-reads [] us rs h = refl
  none-reads (t ∷ ts) us rs h = rw (reads-none t us rs (h t here)) (none-reads ts us rs (λ u i. h u (later i)))

pub names-stay : (t : Tree) → EachOnce (map number_of (preorder t)) → own_names_stay [] t t ≡ true
names-stay t once = both (none-loses (preorder t) (preorder t) (resolve t) once (λ u i. i)) (none-reads [] (moved_functions [] (preorder t)) (preorder t) (preorder t) (preorder t) (resolve t) (λ u i. i))

-- ---- strict code

pub new-or-among : (first : ℕ) (strict ns : List ℕ) → ((k : ℕ) → has_number k ns ≡ true → has_number k strict ≡ true) → are_new_or_among first strict ns ≡ true
new-or-among first strict [] h = refl
new-or-among first strict (n ∷ ns) h =
    rw (or_right (is_new first n) (has_number n strict) (h n (rw (number-same n) refl)))
    (new-or-among first strict ns (λ k i. h k (or_right (nat_eq k n) (has_number k ns) i)))

pub strict-stays : (first : ℕ) (t : Tree) → none_becomes_strict first t t ≡ true
strict-stays first t = new-or-among first (strict_numbers false t) (strict_numbers false t) (λ k i. i)

-- ---- nothing gets into a class

pub class-numbers : (kind : Kind) (n : ℕ) (span : Option (ℕ × ℕ)) (semantic_id : Option ℕ) (ps : Parts) (ts : List Tree) → is_class kind ≡ true → EachOnce (map number_of ts) → In (Node kind n span semantic_id ps) ts → numbers_in_class n ts ≡ map number_of (preorder_of_part (at 2 ps))
unfolding IsDistinct
class-numbers kind n span semantic_id ps [] c once h = elim h [ ]
class-numbers kind n span semantic_id ps (t ∷ ts) c once here = rw (c, number-same n) refl
class-numbers kind n span semantic_id ps (Node other k kspan k_semantic_id ks ∷ ts) c once (later i) =
    rw (apart-sym k n (number-apart k (Node kind n span semantic_id ps) ts once.0 i), and-false (is_class other)) (class-numbers kind n span semantic_id ps ts c once.1 i)

none-enters : (first : ℕ) (ts us : List Tree) → EachOnce (map number_of us) → Among ts us → none_enters first us ts ≡ true
none-enters first [] us once h = refl
none-enters first (Node kind n span semantic_id ps ∷ ts) us once h = both (either (is_class kind) refl) (none-enters first ts us once (λ u i. h u (later i)))
  where
    either : (b : Bool) → is_class kind ≡ b → (not b || are_new_or_among first (numbers_in_class n us) (map number_of (preorder_of_part (at 2 ps)))) ≡ true
    either true c = rw (class-numbers kind n span semantic_id ps us c once (h (Node kind n span semantic_id ps) here)) (new-or-among first (map number_of (preorder_of_part (at 2 ps))) (map number_of (preorder_of_part (at 2 ps))) (λ k i. i))
    either false c = refl

pub classes-stay : (first : ℕ) (t : Tree) → EachOnce (map number_of (preorder t)) → classes_kept first t t ≡ true
classes-stay first t once = none-enters first (preorder t) (preorder t) once (λ u i. i)
