-- References to the names of each class, gathered in one walk.
use Rattle.std.proofs.Common.{◌≡◌, refl, sym, ap, ◌∙◌, ℕ, List, [], ◌∷◌, ◌++◌, Bool, true, false, cond, not, ◌&&◌, ◌||◌, append-nil, Option, Some}
use Rattle.std.proofs.Math.Bool.{and-false, and-true, or-false}
use Rattle.std.proofs.lemmas.Bool.{eqb-true}
use Rattle.std.specs.Prelude.{nat_eq}
use Rattle.es_base.specs.Preorder.{number_of}
use Rattle.es_base.specs.Tree.{Tree, Node, child}
use Rattle.es_base.specs.declared.kind.Kind.{Kind}
use Rattle.es_base.specs.declared.ledger.GeneratedKind.{GeneratedKind}
use Rattle.es_base.specs.declared.ledger.LedgerEntry.{LedgerEntry}
use Rattle.es_binding_faults.proofs.HasNumbers.{has_number-append}
use Rattle.es_grouped.proofs.Having.{having_append}
use Rattle.es_grouped.specs.Groups.{having}
use Rattle.es_lowered.specs.ClassNames.{is_written_at, naming}
use Rattle.es_lowered.specs.Definitions.{is_bound_among, is_class_temporary, names_class}
use Rattle.es_node.specs.View.{kind_of, number_in, parts_in}
use Rattle.es_steps.specs.Context.{generated_as}
use Rattle.es_steps.specs.LoweredClasses.{referent_of}
use Rattle.es_steps.specs.Parts.{at, string_of}
use Rattle.es_steps.specs.References.{Reference, has_number}
use Rattle.es_steps.specs.Values.{Referent, Bound, String}
use Rattle.es_owed_class_names.specs.NamedClasses.{bound_classes, declared, declared_by, each, meant, named, named_at, temporary_class}

pub at_reference : (ledger : List LedgerEntry) (rs : List Reference) (cs : ℕ → List ℕ) (t : Tree) → kind_of t ≡ Kind.IdentifierReference → named_at ledger rs cs t ≡ cond (is_written_at (number_in t) rs) [] (each (meant ledger rs cs (number_in t) (string_of (at 0 (parts_in t)))) (number_in t))
at_reference ledger rs cs (Node Kind.IdentifierReference m span semantic_id ps) is = refl
at_reference ledger rs cs (Node kind m span semantic_id ps) is = absurd (cc)

pub at_other : (ledger : List LedgerEntry) (rs : List Reference) (cs : ℕ → List ℕ) (t : Tree) → (kind_of t ≡ Kind.IdentifierReference → ⊥) → named_at ledger rs cs t ≡ []
at_other ledger rs cs (Node Kind.IdentifierReference m span semantic_id ps) other = absurd (other refl)
at_other ledger rs cs (Node kind m span semantic_id ps) other = refl

-- ---- the classes that an identifier declares

declares_one : (k b n : ℕ) (bs : List ℕ) → has_number k (having b (declared_by n bs)) ≡ (nat_eq k n && has_number b bs)
declares_one k b n [] = sym (and-false (nat_eq k n))
declares_one k b n (c ∷ bs) = here (nat_eq b c) (declares_one k b n bs)
  where
    twice : (x y : Bool) → (x || (x && y)) ≡ (x && true)
    twice true y = refl
    twice false y = refl

    here : (e : Bool) → has_number k (having b (declared_by n bs)) ≡ (nat_eq k n && has_number b bs) → has_number k (cond e (n ∷ []) [] ++ having b (declared_by n bs)) ≡ (nat_eq k n && (e || has_number b bs))
    here true h = ap (λ x. nat_eq k n || x) h ∙ twice (nat_eq k n) (has_number b bs)
    here false h = h

pub declares : (k b : ℕ) (identifiers : ℕ → List ℕ) (ns : List ℕ) → has_number k (having b (declared identifiers ns)) ≡ (has_number k ns && has_number b (identifiers k))
declares k b identifiers [] = refl
declares k b identifiers (n ∷ ns) =
    ap (has_number k) (having_append b (declared_by n (identifiers n)) (declared identifiers ns))
    ∙ has_number-append k (having b (declared_by n (identifiers n))) (having b (declared identifiers ns))
    ∙ ap (λ x. x || has_number k (having b (declared identifiers ns))) (declares_one k b n (identifiers n))
    ∙ ap (λ x. (nat_eq k n && has_number b (identifiers n)) || x) (declares k b identifiers ns)
    ∙ join (nat_eq k n) (has_number k ns) (has_number b (identifiers n)) (has_number b (identifiers k)) (λ e. ap (λ x. has_number b (identifiers x)) (sym (eqb-true k n e)))
  where
    within : (h y : Bool) → (y || (h && y)) ≡ y
    within h true = refl
    within true false = refl
    within false false = refl

    join : (e h x y : Bool) → (e ≡ true → x ≡ y) → ((e && x) || (h && y)) ≡ ((e || h) && y)
    join true h x y same = ap (λ z. z || (h && y)) (same refl) ∙ within h y
    join false h x y same = refl

-- ---- the classes that a reference names

of_temporary : (n : ℕ) (g : Option GeneratedKind) → has_number n (temporary_class g) ≡ is_class_temporary n g
of_temporary n (Some (GeneratedKind.ClassTemp k)) = or-false (nat_eq n k.0)
of_temporary n g = refl

of_bound : (n : ℕ) (cs : ℕ → List ℕ) (ids : List ℕ) (r : Option Referent) → ((b : ℕ) → has_number n (cs b) ≡ has_number b ids) → has_number n (bound_classes cs r) ≡ is_bound_among ids r
of_bound n cs ids (Some (Bound b)) turned = turned b
of_bound n cs ids r turned = refl

of_meant : (n : ℕ) (ledger : List LedgerEntry) (rs : List Reference) (cs : ℕ → List ℕ) (ids : List ℕ) (m : ℕ) (s : String) → ((b : ℕ) → has_number n (cs b) ≡ has_number b ids)
    → has_number n (meant ledger rs cs m s) ≡ (is_class_temporary n (generated_as s ledger) || is_bound_among ids (referent_of m rs))
of_meant n ledger rs cs ids m s turned =
    has_number-append n (temporary_class (generated_as s ledger)) (bound_classes cs (referent_of m rs))
    ∙ ap (λ x. x || has_number n (bound_classes cs (referent_of m rs))) (of_temporary n (generated_as s ledger))
    ∙ ap (λ x. is_class_temporary n (generated_as s ledger) || x) (of_bound n cs ids (referent_of m rs) turned)

-- ---- of one class

of_one : (n m : ℕ) (ks : List ℕ) → having n (each ks m) ≡ cond (has_number n ks) (m ∷ []) []
of_one n m [] = refl
of_one n m (k ∷ ks) =
    having_append n (cond (has_number k ks) [] ((k, m) ∷ [])) (each ks m)
    ∙ ap (λ ms. having n (cond (has_number k ks) [] ((k, m) ∷ [])) ++ ms) (of_one n m ks)
    ∙ ap (λ ms. ms ++ cond (has_number n ks) (m ∷ []) []) (first (has_number k ks))
    ∙ once (has_number k ks) (nat_eq n k) (has_number n ks) (λ e. ap (λ x. has_number x ks) (sym (eqb-true n k e)))
  where
    first : (c : Bool) → having n (cond c [] ((k, m) ∷ [])) ≡ cond c [] (cond (nat_eq n k) (m ∷ []) [])
    first true = refl
    first false = append-nil (cond (nat_eq n k) (m ∷ []) [])

    once : (c e h : Bool) → (e ≡ true → c ≡ h) → cond c [] (cond e (m ∷ []) []) ++ cond h (m ∷ []) [] ≡ cond (e || h) (m ∷ []) []
    once true true true same = refl
    once true true false same = sym (ap (λ b. cond b (m ∷ []) []) (same refl))
    once false true true same = ap (λ b. cond b (m ∷ m ∷ []) (m ∷ [])) (sym (same refl))
    once false true false same = refl
    once true false h same = refl
    once false false h same = refl

one_node : (n : ℕ) (ledger : List LedgerEntry) (rs : List Reference) (cs : ℕ → List ℕ) (ids : List ℕ) (t : Tree) → ((b : ℕ) → has_number n (cs b) ≡ has_number b ids)
    → having n (named_at ledger rs cs t) ≡ cond (names_class n ledger rs ids (child t) && not (is_written_at (number_of t) rs)) (number_of t ∷ []) []
one_node n ledger rs cs ids (Node Kind.IdentifierReference m span semantic_id ps) turned = here (is_written_at m rs)
  where
    s : String
    s = string_of (at 0 ps)

    names : Bool
    names = is_class_temporary n (generated_as s ledger) || is_bound_among ids (referent_of m rs)

    here : (w : Bool) → having n (cond w [] (each (meant ledger rs cs m s) m)) ≡ cond (names && not w) (m ∷ []) []
    here true = ap (λ b. cond b (m ∷ []) []) (sym (and-false names))
    here false = of_one n m (meant ledger rs cs m s) ∙ ap (λ b. cond b (m ∷ []) []) (of_meant n ledger rs cs ids m s turned ∙ sym (and-true names))
one_node n ledger rs cs ids (Node kind m span semantic_id ps) turned = refl

pub of_class : (n : ℕ) (ledger : List LedgerEntry) (rs : List Reference) (cs : ℕ → List ℕ) (ids : List ℕ) (ts : List Tree) → ((b : ℕ) → has_number n (cs b) ≡ has_number b ids)
    → having n (named ledger rs cs ts) ≡ naming n ledger rs ids ts
of_class n ledger rs cs ids [] turned = refl
of_class n ledger rs cs ids (t ∷ ts) turned =
    having_append n (named_at ledger rs cs t) (named ledger rs cs ts)
    ∙ ap (λ ms. ms ++ having n (named ledger rs cs ts)) (one_node n ledger rs cs ids t turned)
    ∙ ap (λ ms. cond (names_class n ledger rs ids (child t) && not (is_written_at (number_of t) rs)) (number_of t ∷ []) [] ++ ms) (of_class n ledger rs cs ids ts turned)
