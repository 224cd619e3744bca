-- The classes of a source that a name may be one of.
use Rattle.std.proofs.Common.{◌≡◌, refl, sym, ap, ◌∙◌, ℕ, List, [], ◌∷◌, ◌++◌, Bool, true, false, cond, ◌&&◌, ◌||◌, Option, Some, None}
use Rattle.std.specs.Prelude.{nat_eq, not}
use Rattle.std.proofs.lemmas.Bool.{eqb-true}
use Rattle.es_base.specs.Preorder.{number_of, preorder}
use Rattle.es_base.specs.Tree.{Tree, Node, child}
use Rattle.es_base.specs.declared.kind.Kind.{Kind}
use Rattle.es_base.specs.declared.ledger.LedgerEntry.{LedgerEntry}
use Rattle.es_grouped.specs.Groups.{group}
use Rattle.es_grouped.specs.declared.Grouped.{Grouped}
use Rattle.es_lowered.specs.ClassNames.{class_numbers, is_written_at, naming, naming_in_source}
use Rattle.es_lowered.specs.Definitions.{class_identifiers, is_bound_among, names_class}
use Rattle.es_lowered.specs.KeptKeys.{names_one_class}
use Rattle.es_node.specs.View.{kind_of}
use Rattle.es_owed.specs.Listed.{numbered}
use Rattle.es_owed_calls.proofs.KeyNames.{naming_more}
use Rattle.es_owed_calls.specs.KeptKeys.{any_class, any_named, declared_by, is_name, names_both}
use Rattle.es_steps.proofs.Reflexive.{number-same}
use Rattle.es_steps.specs.LoweredClasses.{referent_of}
use Rattle.es_steps.specs.PrivateNames.{is_class}
use Rattle.es_steps.specs.References.{Reference, resolve, has_number}
use Rattle.es_steps.specs.Values.{Referent, Bound, Free}

-- ---- truth

never : {X : Type 0} → false ≡ true → X
never e = absurd (cc)

left : (a b : Bool) → (a && b) ≡ true → a ≡ true
left true b e = refl
left false b e = e

right : (a b : Bool) → (a && b) ≡ true → b ≡ true
right true b e = e
right false b e = never e

both : (a b : Bool) → a ≡ true → b ≡ true → (a && b) ≡ true
both true b e f = f
both false b e f = e

on_left : (a b : Bool) → a ≡ true → (a || b) ≡ true
on_left true b e = refl
on_left false b e = never e

on_right : (a b : Bool) → b ≡ true → (a || b) ≡ true
on_right true b e = refl
on_right false b e = e

either : (a b : Bool) (X : Type 0) → (a || b) ≡ true → (a ≡ true → X) → (b ≡ true → X) → X
either true b X e f g = f refl
either false b X e f g = g e

one_truth : (a b : Bool) → (a ≡ true → b ≡ true) → (b ≡ true → a ≡ true) → a ≡ b
one_truth true b f g = sym (f refl)
one_truth false true f g = g refl
one_truth false false f g = refl

-- ---- classes by their numbers

pub class_more : (t : Tree) (ts : List Tree) → any_class (t ∷ ts) ≡ (is_class (kind_of t) || any_class ts)
class_more t ts = refl

pub class_numbered : (n : ℕ) (ts : List Tree) → any_class (numbered n ts) ≡ has_number n (class_numbers ts)
class_numbered n [] = refl
class_numbered n (Node kind m span semantic_id ps ∷ ts) = here (nat_eq n m) refl (is_class kind) refl (class_numbered n ts)
  where
    here : (b : Bool) → nat_eq n m ≡ b → (c : Bool) → is_class kind ≡ c → any_class (numbered n ts) ≡ has_number n (class_numbers ts)
        → any_class (cond b (Node kind m span semantic_id ps ∷ []) [] ++ numbered n ts) ≡ has_number n (cond c (m ∷ []) [] ++ class_numbers ts)
    here true e true f h = ap (λ a. a || any_class (numbered n ts)) f ∙ sym (ap (λ a. a || has_number n (class_numbers ts)) e)
    here true e false f h = ap (λ a. a || any_class (numbered n ts)) f ∙ h
    here false e true f h = h ∙ sym (ap (λ a. a || has_number n (class_numbers ts)) e)
    here false e false f h = h

-- ---- what declares the classes that a node names

declared : (classes : Grouped ℕ) (n : ℕ) (ids : List ℕ) (r : Option Referent) → ((b : ℕ) → has_number n (group b classes) ≡ has_number b ids) → has_number n (declared_by classes r) ≡ is_bound_among ids r
declared classes n ids None are = refl
declared classes n ids (Some (Free s)) are = refl
declared classes n ids (Some (Bound b)) are = are b

pub classes_meant : (classes : Grouped ℕ) (n : ℕ) (ids : List ℕ) (r s : Option Referent) → ((b : ℕ) → has_number n (group b classes) ≡ has_number b ids) → r ≡ s → has_number n (declared_by classes r) ≡ is_bound_among ids s
classes_meant classes n ids r s are same = declared classes n ids r are ∙ ap (is_bound_among ids) same

-- a name of a class in a source means an identifier of it
module _ (n m : ℕ) (rs : List Reference) (ids : List ℕ) where
  named_bound : (t : Tree) → nat_eq m (number_of t) ≡ true → names_class n [] rs ids (child t) ≡ true → is_bound_among ids (referent_of m rs) ≡ true
  named_bound (Node Kind.IdentifierReference k span semantic_id ps) is named = ap (λ z. is_bound_among ids (referent_of z rs)) (eqb-true m k is) ∙ named
  named_bound (Node kind k span semantic_id ps) is named = never named

  naming_bound : (ts : List Tree) → has_number m (naming n [] rs ids ts) ≡ true → is_bound_among ids (referent_of m rs) ≡ true
  naming_bound [] h = never h
  naming_bound (t ∷ ts) h =
      either (is_name m n [] rs ids t) (has_number m (naming n [] rs ids ts)) (is_bound_among ids (referent_of m rs) ≡ true) (sym (naming_more m n [] rs ids t ts) ∙ h)
      (λ is.
      named_bound t (left (nat_eq m (number_of t)) (names_class n [] rs ids (child t) && not (is_written_at m rs)) is)
      (left (names_class n [] rs ids (child t)) (not (is_written_at m rs)) (right (nat_eq m (number_of t)) (names_class n [] rs ids (child t) && not (is_written_at m rs)) is)))
      (naming_bound ts)

-- ---- one of the classes

module _ (first : ℕ) (ledger : List LedgerEntry) (p q : Tree) (m : ℕ) where
  class_named : (ns : List ℕ) → names_one_class first ledger p q ns m ≡ true → (n : ℕ) × (has_number n ns ≡ true) × (names_both first ledger p q n m ≡ true)
  class_named [] h = never h
  class_named (k ∷ ns) h =
      either (names_both first ledger p q k m) (names_one_class first ledger p q ns m) ((n : ℕ) × (has_number n (k ∷ ns) ≡ true) × (names_both first ledger p q n m ≡ true)) h
      (λ is. (k, on_left (nat_eq k k) (has_number k ns) (number-same k), is))
      (λ rest. let found = class_named ns rest in (found.0, on_right (nat_eq found.0 k) (has_number found.0 ns) found.1, found.2))

  named_class : (ns : List ℕ) (n : ℕ) → has_number n ns ≡ true → names_both first ledger p q n m ≡ true → names_one_class first ledger p q ns m ≡ true
  named_class [] n has is = never has
  named_class (k ∷ ns) n has is =
      either (nat_eq n k) (has_number n ns) (names_one_class first ledger p q (k ∷ ns) m ≡ true) has
      (λ e. on_left (names_both first ledger p q k m) (names_one_class first ledger p q ns m) (sym (ap (λ z. names_both first ledger p q z m) (eqb-true n k e)) ∙ is))
      (λ rest. on_right (names_both first ledger p q k m) (names_one_class first ledger p q ns m) (named_class ns n rest is))

  candidate_named : (cs : List ℕ) → any_named first ledger p q cs m ≡ true → names_one_class first ledger p q (class_numbers (preorder p)) m ≡ true
  candidate_named [] h = never h
  candidate_named (k ∷ cs) h =
      either (has_number k (class_numbers (preorder p)) && names_both first ledger p q k m) (any_named first ledger p q cs m) (names_one_class first ledger p q (class_numbers (preorder p)) m ≡ true) h
      (λ is. named_class (class_numbers (preorder p)) k (left (has_number k (class_numbers (preorder p))) (names_both first ledger p q k m) is) (right (has_number k (class_numbers (preorder p))) (names_both first ledger p q k m) is))
      (candidate_named cs)

  named_candidate : (cs : List ℕ) (n : ℕ) → has_number n cs ≡ true → has_number n (class_numbers (preorder p)) ≡ true → names_both first ledger p q n m ≡ true → any_named first ledger p q cs m ≡ true
  named_candidate [] n has class is = never has
  named_candidate (k ∷ cs) n has class is =
      either (nat_eq n k) (has_number n cs) (any_named first ledger p q (k ∷ cs) m ≡ true) has
      (λ e. on_left (has_number k (class_numbers (preorder p)) && names_both first ledger p q k m) (any_named first ledger p q cs m)
      (sym (ap (λ z. has_number z (class_numbers (preorder p)) && names_both first ledger p q z m) (eqb-true n k e)) ∙ both (has_number n (class_numbers (preorder p))) (names_both first ledger p q n m) class is))
      (λ rest. on_right (has_number k (class_numbers (preorder p)) && names_both first ledger p q k m) (any_named first ledger p q cs m) (named_candidate cs n rest class is))

  -- only what a name means declares the classes that it may be one of
  pub by_candidates : (cs : List ℕ) → ((n : ℕ) → has_number n cs ≡ is_bound_among (class_identifiers first n (preorder p)) (referent_of m (resolve p)))
      → any_named first ledger p q cs m ≡ names_one_class first ledger p q (class_numbers (preorder p)) m
  by_candidates cs are =
      one_truth (any_named first ledger p q cs m) (names_one_class first ledger p q (class_numbers (preorder p)) m) (candidate_named cs)
      (λ h.
      let found = class_named (class_numbers (preorder p)) h in
      let n = found.0 in
      let of_source = left (has_number m (naming_in_source first n p)) (has_number m (naming n ledger (resolve q) (class_identifiers first n (preorder q)) (preorder q))) found.2 in
      named_candidate cs n (are n ∙ naming_bound n m (resolve p) (class_identifiers first n (preorder p)) (preorder p) of_source) found.1 found.2)
