-- The nodes that hold a class are found by the class.
use Rattle.std.proofs.Common.{◌≡◌, refl, sym, ap, ap₂, ◌∙◌, true≢false, ℕ, List, [], ◌∷◌, ◌++◌, Bool, true, false, cond, ◌&&◌, ◌||◌, nat_eq}
use Rattle.std.proofs.Math.Bool.{and-false}
use Rattle.std.proofs.lemmas.Bool.{eqb-true}
use Rattle.es_base.specs.Preorder.{number_of, preorder}
use Rattle.es_base.specs.Tree.{Tree}
use Rattle.es_binding_faults.proofs.HasNumbers.{has_number-append}
use Rattle.es_grouped.proofs.Having.{having_append}
use Rattle.es_grouped.specs.Groups.{having}
use Rattle.es_lowered.specs.ClassNames.{common, holds_class, numbers_of}
use Rattle.es_owed_class_names.specs.Holders.{each_held, held_by, holding}
use Rattle.es_steps.specs.References.{has_number}

-- of two numbers one is among these, and the other is not
two_numbers : (ns : List ℕ) (m k : ℕ) → has_number m ns ≡ true → has_number k ns ≡ false → nat_eq m k ≡ false
two_numbers ns m k among besides = here (nat_eq m k) refl
  where
    here : (b : Bool) → nat_eq m k ≡ b → b ≡ false
    here true same = absurd (true≢false (sym among ∙ ap (λ n. has_number n ns) (eqb-true m k same) ∙ besides))
    here false same = refl

one_function : (k n m : ℕ) (ns : List ℕ) → has_number k (having n (each_held m ns)) ≡ (nat_eq k m && has_number n ns)
one_function k n m [] = sym (and-false (nat_eq k m))
one_function k n m (c ∷ cs) = here (nat_eq n c) (nat_eq k m) refl (one_function k n m cs)
  where
    rest : List ℕ
    rest = having n (each_held m cs)

    here : (b e : Bool) → nat_eq k m ≡ e → has_number k rest ≡ (nat_eq k m && has_number n cs) → has_number k (cond b (m ∷ []) [] ++ rest) ≡ (nat_eq k m && (b || has_number n cs))
    here true true is h = ap (λ (f : Bool). f || has_number k rest) is ∙ ap (λ (f : Bool). f && true) (sym is)
    here true false is h = ap (λ (f : Bool). f || has_number k rest) is ∙ h ∙ ap (λ (f : Bool). f && has_number n cs) is ∙ ap (λ (f : Bool). f && true) (sym is)
    here false e is h = h

common_has : (n : ℕ) (cs ns : List ℕ) → has_number n cs ≡ true → has_number n (common cs ns) ≡ has_number n ns
common_has n cs [] among = refl
common_has n cs (m ∷ ms) among = here (has_number m cs) refl (common_has n cs ms among)
  where
    here : (b : Bool) → has_number m cs ≡ b → has_number n (common cs ms) ≡ has_number n ms → has_number n (cond b (m ∷ []) [] ++ common cs ms) ≡ (nat_eq n m || has_number n ms)
    here true is h = ap (λ (f : Bool). nat_eq n m || f) h
    here false is h = h ∙ ap (λ (f : Bool). f || has_number n ms) (sym (two_numbers cs n m among is))

module _ (functions classes : List ℕ) (k n : ℕ) (function : has_number k functions ≡ true) (class : has_number n classes ≡ true) where
  one_node : (t : Tree) → has_number k (having n (held_by functions classes t)) ≡ (nat_eq k (number_of t) && has_number n (numbers_of (preorder t)))
  one_node t = here (has_number (number_of t) functions) refl
    where
      here : (b : Bool) → has_number (number_of t) functions ≡ b → has_number k (having n (cond b (each_held (number_of t) (common classes (numbers_of (preorder t)))) [])) ≡ (nat_eq k (number_of t) && has_number n (numbers_of (preorder t)))
      here true is = one_function k n (number_of t) (common classes (numbers_of (preorder t))) ∙ ap (λ (f : Bool). nat_eq k (number_of t) && f) (common_has n classes (numbers_of (preorder t)) class)
      here false is = ap (λ (f : Bool). f && has_number n (numbers_of (preorder t))) (sym (two_numbers functions k (number_of t) function is))

  pub holders_by_class : (ts : List Tree) → has_number k (having n (holding functions classes ts)) ≡ holds_class k n ts
  holders_by_class [] = refl
  holders_by_class (t ∷ ts) =
      ap (has_number k) (having_append n (held_by functions classes t) (holding functions classes ts))
      ∙ has_number-append k (having n (held_by functions classes t)) (having n (holding functions classes ts))
      ∙ ap₂ (λ (b c : Bool). b || c) (one_node t) (holders_by_class ts)
