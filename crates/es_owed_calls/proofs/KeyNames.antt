-- Keys that are names, by the nodes and the references of both programs.
use Rattle.std.proofs.Common.{◌≡◌, refl, sym, ap, ◌∙◌, ℕ, ◌+◌, ◌<◌, List, [], ◌∷◌, ◌++◌, length, drop, get_or, Bool, true, false, cond, ◌&&◌, ◌||◌, Bor}
use Rattle.std.specs.Prelude.{nat_eq, not}
use Rattle.std.proofs.lemmas.Bool.{eqb-true}
use Rattle.std.proofs.lemmas.List.{at_drop_more}
use Rattle.es_base.specs.Preorder.{number_of, preorder}
use Rattle.es_base.specs.Tree.{Tree, child}
use Rattle.es_base.specs.declared.ledger.LedgerEntry.{LedgerEntry}
use Rattle.es_binding_faults.specs.Seen.{seen}
use Rattle.es_lowered.specs.ClassNames.{is_written_at, naming}
use Rattle.es_lowered.specs.Definitions.{class_identifiers, names_class}
use Rattle.es_lowered.specs.KeptKeys.{which_stay}
use Rattle.es_owed.specs.Listed.{numbered}
use Rattle.es_owed_calls.specs.KeptKeys.{is_name}
use Rattle.es_steps.specs.References.{Reference, resolve, has_number}

-- ---- nodes of a number

found : (m k : ℕ) (b : Bool) (ks : List ℕ) → has_number m (cond b (k ∷ []) [] ++ ks) ≡ ((nat_eq m k && b) || has_number m ks)
found m k true ks = here (nat_eq m k)
  where
    here : (x : Bool) → (x || has_number m ks) ≡ ((x && true) || has_number m ks)
    here true = refl
    here false = refl
found m k false ks = here (nat_eq m k)
  where
    here : (x : Bool) → has_number m ks ≡ ((x && false) || has_number m ks)
    here true = refl
    here false = refl

same_there : (m k : ℕ) (c : ℕ → Bool) → (nat_eq m k && c k) ≡ (nat_eq m k && c m)
same_there m k c = here (nat_eq m k) refl
  where
    here : (b : Bool) → nat_eq m k ≡ b → (b && c k) ≡ (b && c m)
    here true e = ap c (sym (eqb-true m k e))
    here false e = refl

module _ (m n : ℕ) (ledger : List LedgerEntry) (rs : List Reference) (ids : List ℕ) where
  pub naming_more : (t : Tree) (ts : List Tree) → has_number m (naming n ledger rs ids (t ∷ ts)) ≡ (is_name m n ledger rs ids t || has_number m (naming n ledger rs ids ts))
  naming_more t ts =
      found m (number_of t) (names_class n ledger rs ids (child t) && not (is_written_at (number_of t) rs)) (naming n ledger rs ids ts)
      ∙ ap (λ b. b || has_number m (naming n ledger rs ids ts)) (same_there m (number_of t) (λ k. names_class n ledger rs ids (child t) && not (is_written_at k rs)))

  pub naming_numbered : (ts : List Tree) → has_number m (naming n ledger rs ids (numbered m ts)) ≡ has_number m (naming n ledger rs ids ts)
  naming_numbered [] = refl
  naming_numbered (t ∷ ts) = here (naming_numbered ts) (nat_eq m (number_of t)) refl
    where
      here : has_number m (naming n ledger rs ids (numbered m ts)) ≡ has_number m (naming n ledger rs ids ts) → (b : Bool) → nat_eq m (number_of t) ≡ b → has_number m (naming n ledger rs ids (cond b (t ∷ []) [] ++ numbered m ts)) ≡ has_number m (naming n ledger rs ids (t ∷ ts))
      here rest true e = naming_more t (numbered m ts) ∙ ap (λ h. is_name m n ledger rs ids t || h) rest ∙ sym (naming_more t ts)
      here rest false e = rest ∙ sym (naming_more t ts ∙ ap (λ b. (b && (names_class n ledger rs ids (child t) && not (is_written_at m rs))) || has_number m (naming n ledger rs ids ts)) e)

  pub naming_behind : (nodes : List (Bor Tree)) (i : ℕ) (x : Bor Tree) → i < length nodes → x ≡ get_or nodes i x → is_name m n ledger rs ids x.now ≡ false → has_number m (naming n ledger rs ids (seen (drop i nodes))) ≡ has_number m (naming n ledger rs ids (seen (drop (i + 1) nodes)))
  naming_behind nodes i x below is none =
      at_drop_more (λ (ns : List (Bor Tree)). has_number m (naming n ledger rs ids (seen ns))) nodes i x below
      ∙ naming_more (get_or nodes i x).now (seen (drop (i + 1) nodes))
      ∙ ap (λ b. b || has_number m (naming n ledger rs ids (seen (drop (i + 1) nodes)))) (ap (λ (y : Bor Tree). is_name m n ledger rs ids y.now) (sym is) ∙ none)

-- ---- a program

-- names by the nodes of their number alone
pub naming_at : (first m n : ℕ) (ledger : List LedgerEntry) (q : Tree) (rs : List Reference) (ids : List ℕ) (xs ts : List Tree)
    → rs ≡ resolve q → ids ≡ class_identifiers first n (preorder q) → xs ≡ numbered m ts → ts ≡ preorder q
    → has_number m (naming n ledger rs ids xs) ≡ has_number m (naming n ledger (resolve q) (class_identifiers first n (preorder q)) (preorder q))
naming_at first m n ledger q rs ids xs ts references identifiers nodes all =
    ap (λ (z : List Tree). has_number m (naming n ledger rs ids z)) (nodes ∙ ap (numbered m) all)
    ∙ naming_numbered m n ledger rs ids (preorder q)
    ∙ ap (λ (z : List Reference). has_number m (naming n ledger z ids (preorder q))) references
    ∙ ap (λ (z : List ℕ). has_number m (naming n ledger (resolve q) z (preorder q))) identifiers

-- the keys of a source that stay, by what is the same
pub keys_stay : (first k : ℕ) (ledger es : List LedgerEntry) (p q r s : Tree) (ns ms : List ℕ) → k ≡ first → es ≡ ledger → r ≡ p → s ≡ q → ns ≡ ms
    → which_stay k es r s (resolve r) (resolve s) ns ≡ which_stay first ledger p q (resolve p) (resolve q) ms
keys_stay first k ledger es p q r s ns ms firsts entries sources targets keys =
    ap (λ (z : ℕ). which_stay z es r s (resolve r) (resolve s) ns) firsts
    ∙ ap (λ (z : List LedgerEntry). which_stay first z r s (resolve r) (resolve s) ns) entries
    ∙ ap (λ (z : Tree). which_stay first ledger z s (resolve z) (resolve s) ns) sources
    ∙ ap (λ (z : Tree). which_stay first ledger p z (resolve p) (resolve z) ns) targets
    ∙ ap (which_stay first ledger p q (resolve p) (resolve q)) keys
