-- Names that stand in no function of a generated name.
use Rattle.std.proofs.Common.{◌≡◌, refl, sym, ap, ap₂, ◌∙◌, ℕ, List, [], ◌∷◌, ◌++◌, Bool, true, false, cond, not, ◌&&◌, ◌||◌, append-nil}
use Rattle.std.proofs.Math.Bool.{and-false}
use Rattle.es_base.specs.Preorder.{preorder}
use Rattle.es_base.specs.Tree.{Tree}
use Rattle.es_base.specs.declared.ledger.LedgerEntry.{LedgerEntry}
use Rattle.es_binding_faults.proofs.HasNumbers.{has_number-append}
use Rattle.es_lowered.specs.ClassNames.{MovedFunction, any_among, any_name, asked_references, class_runs, functions_outside, moved_functions, names_holding, numbers_inside, outside_class, reaching, reading, stand_in_time, without, without_functions}
use Rattle.es_steps.specs.References.{Reference, has_number, resolve}
use Rattle.es_steps.specs.Values.{String}
use Rattle.es_owed_class_names.proofs.AskedNames.{none_among, none_reads}
use Rattle.es_owed_class_names.proofs.NodeMarks.{more_among}
use Rattle.es_owed_class_names.specs.Asked.{read_in_time}
use Rattle.es_owed_class_names.specs.HeldNumbers.{held_numbers}

neither_left : (a b : Bool) → (a || b) ≡ false → a ≡ false
neither_left true b e = e
neither_left false b e = refl

neither_right : (a b : Bool) → (a || b) ≡ false → b ≡ false
neither_right true b e = ap (λ c. cond c b false) e
neither_right false b e = e

any_turned : (ns ms : List ℕ) → any_among ns ms ≡ any_among ms ns
any_turned ns [] = sym (none_among ns)
any_turned ns (m ∷ ms) = ap (λ b. has_number m ns || b) (any_turned ns ms) ∙ sym (more_among m ms ns)

any_split : (ns ks ms : List ℕ) → any_among (ns ++ ks) ms ≡ (any_among ns ms || any_among ks ms)
any_split ns ks [] = refl
any_split ns ks (m ∷ ms) = ap₂ (λ b c. b || c) (has_number-append m ns ks) (any_split ns ks ms) ∙ shuffled (has_number m ns) (has_number m ks) (any_among ns ms) (any_among ks ms)
  where
    shuffled : (a b c d : Bool) → ((a || b) || (c || d)) ≡ ((a || c) || (b || d))
    shuffled true b c d = refl
    shuffled false true true d = refl
    shuffled false true false d = refl
    shuffled false false c d = refl

apart : (ns ms : List ℕ) → any_among ns ms ≡ false → without ns ms ≡ ms
apart ns [] none = refl
apart ns (m ∷ ms) none =
    ap₂ (λ b ks. cond b [] (m ∷ []) ++ ks) (neither_left (has_number m ns) (any_among ns ms) none) (apart ns ms (neither_right (has_number m ns) (any_among ns ms) none))

module _ (names : List ℕ) (inside : List ℕ) where
  none_hold : (fs : List MovedFunction) → any_among (held_numbers fs) names ≡ false → names_holding names (outside_class inside fs) ≡ []
  none_hold [] none = refl
  none_hold (f ∷ fs) none =
      here (any_among inside f.numbers)
      (any_turned names f.numbers ∙ neither_left (any_among f.numbers names) (any_among (held_numbers fs) names) (sym (any_split f.numbers (held_numbers fs) names) ∙ none))
      (none_hold fs (neither_right (any_among f.numbers names) (any_among (held_numbers fs) names) (sym (any_split f.numbers (held_numbers fs) names) ∙ none)))
    where
      here : (b : Bool) → any_among names f.numbers ≡ false → names_holding names (outside_class inside fs) ≡ [] → names_holding names (cond b [] (f ∷ []) ++ outside_class inside fs) ≡ []
      here true own rest = rest
      here false own rest = ap (λ c. cond c (f.name ∷ []) [] ++ names_holding names (outside_class inside fs)) own ∙ rest

  none_taken : (fs : List MovedFunction) → any_among (held_numbers fs) names ≡ false → without_functions (outside_class inside fs) names ≡ names
  none_taken [] none = refl
  none_taken (f ∷ fs) none =
      here (any_among inside f.numbers)
      (apart f.numbers names (neither_left (any_among f.numbers names) (any_among (held_numbers fs) names) (sym (any_split f.numbers (held_numbers fs) names) ∙ none)))
      (none_taken fs (neither_right (any_among f.numbers names) (any_among (held_numbers fs) names) (sym (any_split f.numbers (held_numbers fs) names) ∙ none)))
    where
      here : (b : Bool) → without f.numbers names ≡ names → without_functions (outside_class inside fs) names ≡ names → without_functions (cond b [] (f ∷ []) ++ outside_class inside fs) names ≡ names
      here true own rest = rest
      here false own rest = ap (without_functions (outside_class inside fs)) own ∙ rest

settled : (es : List LedgerEntry) (fs : List MovedFunction) (rs : List Reference) (ts : List Tree) (names : List ℕ) → names_holding names fs ≡ [] → reaching es fs rs ts names ≡ names
settled [] fs rs ts names none = refl
settled (e ∷ es) fs rs ts names none =
    ap (λ (ms : List ℕ). names ++ reading (names_holding ms fs) rs ts) (settled es fs rs ts names none)
    ∙ ap (λ (ss : List String). names ++ reading ss rs ts) none
    ∙ ap (λ (ms : List ℕ). names ++ ms) (none_reads rs ts)
    ∙ append-nil names

pub not_held : (first n : ℕ) (ledger : List LedgerEntry) (q : Tree) (names : List ℕ) → any_among (held_numbers (moved_functions ledger (preorder q))) names ≡ false
    → read_in_time first ledger q n names ≡ stand_in_time first q n (without (numbers_inside n (preorder q)) names)
not_held first n ledger q names none =
    ap (λ (ss : List String). not (class_runs n (preorder q) && any_name ss) && stand_in_time first q n (asked_references ledger q n fs names)) none_holds
    ∙ ap (λ (b : Bool). not b && stand_in_time first q n (asked_references ledger q n fs names)) (and-false (class_runs n (preorder q)))
    ∙ ap (λ (ns : List ℕ). stand_in_time first q n (without (numbers_inside n (preorder q)) (without_functions fs ns))) (settled ledger fs (resolve q) (preorder q) names none_holds)
    ∙ ap (λ (ns : List ℕ). stand_in_time first q n (without (numbers_inside n (preorder q)) ns)) (none_taken names (n ∷ numbers_inside n (preorder q)) (moved_functions ledger (preorder q)) none)
  where
    fs : List MovedFunction
    fs = functions_outside ledger q n

    none_holds : names_holding names fs ≡ []
    none_holds = none_hold names (n ∷ numbers_inside n (preorder q)) (moved_functions ledger (preorder q)) none
