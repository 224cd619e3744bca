-- What a lowered program owes, where computing says that each clause is met.
use Rattle.std.specs.Prelude.{◌≡◌, ℕ, ◌+◌, List, [], ◌∷◌, Bool, true, false, not, ◌&&◌, ◌||◌, nat_eq}
use Rattle.std.specs.List.{IsDistinct, AllByRecursion}
use Rattle.std.proofs.Common.{refl, arith}
use Rattle.std.proofs.lemmas.Bool.{and_parts}
use Rattle.es_base.specs.Numbered.{IsNumbered, EachOnce, AreConsecutive, numbers, new_numbers}
use Rattle.es_base.specs.Preorder.{preorder, nodes}
use Rattle.es_base.specs.Tree.{Tree}
use Rattle.es_base.specs.declared.ledger.LedgerEntry.{LedgerEntry}
use Rattle.es_lowered.specs.Carriers.{numbers_carried}
use Rattle.es_lowered.specs.Definitions.{definitions_stand, all_temporaries, elements_kept}
use Rattle.es_lowered.specs.HelperCalls.{helper_calls_fit}
use Rattle.es_lowered.specs.KeptKeys.{keys_that_stay}
use Rattle.es_steps.specs.KeptNodes.{nodes_kept, classes_kept, statements_kept, lists_kept, homes_kept}
use Rattle.es_lowered.specs.KeptReferences.{references_stay}
use Rattle.es_lowered.specs.Lowered.{names_declared, declarations_accounted, initializations_stand, keys_stand, IsLowered}
use Rattle.es_lowered.specs.OwnNames.{own_names_stay}
use Rattle.es_steps.specs.LoweredClasses.{nothing_left}
use Rattle.es_steps.specs.Printable.{stays_printable}
use Rattle.es_steps.specs.PrivateNames.{private_members}
use Rattle.es_steps.specs.References.{has_number}
use Rattle.es_steps.specs.Strict.{none_becomes_strict}
use Rattle.es_lowered.specs.Temporaries.{temporaries_steady}
use Rattle.es_lowered.specs.Texts.{texts_stay}
use Rattle.es_lowered.specs.Timely.{names_timely}
use Rattle.es_steps.specs.declared.options.Options.{Options}

-- no number stands twice, and the new ones are first, first + 1, .. in preorder
abbrev stand_once : List ℕ → Bool
stand_once [] = true
stand_once (n ∷ ns) = not (has_number n ns) && stand_once ns

abbrev are_consecutive : ℕ → List ℕ → Bool
are_consecutive n [] = true
are_consecutive n (k ∷ ks) = nat_eq k n && are_consecutive (n + 1) ks

abbrev is_numbered : ℕ → Tree → Bool
is_numbered first q = stand_once (numbers q) && are_consecutive first (new_numbers first q)

abbrev clauses : Options → List LedgerEntry → Tree → Tree → List Bool
clauses o ledger p q =
    is_numbered (nodes p) q
    ∷ nothing_left o q
    ∷ names_declared (nodes p) ledger q
    ∷ declarations_accounted (nodes p) ledger p q
    ∷ own_names_stay ledger p q
    ∷ references_stay (nodes p) o ledger p q
    ∷ none_becomes_strict (nodes p) p q
    ∷ texts_stay (nodes p) p q
    ∷ initializations_stand (nodes p) ledger p q ledger
    ∷ names_timely (nodes p) ledger (private_members p) q
    ∷ temporaries_steady (nodes p) ledger (private_members p) q
    ∷ keys_stand (nodes p) o ledger (private_members p) q (all_temporaries (nodes p) o ledger (private_members p) q (preorder q))
    ∷ numbers_carried (nodes p) p q
    ∷ nodes_kept p q
    ∷ classes_kept (nodes p) p q
    ∷ statements_kept o p q
    ∷ lists_kept o p q
    ∷ homes_kept (nodes p) o p q
    ∷ definitions_stand (nodes p) o ledger (private_members p) p q
    ∷ elements_kept o (preorder p) (preorder q)
    ∷ helper_calls_fit (nodes p) ledger (keys_that_stay (nodes p) ledger p q) q
    ∷ stays_printable p q
    ∷ []

abbrev all_met : List Bool
all_met = true ∷ true ∷ true ∷ true ∷ true ∷ true ∷ true ∷ true ∷ true ∷ true ∷ true ∷ true ∷ true ∷ true ∷ true ∷ true ∷ true ∷ true ∷ true ∷ true ∷ true ∷ true ∷ []

-- ---- numbers

same_number : (k n : ℕ) → nat_eq k n ≡ true → k ≡ n
same_number k n e = grind arith

apart : (n : ℕ) (ns : List ℕ) → not (has_number n ns) ≡ true → AllByRecursion (λ k. nat_eq n k ≡ false) ns
apart n [] e = tt
apart n (k ∷ ks) e = by_first (nat_eq n k) refl e (apart n ks)
  where
    by_first : (b : Bool) → nat_eq n k ≡ b → not (b || has_number n ks) ≡ true → (not (has_number n ks) ≡ true → AllByRecursion (λ j. nat_eq n j ≡ false) ks) → AllByRecursion (λ j. nat_eq n j ≡ false) (k ∷ ks)
    by_first true s e rest = cc
    by_first false s e rest = (s, rest e)

each_once : (ns : List ℕ) → stand_once ns ≡ true → EachOnce ns
unfolding IsDistinct
each_once [] e = tt
each_once (n ∷ ns) e =
    let both = and_parts (not (has_number n ns)) (stand_once ns) e in
    (apart n ns both.0, each_once ns both.1)

consecutive : (n : ℕ) (ks : List ℕ) → are_consecutive n ks ≡ true → AreConsecutive n ks
consecutive n [] e = tt
consecutive n (k ∷ ks) e =
    let both = and_parts (nat_eq k n) (are_consecutive (n + 1) ks) e in
    (same_number k n both.0, consecutive (n + 1) ks both.1)

numbered : (first : ℕ) (q : Tree) → is_numbered first q ≡ true → IsNumbered first q
numbered first q e =
    let both = and_parts (stand_once (numbers q)) (are_consecutive first (new_numbers first q)) e in
    record { once = each_once (numbers q) both.0; consecutive = consecutive first (new_numbers first q) both.1 }

-- ---- all clauses

first_of : (b c : Bool) (bs cs : List Bool) → b ∷ bs ≡ c ∷ cs → b ≡ c
first_of b c bs cs e = cc

rest_of : (b c : Bool) (bs cs : List Bool) → b ∷ bs ≡ c ∷ cs → bs ≡ cs
rest_of b c bs cs e = cc

pub lowered : {o : Options} {ledger : List LedgerEntry} {p q : Tree} → clauses o ledger p q ≡ all_met → IsLowered (nodes p) o ledger p q
lowered {p = p} {q = q} e0 =
    let e1 = rest_of _ _ _ _ e0 in
    let e2 = rest_of _ _ _ _ e1 in
    let e3 = rest_of _ _ _ _ e2 in
    let e4 = rest_of _ _ _ _ e3 in
    let e5 = rest_of _ _ _ _ e4 in
    let e6 = rest_of _ _ _ _ e5 in
    let e7 = rest_of _ _ _ _ e6 in
    let e8 = rest_of _ _ _ _ e7 in
    let e9 = rest_of _ _ _ _ e8 in
    let e10 = rest_of _ _ _ _ e9 in
    let e11 = rest_of _ _ _ _ e10 in
    let e12 = rest_of _ _ _ _ e11 in
    let e13 = rest_of _ _ _ _ e12 in
    let e14 = rest_of _ _ _ _ e13 in
    let e15 = rest_of _ _ _ _ e14 in
    let e16 = rest_of _ _ _ _ e15 in
    let e17 = rest_of _ _ _ _ e16 in
    let e18 = rest_of _ _ _ _ e17 in
    let e19 = rest_of _ _ _ _ e18 in
    let e20 = rest_of _ _ _ _ e19 in
    let e21 = rest_of _ _ _ _ e20 in
    record {
      numbered = numbered (nodes p) q (first_of _ _ _ _ e0);
      clauses = record {
        left = first_of _ _ _ _ e1;
        declared = first_of _ _ _ _ e2;
        accounted = first_of _ _ _ _ e3;
        names = first_of _ _ _ _ e4;
        references = first_of _ _ _ _ e5;
        strict = first_of _ _ _ _ e6;
        texts = first_of _ _ _ _ e7;
        initialized = first_of _ _ _ _ e8;
        timely = first_of _ _ _ _ e9;
        temporaries = first_of _ _ _ _ e10;
        keys = first_of _ _ _ _ e11;
        carriers = first_of _ _ _ _ e12;
        nodes = first_of _ _ _ _ e13;
        classes = first_of _ _ _ _ e14;
        statements = first_of _ _ _ _ e15;
        lists = first_of _ _ _ _ e16;
        homes = first_of _ _ _ _ e17;
        definitions = first_of _ _ _ _ e18;
        elements = first_of _ _ _ _ e19;
        calls = first_of _ _ _ _ e20;
        printable = first_of _ _ _ _ e21;
      };
    }
