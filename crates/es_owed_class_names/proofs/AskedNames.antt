-- Names of a class that are asked for, and whether they are read in time, step by step.
use Rattle.std.proofs.Common.{◌≡◌, refl, sym, ap, ◌∙◌, ℕ, List, [], ◌∷◌, ◌++◌, Bool, true, false, cond, not, ◌&&◌, append-nil}
use Rattle.std.proofs.Math.Bool.{and-false}
use Rattle.es_base.specs.Preorder.{preorder}
use Rattle.es_base.specs.Tree.{Tree, Node}
use Rattle.es_base.specs.declared.kind.Kind.{Kind}
use Rattle.es_base.specs.declared.ledger.LedgerEntry.{LedgerEntry}
use Rattle.es_lowered.specs.ClassNames.{MovedFunction, any_among, any_name, asked_names, asked_references, class_runs, class_timely, functions_outside, is_none, names_holding, naming_in_source, new_names_fit, numbers_inside, reaching, reading, stand_in_time, without, without_functions}
use Rattle.es_steps.specs.References.{Reference, resolve}
use Rattle.es_steps.specs.Values.{String}
use Rattle.es_owed_class_names.specs.Asked.{asked_besides, kept_names, naming_in_lowered, read_in_time}

pub asked_among : (first n : ℕ) (ledger : List LedgerEntry) (p q : Tree) (source kept names asked : List ℕ) → asked ≡ without kept names → kept ≡ kept_names first p q n source
    → names ≡ naming_in_lowered first ledger q n
    → asked ≡ asked_besides first ledger p q n source
asked_among first n ledger p q source kept names asked is kept_are names_are =
    is
    ∙ ap (λ (ns : List ℕ). without ns names) kept_are
    ∙ ap (λ (ns : List ℕ). without (kept_names first p q n source) ns) names_are

pub in_time : (first n : ℕ) (ledger : List LedgerEntry) (q : Tree) (names asked : List ℕ) (fs : List MovedFunction) (early holds : Bool) → fs ≡ functions_outside ledger q n
    → early ≡ (class_runs n (preorder q) && any_name (names_holding names fs)) → early ≡ false
    → asked ≡ asked_references ledger q n fs names → holds ≡ stand_in_time first q n asked
    → holds ≡ read_in_time first ledger q n names
in_time first n ledger q names asked fs early holds functions_are early_is not_early asked_are is =
    is
    ∙ ap (λ (ns : List ℕ). stand_in_time first q n ns) asked_are
    ∙ ap (λ (b : Bool). not b && stand_in_time first q n (asked_references ledger q n fs names)) (sym not_early ∙ early_is)
    ∙ ap (λ (gs : List MovedFunction). not (class_runs n (preorder q) && any_name (names_holding names gs)) && stand_in_time first q n (asked_references ledger q n gs names)) functions_are

-- ---- where no name is asked for

pub none_among : (ks : List ℕ) → any_among [] ks ≡ false
none_among [] = refl
none_among (k ∷ ks) = none_among ks

none_holding : (fs : List MovedFunction) → names_holding [] fs ≡ []
none_holding [] = refl
none_holding (f ∷ fs) = ap (λ (b : Bool). cond b (f.name ∷ []) [] ++ names_holding [] fs) (none_among f.numbers) ∙ none_holding fs

pub none_reads : (rs : List Reference) (ts : List Tree) → reading [] rs ts ≡ []
none_reads rs [] = refl
none_reads rs (Node Kind.IdentifierReference m span semantic_id ps ∷ ts) = none_reads rs ts
none_reads rs (Node kind m span semantic_id ps ∷ ts) = none_reads rs ts

none_reached : (es : List LedgerEntry) (fs : List MovedFunction) (rs : List Reference) (ts : List Tree) → reaching es fs rs ts [] ≡ []
none_reached [] fs rs ts = refl
none_reached (e ∷ es) fs rs ts =
    ap (λ (ns : List ℕ). reading (names_holding ns fs) rs ts) (none_reached es fs rs ts)
    ∙ ap (λ (ss : List String). reading ss rs ts) (none_holding fs)
    ∙ none_reads rs ts

pub none_reaching : (es : List LedgerEntry) (rs : List Reference) (ts : List Tree) (ns : List ℕ) → reaching es [] rs ts ns ≡ ns
none_reaching [] rs ts ns = refl
none_reaching (e ∷ es) rs ts ns = ap (λ (ms : List ℕ). ns ++ ms) (none_reads rs ts) ∙ append-nil ns

none_without : (fs : List MovedFunction) → without_functions fs [] ≡ []
none_without [] = refl
none_without (f ∷ fs) = none_without fs

none_asked : (first n : ℕ) (ledger : List LedgerEntry) (q : Tree) → read_in_time first ledger q n [] ≡ true
none_asked first n ledger q =
    ap (λ (ss : List String). not (class_runs n (preorder q) && any_name ss) && stand_in_time first q n (asked_references ledger q n fs [])) (none_holding fs)
    ∙ ap (λ (b : Bool). not b && stand_in_time first q n (asked_references ledger q n fs [])) (and-false (class_runs n (preorder q)))
    ∙ ap (λ (ns : List ℕ). stand_in_time first q n ns) no_reference
  where
    fs : List MovedFunction
    fs = functions_outside ledger q n

    no_reference : asked_references ledger q n fs [] ≡ []
    no_reference =
        ap (λ (ns : List ℕ). without (numbers_inside n (preorder q)) (without_functions fs ns)) (none_reached ledger fs (resolve q) (preorder q))
        ∙ ap (λ (ns : List ℕ). without (numbers_inside n (preorder q)) ns) (none_without fs)

pub none_read : (first n : ℕ) (ledger : List LedgerEntry) (q : Tree) (names : List ℕ) → is_none names ≡ true → true ≡ read_in_time first ledger q n names
none_read first n ledger q [] is = sym (none_asked first n ledger q)
none_read first n ledger q (m ∷ names) is = sym (ap (λ (b : Bool). cond b true (read_in_time first ledger q n (m ∷ names))) is)

-- ---- of one class

timely_by : (first n : ℕ) (ledger : List LedgerEntry) (p q : Tree) (source names others : List ℕ) (fit holds : Bool) → source ≡ naming_in_source first n p → names ≡ asked_besides first ledger p q n source
    → others ≡ without source names → fit ≡ new_names_fit first p q n others → holds ≡ read_in_time first ledger q n names
    → (fit && holds) ≡ class_timely first ledger p q n
timely_by first n ledger p q source names others fit holds source_are names_are others_are fit_is is =
    let all : names ≡ asked_names first ledger p q n = names_are ∙ ap (λ (ns : List ℕ). asked_besides first ledger p q n ns) source_are in
    ap (λ (b : Bool). b && holds)
    (fit_is
    ∙ ap (λ (ns : List ℕ). new_names_fit first p q n ns)
    (others_are
    ∙ ap (λ (ns : List ℕ). without ns names) source_are
    ∙ ap (λ (ns : List ℕ). without (naming_in_source first n p) ns) all))
    ∙ ap (λ (b : Bool). new_names_fit first p q n (without (naming_in_source first n p) (asked_names first ledger p q n)) && b) (is ∙ ap (λ (ns : List ℕ). read_in_time first ledger q n ns) all)

pub unfit : (first n : ℕ) (ledger : List LedgerEntry) (p q : Tree) (source names others : List ℕ) (fit : Bool) → source ≡ naming_in_source first n p → names ≡ asked_besides first ledger p q n source
    → others ≡ without source names → fit ≡ new_names_fit first p q n others → fit ≡ false
    → false ≡ class_timely first ledger p q n
unfit first n ledger p q source names others fit source_are names_are others_are fit_is not_fit =
    let holds : Bool = read_in_time first ledger q n names in
    ap (λ (b : Bool). b && holds) (sym not_fit) ∙ timely_by first n ledger p q source names others fit holds source_are names_are others_are fit_is refl

pub fitting : (first n : ℕ) (ledger : List LedgerEntry) (p q : Tree) (source names others : List ℕ) (fit holds : Bool) → source ≡ naming_in_source first n p → names ≡ asked_besides first ledger p q n source
    → others ≡ without source names → fit ≡ new_names_fit first p q n others → fit ≡ true → holds ≡ read_in_time first ledger q n names
    → holds ≡ class_timely first ledger p q n
fitting first n ledger p q source names others fit holds source_are names_are others_are fit_is is_fit is =
    ap (λ (b : Bool). b && holds) (sym is_fit) ∙ timely_by first n ledger p q source names others fit holds source_are names_are others_are fit_is is
