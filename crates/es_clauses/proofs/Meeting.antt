-- No clause is unmet exactly where all are met.
use Rattle.std.proofs.Common.{◌≡◌, refl, ap, ◌∙◌, ℕ, List, [], ◌∷◌, Bool, true, false, cond, Option, Some, None}
use Rattle.es_base.specs.Tree.{Tree}
use Rattle.es_base.specs.declared.ledger.LedgerEntry.{LedgerEntry}
use Rattle.es_clauses.specs.Clauses.{first_unmet, holds, in_order}
use Rattle.es_clauses.specs.declared.clause.Clause.{Clause}
use Rattle.es_lowered.specs.Lowered.{MeetsClauses}
use Rattle.es_steps.specs.declared.options.Options.{Options}

-- all of these clauses hold
abbrev AllHold : List Clause → ℕ → Options → List LedgerEntry → Tree → Tree → Type 0
AllHold [] first o ledger p q = Unit
AllHold (k ∷ ks) first o ledger p q = (holds k first o ledger p q ≡ true) × AllHold ks first o ledger p q

first_holds : (b : Bool) (x : Option Clause) (k : Clause) → cond b x (Some k) ≡ None → (b ≡ true) × (x ≡ None)
first_holds true x k h = (refl, h)
first_holds false x k h = absurd (cc)

hold_all : (ks : List Clause) (first : ℕ) (o : Options) (ledger : List LedgerEntry) (p q : Tree) → first_unmet ks first o ledger p q ≡ None → AllHold ks first o ledger p q
hold_all [] first o ledger p q h = tt
hold_all (k ∷ ks) first o ledger p q h =
    let both = first_holds (holds k first o ledger p q) (first_unmet ks first o ledger p q) k h in
    (both.0, hold_all ks first o ledger p q both.1)

none_of_all : (ks : List Clause) (first : ℕ) (o : Options) (ledger : List LedgerEntry) (p q : Tree) → AllHold ks first o ledger p q → first_unmet ks first o ledger p q ≡ None
none_of_all [] first o ledger p q a = refl
none_of_all (k ∷ ks) first o ledger p q a = ap (λ b. cond b (first_unmet ks first o ledger p q) (Some k)) a.0 ∙ none_of_all ks first o ledger p q a.1

of_all : (first : ℕ) (o : Options) (ledger : List LedgerEntry) (p q : Tree) → AllHold in_order first o ledger p q → holds Clause.Texts first o ledger p q ≡ true → MeetsClauses first o ledger p q
of_all first o ledger p q (left, (declared, (accounted, (initialized, (timely, (temporaries, (keys, (names, (references, (strict, (carriers, (nodes, (classes, (statements, (lists, (homes, (printable, (definitions, (elements, (calls, none)))))))))))))))))))) texts =
    record { left = left; declared = declared; accounted = accounted; names = names; references = references; strict = strict; texts = texts; initialized = initialized; timely = timely; temporaries = temporaries; keys = keys; carriers = carriers; nodes = nodes; classes = classes; statements = statements; lists = lists; homes = homes; definitions = definitions; elements = elements; calls = calls; printable = printable }

-- where none of these clauses is unmet, and texts stay, all clauses are met
pub all_met : (first : ℕ) (o : Options) (ledger : List LedgerEntry) (p q : Tree) → first_unmet in_order first o ledger p q ≡ None → holds Clause.Texts first o ledger p q ≡ true → MeetsClauses first o ledger p q
all_met first o ledger p q h texts = of_all first o ledger p q (hold_all in_order first o ledger p q h) texts

all_of : (first : ℕ) (o : Options) (ledger : List LedgerEntry) (p q : Tree) → MeetsClauses first o ledger p q → AllHold in_order first o ledger p q
all_of first o ledger p q m = (m.left, (m.declared, (m.accounted, (m.initialized, (m.timely, (m.temporaries, (m.keys, (m.names, (m.references, (m.strict, (m.carriers, (m.nodes, (m.classes, (m.statements, (m.lists, (m.homes, (m.printable, (m.definitions, (m.elements, (m.calls, tt))))))))))))))))))))

pub none_unmet : (first : ℕ) (o : Options) (ledger : List LedgerEntry) (p q : Tree) → MeetsClauses first o ledger p q → first_unmet in_order first o ledger p q ≡ None
none_unmet first o ledger p q m = none_of_all in_order first o ledger p q (all_of first o ledger p q m)
