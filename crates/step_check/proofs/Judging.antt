-- What is judged clause by clause is what a lowered program owes.
use Rattle.std.proofs.Common.{◌≡◌, refl, subst, ℕ, List, [], true, Option, Some, None, IfOk}
use Rattle.es_base.specs.Numbered.{IsNumbered}
use Rattle.es_base.specs.Tree.{Tree}
use Rattle.es_base.specs.declared.ledger.LedgerEntry.{LedgerEntry}
use Rattle.es_clauses.proofs.Meeting.{all_met}
use Rattle.es_clauses.specs.Clauses.{first_unmet, holds, in_order}
use Rattle.es_clauses.specs.declared.clause.Clause.{Clause}
use Rattle.es_steps.specs.Meaning.{Meaning, lowered_means, means, source_means}
use Rattle.es_steps.specs.PrivateNames.{PrivateMember}
use Rattle.es_steps.specs.declared.options.Options.{Options}
use Rattle.step_check.specs.Comparison.{AreOne, DifferIn, IsComparison, MayMean}
use Rattle.es_lowered.specs.Lowered.{IsLowered}
use Rattle.step_check.specs.Judged.{FailsClauses, FailsFirst, FailsIn, IsRight}
use Rattle.step_check.specs.declared.verdict.CheckError.{CheckError}
use Rattle.step_check.specs.declared.verdict.Part.{Part}
use Rattle.step_check.specs.declared.verdict.Verdict.{Verdict}
use Rattle.std.specs.declared.result.Result.{Result}

pub meets_all : (first : ℕ) (o : Options) (ledger : List LedgerEntry) (p q : Tree) → IsNumbered first q → first_unmet in_order first o ledger p q ≡ None → holds Clause.Texts first o ledger p q ≡ true → IsLowered first o ledger p q
meets_all first o ledger p q numbered met texts = record { numbered = numbered; clauses = all_met first o ledger p q met texts }

pub is_right : (first : ℕ) (o : Options) (ledger : List LedgerEntry) (p q : Tree) → IsNumbered first q → first_unmet in_order first o ledger p q ≡ None
    → AreOne (source_means o p) (lowered_means o ledger p q) → holds Clause.Texts first o ledger p q ≡ true → IsRight first o ledger p q
is_right first o ledger p q numbered met one texts = record { lowered = meets_all first o ledger p q numbered met texts; meaning = one }

-- where meanings differ in a part, the pair fails there
pub fails : (part : Part) (node first : ℕ) (o : Options) (ledger : List LedgerEntry) (p q : Tree) → IsNumbered first q → first_unmet in_order first o ledger p q ≡ None
    → DifferIn part node (source_means o p) (lowered_means o ledger p q) → FailsIn part node first o ledger p q
fails Part.Numbers node first o ledger p q numbered met d = absurd d
fails (Part.Lowered c) node first o ledger p q numbered met d = absurd d
fails Part.Texts node first o ledger p q numbered met d = absurd d
fails Part.NoMeaning node first o ledger p q numbered met d = (record { numbered = numbered; met = met }, d)
fails Part.Program node first o ledger p q numbered met d = (record { numbered = numbered; met = met }, d)
fails Part.Function node first o ledger p q numbered met d = (record { numbered = numbered; met = met }, d)
fails Part.Class node first o ledger p q numbered met d = (record { numbered = numbered; met = met }, d)
fails Part.Construction node first o ledger p q numbered met d = (record { numbered = numbered; met = met }, d)
fails Part.Private node first o ledger p q numbered met d = (record { numbered = numbered; met = met }, d)
fails Part.Declaration node first o ledger p q numbered met d = (record { numbered = numbered; met = met }, d)
fails Part.Export node first o ledger p q numbered met d = (record { numbered = numbered; met = met }, d)

-- what fails in front of the meaning, fails
pub first_fails : (part : Part) (node first : ℕ) (o : Options) (ledger : List LedgerEntry) (p q : Tree) → FailsFirst part node first o ledger p q → FailsIn part node first o ledger p q
first_fails Part.Numbers node first o ledger p q f = f
first_fails (Part.Lowered c) node first o ledger p q f = f
first_fails part node first o ledger p q f = absurd f

-- and by clauses alone
pub clauses_fail : (part : Part) (node first : ℕ) (o : Options) (ledger : List LedgerEntry) (p q : Tree) → FailsFirst part node first o ledger p q → FailsClauses part node first o ledger p q
clauses_fail Part.Texts node first o ledger p q f = absurd f
clauses_fail part node first o ledger p q f = f

-- what is said of a pair is said of these, which are its members
pub of_members : {E : Type 0} (said : Verdict → ℕ → Options → List LedgerEntry → Tree → Tree → Type 0) (r : Result Verdict E) (first n : ℕ) (o asked : Options) (ledger names : List LedgerEntry) (p source q lowered : Tree)
    → first ≡ n → o ≡ asked → ledger ≡ names → p ≡ source → q ≡ lowered → IfOk r (λ v. said v first o ledger p q) → IfOk r (λ v. said v n asked names source lowered)
of_members said r first n o asked ledger names p source q lowered a b c d e h =
    subst (λ (m : ℕ). IfOk r (λ v. said v m asked names source lowered)) a
    (subst (λ (x : Options). IfOk r (λ v. said v first x names source lowered)) b
    (subst (λ (es : List LedgerEntry). IfOk r (λ v. said v first o es source lowered)) c
    (subst (λ (t : Tree). IfOk r (λ v. said v first o ledger t lowered)) d
    (subst (λ (t : Tree). IfOk r (λ v. said v first o ledger p t)) e h))))

-- where one is missing, there is none
pub none_of_none : (a : Option Meaning) → MayMean None a → a ≡ None
none_of_none None h = refl
none_of_none (Some m) h = absurd h

-- two programs that are read under these
abbrev Compared : Result Verdict CheckError → Options → List LedgerEntry → Tree → Tree → ℕ → List PrivateMember → List (ℕ × ℕ) → Type 0
Compared r o ledger p q n ms xs =
    IfOk r (λ v. IsComparison
    (means (record { first_new = n; options = o; ledger = []; members = ms; named = xs; late = [] }) p)
    (means (record { first_new = n; options = o; ledger = ledger; members = ms; named = xs; late = [] }) q) v)

-- the same of what is the same
pub under : (r : Result Verdict CheckError) (o : Options) (ledger : List LedgerEntry) (p q : Tree) (n k : ℕ) (ms ns : List PrivateMember) (xs ys : List (ℕ × ℕ)) → n ≡ k → ms ≡ ns → xs ≡ ys
    → Compared r o ledger p q n ms xs → Compared r o ledger p q k ns ys
under r o ledger p q n k ms ns xs ys first members named h =
    subst (λ (i : ℕ). Compared r o ledger p q i ns ys) first
    (subst (λ (zs : List PrivateMember). Compared r o ledger p q n zs ys) members
    (subst (λ (zs : List (ℕ × ℕ)). Compared r o ledger p q n ms zs) named h))
