-- What is said of a source and of what it was lowered to.
use Rattle.std.specs.Prelude.{◌≡◌, ℕ, List, false, Option, Some, None}
use Rattle.es_base.specs.Numbered.{IsNumbered}
use Rattle.es_base.specs.Preorder.{nodes}
use Rattle.es_base.specs.Tree.{Tree}
use Rattle.es_base.specs.declared.ids.NodeId.{NodeId}
use Rattle.es_base.specs.declared.ledger.LedgerEntry.{LedgerEntry}
use Rattle.es_clauses.specs.Clauses.{first_unmet, in_order}
use Rattle.es_clauses.specs.Nodes.{node_of}
use Rattle.es_lowered.specs.Lowered.{IsLowered}
use Rattle.es_lowered.specs.Texts.{texts_stay}
use Rattle.es_steps.specs.Meaning.{lowered_means, source_means}
use Rattle.es_steps.specs.declared.options.Options.{Options}
use Rattle.step_check.specs.Comparison.{AreOne, DifferIn}
use Rattle.step_check.specs.declared.verdict.Part.{Part}
use Rattle.step_check.specs.declared.verdict.Verdict.{Verdict}

-- q is what p may be lowered to under the options, with these generated names, where numbers from the first on are new: it meets
-- the clauses, and means what p means
pub record IsRight (first : ℕ) (o : Options) (ledger : List LedgerEntry) (p q : Tree) : Type 0 where
  pub lowered : IsLowered first o ledger p q
  pub meaning : AreOne (source_means o p) (lowered_means o ledger p q)

-- its new nodes are numbered, and it meets the clauses that are asked in front of the meaning
pub record MeetsFirst (first : ℕ) (o : Options) (ledger : List LedgerEntry) (p q : Tree) : Type 0 where
  pub numbered : IsNumbered first q
  pub met : first_unmet in_order first o ledger p q ≡ None

abbrev pub FailsIn : Part → ℕ → ℕ → Options → List LedgerEntry → Tree → Tree → Type 0
FailsIn Part.Numbers node first o ledger p q = (IsNumbered first q → ⊥) × (node ≡ 0)
FailsIn (Part.Lowered c) node first o ledger p q = IsNumbered first q × ((first_unmet in_order first o ledger p q ≡ Some c) × (node ≡ node_of c first o ledger p q))
FailsIn Part.Texts node first o ledger p q = MeetsFirst first o ledger p q × (AreOne (source_means o p) (lowered_means o ledger p q) × ((texts_stay first p q ≡ false) × (node ≡ 0)))
FailsIn part node first o ledger p q = MeetsFirst first o ledger p q × DifferIn part node (source_means o p) (lowered_means o ledger p q)

abbrev pub IsJudgedFrom : Verdict → ℕ → Options → List LedgerEntry → Tree → Tree → Type 0
IsJudgedFrom Verdict.Yes first o ledger p q = IsRight first o ledger p q
IsJudgedFrom (Verdict.No part node) first o ledger p q = FailsIn part node.0 first o ledger p q

-- what is said of a source p, and of what it was lowered to
abbrev pub IsJudged : Verdict → Options → List LedgerEntry → Tree → Tree → Type 0
IsJudged v o ledger p q = IsJudgedFrom v (nodes p) o ledger p q

-- ---- clauses alone, whatever the two mean

-- in what q fails, meanings and texts aside
abbrev pub FailsFirst : Part → ℕ → ℕ → Options → List LedgerEntry → Tree → Tree → Type 0
FailsFirst Part.Numbers node first o ledger p q = FailsIn Part.Numbers node first o ledger p q
FailsFirst (Part.Lowered c) node first o ledger p q = FailsIn (Part.Lowered c) node first o ledger p q
FailsFirst part node first o ledger p q = ⊥

abbrev pub IsFailure : Option (Part × NodeId) → ℕ → Options → List LedgerEntry → Tree → Tree → Type 0
IsFailure None first o ledger p q = MeetsFirst first o ledger p q
IsFailure (Some (part, node)) first o ledger p q = FailsFirst part node.0 first o ledger p q

-- in what q fails, meanings aside
abbrev pub FailsClauses : Part → ℕ → ℕ → Options → List LedgerEntry → Tree → Tree → Type 0
FailsClauses Part.Texts node first o ledger p q = MeetsFirst first o ledger p q × ((texts_stay first p q ≡ false) × (node ≡ 0))
FailsClauses part node first o ledger p q = FailsFirst part node first o ledger p q

abbrev pub AreJudgedFrom : Verdict → ℕ → Options → List LedgerEntry → Tree → Tree → Type 0
AreJudgedFrom Verdict.Yes first o ledger p q = IsLowered first o ledger p q
AreJudgedFrom (Verdict.No part node) first o ledger p q = FailsClauses part node.0 first o ledger p q

-- what is said of a source p, and of what it was lowered to, by the clauses alone
abbrev pub IsJudgedByClauses : Verdict → Options → List LedgerEntry → Tree → Tree → Type 0
IsJudgedByClauses v o ledger p q = AreJudgedFrom v (nodes p) o ledger p q
