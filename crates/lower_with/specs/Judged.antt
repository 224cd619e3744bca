-- What is said of a lowered program whoever made it, what is made where that is yes, and why nothing is made where it is no.
use Rattle.std.specs.Prelude.{◌≡◌, ◌⊎◌, ℕ, List, [], Option, Some, None, true, false}
use Rattle.es_base.specs.Conforms.{conforms}
use Rattle.es_base.specs.Tree.{Tree}
use Rattle.es_base.specs.declared.ids.NodeId.{NodeId}
use Rattle.es_base.specs.declared.ledger.LedgerEntry.{LedgerEntry}
use Rattle.es_base.specs.declared.table.Place.{Place}
use Rattle.es_lowering.specs.declared.lowering.Unlowered.{Unlowered}
use Rattle.es_steps.specs.LoweredClasses.{has_lowered_class, nothing_left}
use Rattle.es_steps.specs.Shapes.{shapes}
use Rattle.es_steps.specs.declared.options.Options.{Options}
use Rattle.lower_run.specs.Lowering.{IsOwed, IsPlain}
use Rattle.step_check.specs.Judged as step_check
use Rattle.step_check.specs.Judged.{IsJudgedByClauses}
use Rattle.step_check.specs.declared.verdict.Part.{Part}
use Rattle.step_check.specs.declared.verdict.Verdict.{Verdict}

-- a source without a shape is held against its meaning too
pub record IsJudged (v : Verdict) (o : Options) (names : List LedgerEntry) (p q : Tree) : Type 0 where
  pub shapeless : shapes o p ≡ [] → step_check.IsJudged v o names p q
  pub shaped : ¬ (shapes o p ≡ []) → IsJudgedByClauses v o names p q

-- what is made of a program by a lowering that makes such programs: a right one, which where the program has something to lower is
-- one that the lowering makes
pub record IsMade (Makes : Options → Tree → List LedgerEntry → Tree → Type 0) (o : Options) (p : Tree) (foreign : List ℕ) (names : List LedgerEntry) (q : Tree) : Type 0 where
  pub owed : IsOwed (IsPlain o p) o p names q
  pub made : nothing_left o p ≡ false → Makes o p names q

-- ---- of a program q that p was lowered to, with these generated names

-- no fault is in it, and it is a right one
pub record IsFaultless (o : Options) (names : List LedgerEntry) (p q : Tree) : Type 0 where
  pub program : conforms Place.Program q ≡ true
  pub owed : IsOwed (IsPlain o p) o p names q

-- it is judged not to be right, in some part, at this node
pub record IsJudgedWrong (node : NodeId) (o : Options) (names : List LedgerEntry) (p q : Tree) : Type 0 where
  pub part : Part
  pub judged : IsJudged (Verdict.No part node) o names p q

-- it is no program of the grammar, or is judged so
abbrev pub IsWrong : NodeId → Options → List LedgerEntry → Tree → Tree → Type 0
IsWrong node o names p q = ((conforms Place.Program q ≡ false) × (node.0 ≡ 0)) ⊎ IsJudgedWrong node o names p q

-- it is a program that would have to be held against its meaning
abbrev pub IsUnjudged : Options → List LedgerEntry → Tree → Tree → Type 0
IsUnjudged o names p q = (conforms Place.Program q ≡ true) × (shapes o p ≡ [])

abbrev pub IsFault : Option NodeId → Options → List LedgerEntry → Tree → Tree → Type 0
IsFault None o names p q = IsFaultless o names p q
IsFault (Some node) o names p q = IsWrong node o names p q

-- why it is refused
abbrev pub IsRefusedFor : Options → List LedgerEntry → Tree → Tree → Unlowered → Type 0
IsRefusedFor o names p q Unlowered.NoMemory = ⊥
IsRefusedFor o names p q (Unlowered.NotYet node) = IsWrong node o names p q
IsRefusedFor o names p q Unlowered.TooDeep = IsUnjudged o names p q

-- ---- of a lowering, by what it makes of programs and why it declines them

-- it makes a program that is refused
pub record IsMadeAndRefused (Makes : Options → Tree → List LedgerEntry → Tree → Type 0) (o : Options) (p : Tree) (error : Unlowered) : Type 0 where
  pub q : Tree
  pub names : List LedgerEntry
  pub made : Makes o p names q
  pub refused : IsRefusedFor o names p q error

-- no class of the program is lowered, and so it is not asked
abbrev pub HasNoClass : Options → Tree → Unlowered → Type 0
HasNoClass o p (Unlowered.NotYet node) = (has_lowered_class o p ≡ false) × (node.0 ≡ 0)
HasNoClass o p error = ⊥

-- why nothing is made of a program with something to lower: the lowering declines it, or makes one that is refused, or is not asked
abbrev pub IsReason : (Options → Tree → List LedgerEntry → Tree → Type 0) → (Options → Tree → Unlowered → Type 0) → Options → Tree → Unlowered → Type 0
IsReason Makes Declines o p error = Declines o p error ⊎ (IsMadeAndRefused Makes o p error ⊎ HasNoClass o p error)

-- why nothing is made of a program
pub record IsUnmade (Makes : Options → Tree → List LedgerEntry → Tree → Type 0) (Declines : Options → Tree → Unlowered → Type 0) (o : Options) (p : Tree) (foreign : List ℕ) (error : Unlowered) : Type 0 where
  pub changed : nothing_left o p ≡ false
  pub reason : IsReason Makes Declines o p error
