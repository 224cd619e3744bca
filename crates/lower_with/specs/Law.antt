-- The law of lowerings that are right.
use Rattle.std.specs.Prelude.{◌≡◌, ℕ, List, true, false}
use Rattle.es_base.specs.Conforms.{conforms}
use Rattle.es_base.specs.Tree.{Tree}
use Rattle.es_base.specs.declared.ids.NodeId.{NodeId}
use Rattle.es_base.specs.declared.ledger.LedgerEntry.{LedgerEntry}
use Rattle.es_base.specs.declared.table.Place.{Place}
use Rattle.es_lowering.specs.declared.lowering.Unlowered.{Unlowered}
use Rattle.es_steps.specs.LoweredClasses.{has_lowered_class}
use Rattle.es_steps.specs.declared.options.Options.{Options}
use Rattle.lower_with.specs.Judged.{IsJudged, IsUnmade}
use Rattle.step_check.specs.declared.verdict.Verdict.{Verdict}

-- what a lowering makes that is always right: programs of the grammar that would be judged so
abbrev pub MakesRight : Options → Tree → List LedgerEntry → Tree → Type 0
MakesRight o p names q = (conforms Place.Program q ≡ true) × IsJudged Verdict.Yes o names p q

-- no program is declined, but for allocation failure
abbrev pub DeclinesNone : Options → Tree → Unlowered → Type 0
DeclinesNone o p Unlowered.NoMemory = Unit {0}
DeclinesNone o p error = ⊥

-- of such a lowering, no program is told as not lowered yet that has a class to be lowered
abbrev pub RightLaw : Type 0
RightLaw = (o : Options) (p : Tree) (foreign : List ℕ) (node : NodeId) → IsUnmade MakesRight DeclinesNone o p foreign (Unlowered.NotYet node) → has_lowered_class o p ≡ false
