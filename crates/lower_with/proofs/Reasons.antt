-- Why nothing is made of a program.
use Rattle.std.proofs.Common.{inl, inr, ◌≡◌, List, ℕ, false}
use Rattle.std.specs.Prelude.{◌⊎◌}
use Rattle.es_base.specs.Tree.{Tree}
use Rattle.es_base.specs.declared.ids.NodeId.{NodeId}
use Rattle.es_base.specs.declared.ledger.LedgerEntry.{LedgerEntry}
use Rattle.es_lowering.specs.declared.lowering.Unlowered.{Unlowered}
use Rattle.es_steps.specs.LoweredClasses.{nothing_left}
use Rattle.es_steps.specs.declared.options.Options.{Options}
use Rattle.lower_run.specs.Lowering.{IsDeclined}
use Rattle.lower_with.specs.Judged.{IsReason, IsRefusedFor, IsUnmade}

-- a lowering declines a program for its own reasons
pub declined_reason : (Makes : Options → Tree → List LedgerEntry → Tree → Type 0) (Declines : Options → Tree → Unlowered → Type 0) (o : Options) (p : Tree) (error : Unlowered) → Declines o p error → IsDeclined (IsReason Makes Declines o p) error
declined_reason Makes Declines o p Unlowered.NoMemory declined = tt {0}
declined_reason Makes Declines o p (Unlowered.NotYet node) declined = inl declined
declined_reason Makes Declines o p Unlowered.TooDeep declined = inl declined

-- or what it makes is refused
pub refused_reason : (Makes : Options → Tree → List LedgerEntry → Tree → Type 0) (Declines : Options → Tree → Unlowered → Type 0) (o : Options) (names : List LedgerEntry) (p q : Tree) (error : Unlowered) → Makes o p names q → IsDeclined (IsRefusedFor o names p q) error → IsDeclined (IsReason Makes Declines o p) error
refused_reason Makes Declines o names p q Unlowered.NoMemory made refused = tt {0}
refused_reason Makes Declines o names p q (Unlowered.NotYet node) made refused = inr (inl (record { q = q; names = names; made = made; refused = refused }))
refused_reason Makes Declines o names p q Unlowered.TooDeep made refused = inr (inl (record { q = q; names = names; made = made; refused = refused }))

-- of a program with something to lower
pub reason_unmade : (Makes : Options → Tree → List LedgerEntry → Tree → Type 0) (Declines : Options → Tree → Unlowered → Type 0) (o : Options) (p : Tree) (foreign : List ℕ) (error : Unlowered) → nothing_left o p ≡ false → IsDeclined (IsReason Makes Declines o p) error → IsDeclined (IsUnmade Makes Declines o p foreign) error
reason_unmade Makes Declines o p foreign Unlowered.NoMemory changed reason = tt {0}
reason_unmade Makes Declines o p foreign (Unlowered.NotYet node) changed reason = record { changed = changed; reason = reason }
reason_unmade Makes Declines o p foreign Unlowered.TooDeep changed reason = record { changed = changed; reason = reason }
