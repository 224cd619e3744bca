-- What a run ends with, and why: the tree of the bytes, what is written of it, and the cause of each status; over any lowering,
-- by what it makes and why it declines.
use Rattle.std.specs.Prelude.{◌≡◌, ◌≤◌, List, ◌++◌, map, ℕ, length, Option, Some, None, Ok, Err, IsUtf8, ◌⊎◌, true}
use Rattle.serde_json.specs.Data.{Data}
use Rattle.serde_json.specs.Read.{read as read_text}
use Rattle.serde_json.specs.Written.{compact_text}
use Rattle.es_base.specs.Conforms.{conforms}
use Rattle.es_base.specs.Tree.{Tree}
use Rattle.es_base.specs.declared.diagnostic.Diagnostic.{Diagnostic}
use Rattle.es_base.specs.declared.ids.NodeId.{NodeId}
use Rattle.es_base.specs.declared.ledger.LedgerEntry.{LedgerEntry}
use Rattle.es_base.specs.declared.shape.Shape.{Shape}
use Rattle.es_base.specs.declared.table.Place.{Place}
use Rattle.es_lowering.specs.declared.lowering.Unlowered.{Unlowered}
use Rattle.es_writing.specs.Kept.{IsKept}
use Rattle.es_writing.specs.Lowered.{IsArranged, NamesFit, WarningsFit, WritesText, entry_cmp, write_lowered}
use Rattle.es_reading.specs.Fault.{Fault, not_a_tree, float_at}
use Rattle.es_reading.specs.Reading.{read, root}
use Rattle.es_reading.specs.declared.fault.ReadError.{ReadError}
use Rattle.es_reading.specs.declared.numbers.Numbers.{Numbers}
use Rattle.es_steps.specs.Shapes.{shapes}
use Rattle.es_steps.specs.Told.{warnings_of}
use Rattle.es_steps.specs.declared.options.Options.{Options}
use Rattle.es_validity.specs.Facts.{facts_of}
use Rattle.es_validity.specs.Validity.{is_valid, IsRefusedBy}
use Rattle.es_validity.specs.declared.error.LowerError.{LowerError}
use Rattle.lower_edge.specs.Ending as ending
use Rattle.lower_edge.specs.Ending.{most_bytes}
use Rattle.lower_edge.specs.Lines.{line, too_deep_line}
use Rattle.lower_edge.specs.Texts.{HasNoValue, IsTextOfValue}
use Rattle.lower_edge.specs.declared.status.EdgeStatus.{EdgeStatus}
use Rattle.lower_io.specs.Causes.{Rose}
use Rattle.lower_run.specs.Lines.{json_line, fault_line}
use Rattle.lower_run.specs.Lowering.{Declining, Making}
use Rattle.lower_run.specs.declared.program.NotLowered.{NotLowered}
use Rattle.lower_run.specs.declared.status.Status.{Status}

-- ---- what is written of a program

-- the text of a program with these generated names, warnings and shapes, and a line feed
pub record IsTextOf (text : List ℕ) (q : Tree) (names : List LedgerEntry) (warnings : List Diagnostic) (outside : List Shape) : Type 0 where
  pub program : List ℕ
  pub writes : WritesText program q names warnings outside
  pub fed : text ≡ line program

-- The text of a program q that is made of p, with its generated names in the order in which they are written, and with the
-- warnings and the shapes of p. q is a program of the grammar, and all that is written is such as JSON holds, so the text fixes
-- it.
pub record IsLoweredTree (Makes : Making) (o : Options) (p : Tree) (foreign : List ℕ) (text : List ℕ) : Type 0 where
  pub q : Tree
  pub names : List LedgerEntry
  pub ordered : List LedgerEntry
  pub warnings : List Diagnostic
  pub written : text ≡ line (compact_text (write_lowered q ordered warnings (shapes o p)))
  pub arranged : IsArranged entry_cmp names ordered
  pub program : conforms Place.Program q ≡ true
  pub kept : IsKept q
  pub names_kept : NamesFit ordered
  pub warnings_kept : WarningsFit warnings
  pub warned : map (λ d. d.node.0) warnings ≡ warnings_of o p
  pub made : Makes o p foreign names q

-- why a program is refused, but for allocation failure: it has a fault, or is too large, or is valid, and is declined
abbrev pub IsRefused : Declining → Options → Tree → List ℕ → LowerError → Type 0
IsRefused Declines o p foreign (LowerError.NotYet node) = (is_valid o foreign p ≡ true) × Declines o p foreign (Unlowered.NotYet node)
IsRefused Declines o p foreign e = IsRefusedBy (facts_of p) o foreign p e

-- the line of such an error
abbrev pub IsRefusal : Declining → Options → Tree → List ℕ → List ℕ → Type 0
IsRefusal Declines o p foreign text = ending.IsRefusal (IsRefused Declines o p foreign) text

-- it is valid, and declined since codes stand in it too deep
abbrev pub IsTooDeep : Declining → Options → Tree → List ℕ → Type 0
IsTooDeep Declines o p foreign = (is_valid o foreign p ≡ true) × Declines o p foreign Unlowered.TooDeep

-- why it is not lowered
abbrev pub IsNotLowered : Declining → Options → Tree → List ℕ → NotLowered → Type 0
IsNotLowered Declines o p foreign (NotLowered.Refused error) = IsRefused Declines o p foreign error
IsNotLowered Declines o p foreign NotLowered.TooDeep = IsTooDeep Declines o p foreign

-- of a program, and its nodes that have members outside the table: what is lowered is valid
abbrev pub IsOutputOfTree : Making → Declining → Options → Tree → List ℕ → Status → List ℕ → Type 0
IsOutputOfTree Makes Declines o p foreign Status.Done text = (is_valid o foreign p ≡ true) × IsLoweredTree Makes o p foreign text
IsOutputOfTree Makes Declines o p foreign Status.Refused text = IsRefusal Declines o p foreign text
IsOutputOfTree Makes Declines o p foreign Status.TooDeep text = IsTooDeep Declines o p foreign × (text ≡ too_deep_line)
IsOutputOfTree Makes Declines o p foreign status text = ⊥

-- ---- of a value

-- it is this program, numbered in preorder
pub record IsOfTree (Makes : Making) (Declines : Declining) (o : Options) (d : Data) (status : Status) (text : List ℕ) : Type 0 where
  pub p : Tree
  pub foreign : List ℕ
  pub tree : read Numbers.Preorder d root 0 ≡ Ok (record { value = p; foreign = foreign })
  pub output : IsOutputOfTree Makes Declines o p foreign status text

-- it is none, and this is its first fault in preorder
pub record IsFaultLine (d : Data) (text : List ℕ) : Type 0 where
  pub fault : Fault
  pub first : read Numbers.Preorder d root 0 ≡ Err fault
  pub written : text ≡ fault_line fault

-- the line of an error that is no allocation failure
abbrev pub IsLineOf : ReadError → List ℕ → Type 0
IsLineOf ReadError.NoMemory text = ⊥
IsLineOf (ReadError.NotATree at what) text = text ≡ fault_line (not_a_tree at what)
IsLineOf (ReadError.Float at) text = text ≡ fault_line (float_at at)

abbrev pub IsOutputOfValue : Making → Declining → Options → Data → Status → List ℕ → Type 0
IsOutputOfValue Makes Declines o d Status.NotATree text = IsFaultLine d text
IsOutputOfValue Makes Declines o d status text = IsOfTree Makes Declines o d status text

-- ---- of bytes

-- the bytes are JSON text of this value
abbrev pub IsOfValue : Making → Declining → Options → List ℕ → Status → List ℕ → Type 0
IsOfValue Makes Declines o b status text = IsTextOfValue (λ d. IsOutputOfValue Makes Declines o d status text) b

-- the output for the bytes under the options, with each status that depends on the bytes alone
abbrev pub IsOutputOfBytes : Making → Declining → Options → List ℕ → Status → List ℕ → Type 0
IsOutputOfBytes Makes Declines o b Status.NotATree text = (HasNoValue b × (text ≡ json_line)) ⊎ IsOfValue Makes Declines o b Status.NotATree text
IsOutputOfBytes Makes Declines o b status text = IsOfValue Makes Declines o b status text

-- ---- the statuses

-- which status of the edge each is
abbrev pub edge_of : Status → Option EdgeStatus
edge_of Status.BadArguments = Some EdgeStatus.BadArguments
edge_of Status.ReadFault = Some EdgeStatus.ReadFault
edge_of Status.WriteFault = Some EdgeStatus.WriteFault
edge_of Status.NoMemory = Some EdgeStatus.NoMemory
edge_of Status.TooLong = Some EdgeStatus.TooLong
edge_of status = None

-- nothing is left in a source that tells its bytes, where the status tells of all of them
abbrev pub IsReadToEnd : Option (List ℕ) → Option (List ℕ) → Status → Type 0
IsReadToEnd left rest status = ending.IsReadToEnd (edge_of status) left rest

-- why a run ends with this status: options, the bytes that the source told and its faults before and after, what the sink
-- held and holds and its faults before and after
abbrev pub Cause : Making → Declining → Option Options → Option (List ℕ) → ℕ → ℕ → Option (List ℕ) → Option (List ℕ) → ℕ → ℕ → Status → Type 0
Cause Makes Declines o left before now held after first last status = ending.Cause edge_of (IsOutputOfBytes Makes Declines) o left before now held after first last status

-- ---- completeness

-- the bytes are JSON text of this program, which is valid
pub record IsOfValidProgram (o : Options) (b : List ℕ) : Type 0 where
  pub few : length b ≤ most_bytes
  pub utf8 : IsUtf8 b
  pub d : Data
  pub value : read_text b ≡ Some d
  pub p : Tree
  pub foreign : List ℕ
  pub tree : read Numbers.Preorder d root 0 ≡ Ok (record { value = p; foreign = foreign })
  pub valid : is_valid o foreign p ≡ true

-- there is a reason, told by this node
pub record HasReason (Declines : Unlowered → Type 0) : Type 0 where
  pub node : NodeId
  pub declined : Declines (Unlowered.NotYet node)

-- what is answered of a valid program that is declined for these reasons
abbrev pub IsAnswer : (Unlowered → Type 0) → Status → Type 0
IsAnswer Declines Status.Done = Unit
IsAnswer Declines Status.NoMemory = Unit
IsAnswer Declines Status.Refused = HasReason Declines
IsAnswer Declines Status.TooDeep = Declines Unlowered.TooDeep
IsAnswer Declines status = ⊥

-- of such bytes, with arguments of the grammar, and where neither the source nor the sink failed, nothing is answered but that
-- the tree was written, that it is declined for a reason, or that memory ran out
abbrev pub Complete : Declining → Option Options → Option (List ℕ) → ℕ → ℕ → ℕ → ℕ → Status → Type 0
Complete Declines o left before now first last status = (options : Options) (b : List ℕ) → o ≡ Some options → left ≡ Some b → (program : IsOfValidProgram options b) → ¬ Rose before now → ¬ Rose first last → IsAnswer (Declines options program.p program.foreign) status

-- ---- the main statement

-- of a source and a sink that tell their bytes: the arguments are in the grammar, the source had these bytes, and the sink holds
-- what it held, followed by the text of what their tree was lowered to
pub record HasLowered (Makes : Making) (Declines : Declining) (o : Option Options) (b held now : List ℕ) : Type 0 where
  pub options : Options
  pub arguments : o ≡ Some options
  pub few : length b ≤ most_bytes
  pub text : List ℕ
  pub gained : now ≡ held ++ text
  pub lowered : IsOfValue Makes Declines options b Status.Done text
