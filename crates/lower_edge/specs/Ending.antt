-- What a run ends with, and why, whatever the program answers: what is written, and the cause of each status.
use Rattle.std.specs.Prelude.{◌≡◌, ◌≤◌, ◌<◌, List, [], ℕ, length, Option, Some, None, IfSome, OnSome}
use Rattle.es_steps.specs.declared.options.Options.{Options}
use Rattle.es_validity.specs.declared.error.LowerError.{LowerError}
use Rattle.lower_edge.specs.Lines.{bad_arguments_line, read_fault_line, too_long_line, refusal_line}
use Rattle.lower_edge.specs.declared.status.EdgeStatus.{EdgeStatus}
use Rattle.lower_io.specs.Causes.{Rose}
use Rattle.lower_io.specs.Held.{Extends, ExtendsInPart}

-- more bytes than this are not read
abbrev pub most_bytes : ℕ
most_bytes = 67108864

-- ---- what is said, by the arguments, of a source that may tell its bytes

-- What is said with a status that is this one of the edge, or with one that answers as `Gives` says: by the options that the
-- arguments give, of a source that told these bytes, whose faults were and are this many.
abbrev pub IsSaid : Option EdgeStatus → (Options → List ℕ → Type 0) → Option Options → Option (List ℕ) → ℕ → ℕ → List ℕ → Type 0
IsSaid (Some EdgeStatus.BadArguments) Gives None left before now text = text ≡ bad_arguments_line
IsSaid edge Gives None left before now text = ⊥
IsSaid (Some EdgeStatus.BadArguments) Gives (Some o) left before now text = ⊥
IsSaid (Some EdgeStatus.WriteFault) Gives (Some o) left before now text = ⊥
IsSaid (Some EdgeStatus.NoMemory) Gives (Some o) left before now text = ⊥
IsSaid (Some EdgeStatus.ReadFault) Gives (Some o) left before now text = Rose before now × (text ≡ read_fault_line)
IsSaid (Some EdgeStatus.TooLong) Gives (Some o) left before now text = IfSome left (λ b. most_bytes < length b) × (text ≡ too_long_line)
IsSaid None Gives (Some o) left before now text = IfSome left (λ b. (length b ≤ most_bytes) × Gives o b)

-- nothing is left in a source that tells its bytes, where it was answered
abbrev pub IsReadToEnd : Option EdgeStatus → Option (List ℕ) → Option (List ℕ) → Type 0
IsReadToEnd None left rest = OnSome left (rest ≡ Some [])
IsReadToEnd (Some edge) left rest = Unit

-- ---- the causes of the statuses

-- what was said was written whole: the sink, where it tells what it holds, holds what it held and then this text
pub record IsWritten (IsOutput : List ℕ → Type 0) (held after : Option (List ℕ)) : Type 0 where
  pub text : List ℕ
  pub output : IsOutput text
  pub gained : Extends held after text

-- what was said with some status was written in part
pub record IsPartlyWritten {T : Type 0} (IsOutput : T → List ℕ → Type 0) (held after : Option (List ℕ)) : Type 0 where
  pub status : T
  pub text : List ℕ
  pub output : IsOutput status text
  pub part : ExtendsInPart held after text

-- why a run ends with a status, by which of the edge it is, where this is said with each: what the sink held and holds, and its
-- faults before and after
abbrev pub IsCause : {T : Type 0} → Option EdgeStatus → (T → List ℕ → Type 0) → Option (List ℕ) → Option (List ℕ) → ℕ → ℕ → T → Type 0
IsCause (Some EdgeStatus.NoMemory) IsOutput held after first last status = Extends held after []
IsCause (Some EdgeStatus.WriteFault) IsOutput held after first last status = Rose first last × IsPartlyWritten IsOutput held after
IsCause edge IsOutput held after first last status = IsWritten (IsOutput status) held after

-- ---- of a program, whose statuses are those of the edge that `edge` tells, and else answer as `Gives` says

-- what is said with a status
abbrev pub Says : {T : Type 0} → (T → Option EdgeStatus) → (Options → List ℕ → T → List ℕ → Type 0) → Option Options → Option (List ℕ) → ℕ → ℕ → T → List ℕ → Type 0
Says edge Gives o left before now status text = IsSaid (edge status) (λ options b. Gives options b status text) o left before now text

-- why its run ends with a status: options, the bytes that the source told and its faults before and after, what the sink held
-- and holds and its faults before and after
abbrev pub Cause : {T : Type 0} → (T → Option EdgeStatus) → (Options → List ℕ → T → List ℕ → Type 0) → Option Options → Option (List ℕ) → ℕ → ℕ → Option (List ℕ) → Option (List ℕ) → ℕ → ℕ → T → Type 0
Cause edge Gives o left before now held after first last status = IsCause (edge status) (Says edge Gives o left before now) held after first last status

-- ---- refusals

-- the line of an error that is no allocation failure
abbrev pub IsRefusalText : LowerError → List ℕ → Type 0
IsRefusalText LowerError.NoMemory text = ⊥
IsRefusalText e text = text ≡ refusal_line e

-- the line of an error for which there is this reason
pub record IsRefusal (IsReason : LowerError → Type 0) (text : List ℕ) : Type 0 where
  pub error : LowerError
  pub refused : IsReason error
  pub written : IsRefusalText error text
