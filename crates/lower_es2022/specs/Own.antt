-- What the product lowers.
use Rattle.std.specs.Prelude.{◌≡◌, ◌≤◌, ◌*◌, ◌||◌, ◌⊎◌, List, ℕ, Bool, true, false, Option, Some, is_none}
use Rattle.es_base.specs.Preorder.{nodes}
use Rattle.es_base.specs.Tree.{Tree}
use Rattle.es_base.specs.declared.ledger.LedgerEntry.{LedgerEntry}
use Rattle.es_lowering.specs.Any.{DeclinesByNode}
use Rattle.es_lowering.specs.declared.lowering.Unlowered.{Unlowered}
use Rattle.es_steps.specs.LoweredClasses.{nothing_left}
use Rattle.es_steps.specs.declared.options.Options.{Options}
use Rattle.lower_io.specs.Causes.{Rose}
use Rattle.lower_run.specs.FirstForm as first_form
use Rattle.lower_run.specs.FirstForm.{not_yet_lowered}
use Rattle.lower_run.specs.Lowering.{IsOwed, IsPlain}
use Rattle.lower_run.specs.Outcome.{IsOfValidProgram}
use Rattle.lower_run.specs.declared.status.Status.{Status}
use Rattle.lower_with.specs.Judged.{IsUnmade}

-- the programs of which it is proved what they are lowered to: those with nothing to lower, and those of the first form where
-- fields are defined
abbrev pub is_proved : Options → Tree → List ℕ → Bool
is_proved o p foreign = nothing_left o p || is_none (not_yet_lowered o p foreign)

-- what the lowering of classes makes of a program, before that is judged: one of at most 64 times its nodes
abbrev pub MakesFew : Options → Tree → List LedgerEntry → Tree → Type 0
MakesFew o p names q = nodes q ≤ 64 * nodes p

-- what is made of a program: it owes nothing, means what its source means where that has nothing to lower or no shape, and has at
-- most 64 times its nodes; one of these has no generated name, and means what its source means
pub record IsMade (o : Options) (p : Tree) (foreign : List ℕ) (names : List LedgerEntry) (q : Tree) : Type 0 where
  pub owed : IsOwed (IsPlain o p) o p names q
  pub few : nodes q ≤ 64 * nodes p
  pub proved : is_proved o p foreign ≡ true → first_form.IsMade o p foreign names q

-- why a program is not lowered: it is none of these, and the lowering of classes declines it, or makes of it what is not judged to
-- be right
abbrev pub IsNotYet : Options → Tree → List ℕ → Unlowered → Type 0
IsNotYet o p foreign error = (is_proved o p foreign ≡ false) × IsUnmade MakesFew DeclinesByNode o p foreign error

-- ---- completeness

-- the bytes are JSON text of a valid program that is one of these
pub record IsLowerable (o : Options) (b : List ℕ) : Type 0 where
  pub program : IsOfValidProgram o b
  pub proved : is_proved o program.p program.foreign ≡ true

-- of such bytes, with arguments of the grammar, and where neither the source nor the sink failed, nothing is answered but that
-- the tree was written, or that memory ran out
abbrev pub IsComplete : Option Options → Option (List ℕ) → ℕ → ℕ → ℕ → ℕ → Status → Type 0
IsComplete o left before now first last status = (options : Options) (b : List ℕ) → o ≡ Some options → left ≡ Some b → IsLowerable options b → ¬ Rose before now → ¬ Rose first last → (status ≡ Status.Done) ⊎ (status ≡ Status.NoMemory)
