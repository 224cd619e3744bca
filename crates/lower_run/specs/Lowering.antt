-- What is said of a lowering: what it makes of valid programs, and why it makes nothing of some.
use Rattle.std.specs.Prelude.{◌≡◌, List, ℕ, ◌⊎◌, [], true, false}
use Rattle.es_base.specs.Preorder.{nodes}
use Rattle.es_base.specs.Tree.{Tree}
use Rattle.es_base.specs.declared.ledger.LedgerEntry.{LedgerEntry}
use Rattle.es_base.specs.declared.shape.Shape.{Shape}
use Rattle.es_lowered.specs.Lowered.{IsLowered, IsUnchanged}
use Rattle.es_steps.specs.LoweredClasses.{nothing_left}
use Rattle.es_steps.specs.Meaning.{has_meaning, lowered_means, source_means}
use Rattle.es_steps.specs.Shapes.{shapes}
use Rattle.es_steps.specs.declared.options.Options.{Options}
use Rattle.es_lowering.specs.declared.lowering.Unlowered.{Unlowered}

-- under options, of a program and the numbers of its nodes that have members outside the table: a program with these generated
-- names
abbrev pub Making : Type 1
Making = Options → Tree → List ℕ → List LedgerEntry → Tree → Type 0

-- under options, of such a program: nothing, for this reason
abbrev pub Declining : Type 1
Declining = Options → Tree → List ℕ → Unlowered → Type 0

-- why a valid program is not lowered, but for allocation failure
abbrev pub IsDeclined : (Unlowered → Type 0) → Unlowered → Type 0
IsDeclined Declines Unlowered.NoMemory = Unit {0}
IsDeclined Declines error = Declines error

-- what is owed of a program q, with these generated names, that p was lowered to: nothing that the options lower is left, every
-- generated name has its declaration, a program with nothing to lower is unchanged; and where p is plain, q means what p means,
-- which is there where p has something to lower
pub record IsOwed (IsPlain : Type 0) (o : Options) (p : Tree) (names : List LedgerEntry) (q : Tree) : Type 0 where
  pub owed : IsLowered (nodes p) o names p q
  pub unchanged : IsUnchanged o names p q
  pub same : IsPlain → lowered_means o names p q ≡ source_means o p
  pub meant : IsPlain → nothing_left o p ≡ false → has_meaning (source_means o p) ≡ true

-- a program that keeps its meaning whoever lowers it: it has nothing to lower, or no shape
abbrev pub IsPlain : Options → Tree → Type 0
IsPlain o p = (nothing_left o p ≡ true) ⊎ (shapes o p ≡ [])
