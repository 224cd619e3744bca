-- What is said of two meanings.
use Rattle.std.specs.Prelude.{◌≡◌, ℕ, Option, Some, None, ◌⊎◌}
use Rattle.es_meanings.specs.Differences.{IsFirst}
use Rattle.es_meanings.specs.Means.{IsMeaning}
use Rattle.es_meanings.specs.declared.difference.Difference.{Difference}
use Rattle.es_meanings.specs.Parts.{IsPart, entry_at}
use Rattle.es_meanings.specs.declared.meaning.Meaning as code
use Rattle.es_meanings.specs.declared.part.EntryPart.{EntryPart}
use Rattle.es_steps.specs.Meaning.{Meaning}
use Rattle.step_check.specs.declared.verdict.Part.{Part}
use Rattle.step_check.specs.declared.verdict.Verdict.{Verdict}

-- the meaning in code is this one, where there is one
abbrev pub MayMean : Option code.Meaning → Option Meaning → Type 0
MayMean (Some m) (Some n) = IsMeaning m n
MayMean None None = Unit {0}
MayMean x y = ⊥

-- both are there, and are one
pub record AreOne (a b : Option Meaning) : Type 0 where
  pub meaning : Meaning
  pub left : a ≡ Some meaning
  pub right : b ≡ Some meaning

-- both are there, and this is where they differ first
pub record Differ (d : Difference) (a b : Option Meaning) : Type 0 where
  pub one : Meaning
  pub other : Meaning
  pub left : a ≡ Some one
  pub right : b ≡ Some other
  pub first : IsFirst d one other

-- both are there, and differ first in this part of the entry of this number
pub record DifferAt (part : EntryPart) (node : ℕ) (a b : Option Meaning) : Type 0 where
  pub one : Meaning
  pub other : Meaning
  pub left : a ≡ Some one
  pub right : b ≡ Some other
  pub first : IsFirst (Difference.Entry node) one other
  pub is_part : IsPart part (entry_at node one.entries) (entry_at node other.entries)

-- what fails at this node between the meaning of a source and that of a lowered program
abbrev pub DifferIn : Part → ℕ → Option Meaning → Option Meaning → Type 0
DifferIn Part.NoMeaning node a b = ((a ≡ None) ⊎ (b ≡ None)) × (node ≡ 0)
DifferIn Part.Program node a b = Differ Difference.Program a b × (node ≡ 0)
DifferIn Part.Function node a b = DifferAt EntryPart.Function node a b
DifferIn Part.Class node a b = DifferAt EntryPart.Class node a b
DifferIn Part.Construction node a b = DifferAt EntryPart.Construction node a b
DifferIn Part.Private node a b = Differ Difference.Private a b × (node ≡ 0)
DifferIn Part.Declaration node a b = Differ Difference.Declaration a b × (node ≡ 0)
DifferIn Part.Export node a b = Differ Difference.Export a b × (node ≡ 0)
DifferIn part node a b = ⊥

abbrev pub IsComparison : Option Meaning → Option Meaning → Verdict → Type 0
IsComparison a b Verdict.Yes = AreOne a b
IsComparison a b (Verdict.No part node) = DifferIn part node.0 a b
