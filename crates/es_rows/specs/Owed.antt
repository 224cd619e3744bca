-- What is said of a worked row, and of a witness: a source p, and what it was lowered to.
use Rattle.std.specs.Prelude.{◌≡◌, ℕ, List, true, false}
use Rattle.es_base.specs.Preorder.{nodes}
use Rattle.es_base.specs.Tree.{Tree}
use Rattle.es_base.specs.declared.ledger.LedgerEntry.{LedgerEntry}
use Rattle.es_lowered.specs.Lowered.{IsLowered}
use Rattle.es_steps.specs.Meaning.{source_means, lowered_means, has_meaning}
use Rattle.es_steps.specs.SameMeanings.{same_meanings}
use Rattle.es_steps.specs.Shapes.{shape_numbers, source_means_after}
use Rattle.es_steps.specs.declared.options.Options.{Options}

-- the output of a row means what its source means, which is there, and owes nothing; the source has these shapes
abbrev pub Kept : Options → List LedgerEntry → Tree → Tree → List ℕ → Type 0
Kept o ledger p q outside = (lowered_means o ledger p q ≡ source_means o p) × (has_meaning (source_means o p) ≡ true) × IsLowered (nodes p) o ledger p q × (shape_numbers o p ≡ outside)

-- the same where the parameters of a constructor come before its fields
abbrev pub KeptAfter : Options → List LedgerEntry → Tree → Tree → List ℕ → Type 0
KeptAfter o ledger p q outside = (lowered_means o ledger p q ≡ source_means_after o p) × (has_meaning (source_means_after o p) ≡ true) × IsLowered (nodes p) o ledger p q × (shape_numbers o p ≡ outside)

-- of a source with a shape that puts it outside the equality of meanings
abbrev pub Owed : Options → List LedgerEntry → Tree → Tree → List ℕ → Type 0
Owed o ledger p q outside = IsLowered (nodes p) o ledger p q × (shape_numbers o p ≡ outside)

-- two programs that share their numbers have meanings that differ
abbrev pub TellsApart : Options → Tree → Tree → Type 0
TellsApart o p q = (same_meanings (source_means o p) (source_means o q) ≡ false) × (has_meaning (source_means o p) ≡ true) × (has_meaning (source_means o q) ≡ true)

-- a wrong output has another meaning, or none
abbrev pub Refused : Options → List LedgerEntry → Tree → Tree → Type 0
Refused o ledger p q = same_meanings (source_means o p) (lowered_means o ledger p q) ≡ false

-- a wrong output has a meaning, which is another one
abbrev pub MeansOther : Options → List LedgerEntry → Tree → Tree → Type 0
MeansOther o ledger p q = Refused o ledger p q × (has_meaning (lowered_means o ledger p q) ≡ true)

-- a wrong output has a meaning, which is not that of its source where the parameters of a constructor come before its fields
abbrev pub RefusedAfter : Options → List LedgerEntry → Tree → Tree → Type 0
RefusedAfter o ledger p q = (same_meanings (source_means_after o p) (lowered_means o ledger p q) ≡ false) × (has_meaning (lowered_means o ledger p q) ≡ true)

-- an output means what its source means, which is there
abbrev pub Means : Options → List LedgerEntry → Tree → Tree → Type 0
Means o ledger p q = (lowered_means o ledger p q ≡ source_means o p) × (has_meaning (source_means o p) ≡ true)

-- two programs have these shapes
abbrev pub HaveShapes : Options → Tree → List ℕ → Tree → List ℕ → Type 0
HaveShapes o p ms q ns = (shape_numbers o p ≡ ms) × (shape_numbers o q ≡ ns)
