-- Where two meanings differ first.
use Rattle.std.specs.Prelude.{◌≡◌, ℕ, List, [], ◌∷◌, ◌++◌, cond, nat_le, Option, Some, None}
use Rattle.es_meanings.specs.declared.difference.Difference.{Difference}
use Rattle.es_steps.specs.Meaning.{Meaning}

abbrev pub least : ℕ → ℕ → ℕ
least n k = cond (nat_le n k) n k

-- n is the lesser number at the start of two lists that differ there
abbrev pub DifferAt : {A : Type 0} → ℕ → List (ℕ × A) → List (ℕ × A) → Type 0
DifferAt n [] [] = ⊥
DifferAt n (p ∷ ps) [] = n ≡ p.0
DifferAt n [] (q ∷ qs) = n ≡ q.0
DifferAt n (p ∷ ps) (q ∷ qs) = (p ≡ q → ⊥) × (n ≡ least p.0 q.0)

-- behind what two lists begin with they differ at n
pub record DifferFirst {A : Type 0} (n : ℕ) (xs ys : List (ℕ × A)) : Type 0 where
  pub front : List (ℕ × A)
  pub left : List (ℕ × A)
  pub right : List (ℕ × A)
  pub left_is : xs ≡ front ++ left
  pub right_is : ys ≡ front ++ right
  pub differ : DifferAt n left right

-- lists are one, or differ first at this number
abbrev pub Compared : {A : Type 0} → Option ℕ → List (ℕ × A) → List (ℕ × A) → Type 0
Compared None xs ys = xs ≡ ys
Compared (Some n) xs ys = DifferFirst n xs ys

-- what is declared
pub record AreNamedAlike (a b : Meaning) : Type 0 where
  pub functions : a.functions ≡ b.functions
  pub bindings : a.bindings ≡ b.bindings
  pub globals : a.globals ≡ b.globals

-- where it stands
pub record ArePlacedAlike (a b : Meaning) : Type 0 where
  pub shared : a.shared ≡ b.shared
  pub places : a.places ≡ b.places
  pub branches : a.branches ≡ b.branches

abbrev pub AreDeclaredAlike : Meaning → Meaning → Type 0
AreDeclaredAlike a b = AreNamedAlike a b × ArePlacedAlike a b

-- the type of the source, imports and exports
pub record AreModulesAlike (a b : Meaning) : Type 0 where
  pub source_type : a.source_type ≡ b.source_type
  pub links : a.links ≡ b.links
  pub exports : a.exports ≡ b.exports

-- ---- the parts in order: each where those in front of it are alike

abbrev pub AreAlikeToEntries : Meaning → Meaning → Type 0
AreAlikeToEntries a b = (a.program ≡ b.program) × (a.entries ≡ b.entries)

abbrev pub AreAlikeToMembers : Meaning → Meaning → Type 0
AreAlikeToMembers a b = AreAlikeToEntries a b × (a.members ≡ b.members)

abbrev pub IsFirst : Difference → Meaning → Meaning → Type 0
IsFirst Difference.Program a b = a.program ≡ b.program → ⊥
IsFirst (Difference.Entry n) a b = (a.program ≡ b.program) × DifferFirst n a.entries b.entries
IsFirst Difference.Private a b = AreAlikeToEntries a b × (a.members ≡ b.members → ⊥)
IsFirst Difference.Declaration a b = AreAlikeToMembers a b × (AreDeclaredAlike a b → ⊥)
IsFirst Difference.Export a b = AreAlikeToMembers a b × (AreDeclaredAlike a b × (AreModulesAlike a b → ⊥))

-- two meanings are one, or differ first there
abbrev pub AreCompared : Option Difference → Meaning → Meaning → Type 0
AreCompared None a b = a ≡ b
AreCompared (Some d) a b = IsFirst d a b
