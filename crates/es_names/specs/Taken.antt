-- The spellings that no generated name may have.
use Rattle.std.specs.Prelude.{◌≡◌, ◌≤◌, ◌<◌, ℕ, List, [], ◌∷◌, ◌++◌, true, false, if◌then◌else◌, Option, Some, None, bytes_eq, map, fold}
use Rattle.std.specs.Str.{chars}
use Rattle.std.specs.String.{string_bytes}
use Rattle.std.specs.declared.string.String.{String}
use Rattle.es_base.specs.Conforms.{is_among}
use Rattle.es_names.specs.Candidates.{candidate}

-- strings, by their characters
abbrev pub Strings : Type 0
Strings = List (List ℕ)

abbrev pub strings_of : {A : Type 0} → List (String A) → Strings
strings_of keys = map (λ k. chars (string_bytes k)) keys

-- with one more, unless it is there
abbrev pub with_string : Strings → List ℕ → Strings
with_string taken s = if is_among s taken then taken else taken ++ s ∷ []

-- with all of these, each once, in their order
abbrev pub with_strings : Strings → Strings → Strings
with_strings taken all = fold with_string taken all

-- numbers of bases, by their characters
abbrev pub Numbers : Type 0
Numbers = List (List ℕ × ℕ)

abbrev pub numbers_of : {A : Type 0} → List (String A × ℕ) → Numbers
numbers_of entries = map (λ e. (chars (string_bytes e.0), e.1)) entries

abbrev pub number_of : List ℕ → Numbers → Option ℕ
number_of base [] = None
number_of base (e ∷ es) = if bytes_eq base e.0 then Some e.1 else number_of base es

-- all candidates of the base before the n-th are taken
abbrev pub AreTakenBefore : Strings → List ℕ → ℕ → Type 0
AreTakenBefore taken base n = (j : ℕ) → 1 ≤ j → j < n → is_among (candidate base j) taken ≡ true

-- for each base, the number of a candidate before which all are taken
abbrev pub AreNext : Strings → Numbers → Type 0
AreNext taken numbers = (base : List ℕ) (n : ℕ) → number_of base numbers ≡ Some n → (1 ≤ n) × AreTakenBefore taken base n

-- the candidate of this number is the first that is not taken
pub record IsFirstFree (taken : Strings) (base : List ℕ) (n : ℕ) : Type 0 where
  pub positive : 1 ≤ n
  pub before : AreTakenBefore taken base n
  pub free : is_among (candidate base n) taken ≡ false
