-- What bytes are: JSON text of a value, or none (JSON, RFC 8259).
use Rattle.std.specs.Prelude.{◌≡◌, List, ℕ, Some, None, IsUtf8}
use Rattle.serde_json.specs.Data.{Data}
use Rattle.serde_json.specs.Read.{read as read_text}

-- the bytes are JSON text of a value of which this holds
pub record IsTextOfValue (IsOutput : Data → Type 0) (b : List ℕ) : Type 0 where
  pub d : Data
  pub utf8 : IsUtf8 b
  pub value : read_text b ≡ Some d
  pub output : IsOutput d

-- the bytes are no JSON text
abbrev pub HasNoValue : List ℕ → Type 0
HasNoValue b = IsUtf8 b → read_text b ≡ None
