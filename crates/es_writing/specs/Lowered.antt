-- The value of a lowered program: that of its tree with three members more, the generated names, the warnings, and
-- the shapes of the program (our own).
use Rattle.std.specs.Prelude.{◌≡◌, ◌^◌, ◌<◌, ℕ, Bool, true, false, List, [], ◌∷◌, map, codes, IsPermutation}
use Rattle.std.specs.List.Sorted.{IsSorted, IsStable}
use Rattle.std.specs.Ordering.{nat_cmp, ordering_then}
use Rattle.std.specs.declared.cmp.Ordering.{Ordering}
use Rattle.std.specs.Cmp.Lexicographic.{slice_cmp}
use Rattle.std.specs.Str.{encode_utf8_all}
use Rattle.serde_json.specs.Data.{Data, string as json_string, array, object}
use Rattle.serde_json.specs.View.{view}
pub use Rattle.serde_json.specs.View.{items_of}
use Rattle.serde_json.specs.Written.{compact_text}
use Rattle.serde_json.specs.declared.value.Value.{Value}
use Rattle.es_base.specs.Tree.{Tree}
use Rattle.es_base.specs.Carried.{span_of}
use Rattle.es_base.specs.Shape.{shape_number}
use Rattle.es_base.specs.declared.diagnostic.Diagnostic.{Diagnostic}
use Rattle.es_base.specs.declared.ledger.GeneratedKind.{GeneratedKind}
use Rattle.es_base.specs.declared.ledger.LedgerEntry.{LedgerEntry}
use Rattle.es_base.specs.declared.shape.Shape.{Shape}
use Rattle.es_writing.specs.Kept.{IsString, SpanFits}
use Rattle.es_writing.specs.Writing.{Entry, entry, put_all, object_of, string_of, number_of, span_entries, write}

-- ---- the generated names

abbrev pub kind_word : GeneratedKind → List ℕ
kind_word GeneratedKind.Temp = codes "temp"
kind_word GeneratedKind.Param = codes "param"
kind_word (GeneratedKind.ClassTemp n) = codes "class"
kind_word (GeneratedKind.WeakMap n) = codes "weakmap"
kind_word (GeneratedKind.StaticField n) = codes "static"
kind_word (GeneratedKind.Brand n) = codes "brand"
kind_word (GeneratedKind.Method n) = codes "method"
kind_word (GeneratedKind.LooseKey n) = codes "loose"
kind_word (GeneratedKind.SuperFn n) = codes "super"
kind_word GeneratedKind.Args = codes "args"
kind_word GeneratedKind.Closure = codes "closure"
kind_word (GeneratedKind.Private n) = codes "private"

-- the class or the private name that a name stands for
abbrev pub number_entries : GeneratedKind → List Entry
number_entries (GeneratedKind.ClassTemp n) = entry (codes "class") (number_of n.0) []
number_entries (GeneratedKind.WeakMap n) = entry (codes "member") (number_of n.0) []
number_entries (GeneratedKind.StaticField n) = entry (codes "member") (number_of n.0) []
number_entries (GeneratedKind.Brand n) = entry (codes "class") (number_of n.0) []
number_entries (GeneratedKind.Method n) = entry (codes "member") (number_of n.0) []
number_entries (GeneratedKind.LooseKey n) = entry (codes "member") (number_of n.0) []
number_entries (GeneratedKind.SuperFn n) = entry (codes "class") (number_of n.0) []
number_entries (GeneratedKind.Private n) = entry (codes "class") (number_of n.0) []
number_entries kind = []

-- its number, and 0 where it has none
abbrev pub number_in : GeneratedKind → ℕ
number_in (GeneratedKind.ClassTemp n) = n.0
number_in (GeneratedKind.WeakMap n) = n.0
number_in (GeneratedKind.StaticField n) = n.0
number_in (GeneratedKind.Brand n) = n.0
number_in (GeneratedKind.Method n) = n.0
number_in (GeneratedKind.LooseKey n) = n.0
number_in (GeneratedKind.SuperFn n) = n.0
number_in (GeneratedKind.Private n) = n.0
number_in kind = 0

abbrev pub is_private : GeneratedKind → Bool
is_private (GeneratedKind.Private n) = true
is_private kind = false

-- a private name is written with `#`
abbrev pub signed : GeneratedKind → List ℕ → List ℕ
signed (GeneratedKind.Private n) name = 35 ∷ name
signed kind name = name

abbrev pub written_name : LedgerEntry → List ℕ
written_name e = signed e.kind e.name

abbrev pub entry_value : LedgerEntry → Data
entry_value e = object_of (entry (codes "name") (string_of (written_name e)) (entry (codes "kind") (json_string (kind_word e.kind)) (number_entries e.kind)))

-- by the bytes of the written name, then by the number
abbrev pub entry_cmp : LedgerEntry → LedgerEntry → Ordering
entry_cmp e f = ordering_then (slice_cmp nat_cmp (encode_utf8_all (written_name e)) (encode_utf8_all (written_name f))) (nat_cmp (number_in e.kind) (number_in f.kind))

-- names and numbers that JSON can hold, as those of code are
abbrev pub NamesAreStrings : List LedgerEntry → Type 0
NamesAreStrings [] = Unit
NamesAreStrings (e ∷ es) = IsString (written_name e) × NamesAreStrings es

abbrev pub NumbersFit : List LedgerEntry → Type 0
NumbersFit [] = Unit
NumbersFit (e ∷ es) = (number_in e.kind < 2 ^ 32) × NumbersFit es

abbrev pub NamesFit : List LedgerEntry → Type 0
NamesFit es = NamesAreStrings es × NumbersFit es

-- ---- warnings

abbrev pub message : List ℕ
message = codes "Top-level await is not available in the configured target environment."

abbrev pub warning_value : Diagnostic → Data
warning_value d = object_of (entry (codes "message") (json_string message) (entry (codes "node") (number_of d.node.0) (span_entries (span_of d.span))))

abbrev pub warning_cmp : Diagnostic → Diagnostic → Ordering
warning_cmp d e = nat_cmp d.node.0 e.node.0

abbrev pub WarningsFit : List Diagnostic → Type 0
WarningsFit [] = Unit
WarningsFit (d ∷ ds) = (d.node.0 < 2 ^ 32) × SpanFits (span_of d.span) × WarningsFit ds

-- ---- the value

-- the same items in order, equal ones in the order that they had
pub record IsArranged {X : Type 0} (cmp : X → X → Ordering) (before after : List X) : Type 0 where
  pub same : IsPermutation before after
  pub sorted : IsSorted cmp after
  pub stable : IsStable cmp before after

abbrev pub with_entries : Data → List Entry → Data
with_entries (object ms) es = object (put_all ms es)
with_entries d es = d

-- the value is the array of the items in order, and JSON can hold them
pub record WritesInOrder {X : Type 0} (cmp : X → X → Ordering) (value_of : X → Data) (Fit : List X → Type 0) (before : List X) (v : Value) : Type 0 where
  pub after : List X
  pub in_order : IsArranged cmp before after
  pub fit : Fit after
  pub written : view v ≡ array (items_of (map value_of after))

-- of a tree, the names and warnings in their order, and the shapes
abbrev pub write_lowered : Tree → List LedgerEntry → List Diagnostic → List Shape → Data
write_lowered t names warnings shapes =
    with_entries (write t) (
    entry (codes "generated") (array (items_of (map entry_value names)))
    (entry (codes "warnings") (array (items_of (map warning_value warnings)))
    (entry (codes "outside") (array (items_of (map (λ s. number_of (shape_number s)) shapes))) []))
    )

-- the value of the tree with these names and warnings, in their order, which JSON can hold
pub record Writes (v : Value) (t : Tree) (ledger : List LedgerEntry) (warnings : List Diagnostic) (shapes : List Shape) : Type 0 where
  pub names : List LedgerEntry
  pub ordered : List Diagnostic
  pub names_in_order : IsArranged entry_cmp ledger names
  pub warnings_in_order : IsArranged warning_cmp warnings ordered
  pub names_fit : NamesFit names
  pub warnings_fit : WarningsFit ordered
  pub written : view v ≡ write_lowered t names ordered shapes

-- the text is that of such a value
pub record WritesText (text : List ℕ) (t : Tree) (ledger : List LedgerEntry) (warnings : List Diagnostic) (shapes : List Shape) : Type 0 where
  pub names : List LedgerEntry
  pub ordered : List Diagnostic
  pub names_in_order : IsArranged entry_cmp ledger names
  pub warnings_in_order : IsArranged warning_cmp warnings ordered
  pub names_fit : NamesFit names
  pub warnings_fit : WarningsFit ordered
  pub written : text ≡ compact_text (write_lowered t names ordered shapes)
