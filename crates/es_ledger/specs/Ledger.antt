-- The generated names that a lowered program lists (docs/JSON.md): for each its `name`, its `kind`, and `class` or `member`
-- where the kind carries a number.
use Rattle.std.specs.Prelude.{ℕ, List, [], ◌∷◌, Option, Some, None, option_map, option_and_then, if◌then◌else◌, bytes_eq, nat_eq, codes}
use Rattle.std.specs.Str.{chars}
use Rattle.serde_json.specs.Data.{Data, Items, no_items, item}
use Rattle.es_base.specs.declared.ids.NodeId.{NodeId}
use Rattle.es_base.specs.declared.ledger.GeneratedKind.{GeneratedKind}
use Rattle.es_base.specs.declared.ledger.LedgerEntry.{LedgerEntry}
use Rattle.es_reading.specs.Look.{string_at, u32_at, array_at}

-- a kind that carries a number, where that is there
abbrev pub of_number : (NodeId → GeneratedKind) → Option ℕ → Option GeneratedKind
of_number kind = option_map (λ n. kind (record { 0 = n }))

-- the kind that this word says, with the numbers at `class` and `member`
abbrev pub kind_by : List ℕ → Option ℕ → Option ℕ → Option GeneratedKind
kind_by word class member =
    if bytes_eq word (codes "temp") then Some GeneratedKind.Temp else (
    if bytes_eq word (codes "param") then Some GeneratedKind.Param else (
    if bytes_eq word (codes "class") then of_number GeneratedKind.ClassTemp class else (
    if bytes_eq word (codes "weakmap") then of_number GeneratedKind.WeakMap member else (
    if bytes_eq word (codes "static") then of_number GeneratedKind.StaticField member else (
    if bytes_eq word (codes "brand") then of_number GeneratedKind.Brand class else (
    if bytes_eq word (codes "method") then of_number GeneratedKind.Method member else (
    if bytes_eq word (codes "loose") then of_number GeneratedKind.LooseKey member else (
    if bytes_eq word (codes "super") then of_number GeneratedKind.SuperFn class else (
    if bytes_eq word (codes "args") then Some GeneratedKind.Args else (
    if bytes_eq word (codes "closure") then Some GeneratedKind.Closure else (
    if bytes_eq word (codes "private") then of_number GeneratedKind.Private class else None)))))))))))

-- what stands behind the `#` of a private name
abbrev pub behind_sign : List ℕ → Option (List ℕ)
behind_sign [] = None
behind_sign (b ∷ bs) = if nat_eq b 35 then Some bs else None

-- the name of this kind that is written so: that of a private name stands behind `#`
abbrev pub name_by : GeneratedKind → List ℕ → Option (List ℕ)
name_by (GeneratedKind.Private n) written = behind_sign written
name_by kind written = Some written

abbrev pub entry_by : GeneratedKind → List ℕ → Option LedgerEntry
entry_by kind written = option_map (λ name. record { name = chars name; kind = kind }) (name_by kind written)

abbrev pub kind_in : Data → Option GeneratedKind
kind_in d = option_and_then (λ word. kind_by word (u32_at (codes "class") d) (u32_at (codes "member") d)) (string_at (codes "kind") d)

abbrev pub entry_in : Data → Option LedgerEntry
entry_in d = option_and_then (λ kind. option_and_then (entry_by kind) (string_at (codes "name") d)) (kind_in d)

-- in front of the others
abbrev pub before : LedgerEntry → Option (List LedgerEntry) → Option (List LedgerEntry)
before e = option_map (λ es. e ∷ es)

abbrev pub entries_in : Items → Option (List LedgerEntry)
entries_in no_items = Some []
entries_in (item d ds) = option_and_then (λ e. before e (entries_in ds)) (entry_in d)

-- those of a lowered program
abbrev pub ledger_in : Data → Option (List LedgerEntry)
ledger_in d = option_and_then entries_in (array_at (codes "generated") d)
