-- The numbers by which generated names are looked up.
use Rattle.std.proofs.Common.{Bor}
use Rattle.std.specs.Prelude.{ℕ, List, map, Option, Some, None}
use Rattle.es_base.specs.Numbered.{unnumbered}
use Rattle.es_base.specs.declared.ledger.GeneratedKind.{GeneratedKind}
use Rattle.es_base.specs.declared.ledger.LedgerEntry.{LedgerEntry}
use Rattle.es_binding_faults.specs.Leasts.{Numbers, number_of}
use Rattle.es_steps.specs.Values.{String}

abbrev pub or_unnumbered : Option ℕ → ℕ
or_unnumbered None = unnumbered
or_unnumbered (Some n) = n

abbrev pub spelling_number : Numbers → String → ℕ
spelling_number ns s = or_unnumbered (number_of s ns)

-- the number of the class of a private name, and this one of another
abbrev pub class_or : ℕ → GeneratedKind → ℕ
class_or n (GeneratedKind.Private k) = k.0
class_or n g = n

abbrev pub name_number : Numbers → LedgerEntry → ℕ
name_number ns e = class_or (spelling_number ns e.name) e.kind

abbrev pub numbered_names : Numbers → List LedgerEntry → List (ℕ × LedgerEntry)
numbered_names ns es = map (λ e. (name_number ns e, e)) es

abbrev pub entry_of : Bor LedgerEntry → LedgerEntry
entry_of e = e.now

abbrev pub entries_of : List (Bor LedgerEntry) → List LedgerEntry
entries_of es = map entry_of es
