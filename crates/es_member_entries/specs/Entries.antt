-- Private members in code, as definitions see them.
use Rattle.std.specs.Prelude.{ℕ, List}
use Rattle.es_by_number.specs.Numbered.{numbered}
use Rattle.es_by_number.specs.declared.numbered.Numbered.{Numbered}
use Rattle.es_steps.specs.Meaning as spec
use Rattle.es_validity.specs.Reached.{kind_in}
use Rattle.es_member_entries.specs.declared.entry.MemberEntry.{MemberEntry}

abbrev pub entry_in : MemberEntry → spec.MemberEntry
entry_in (MemberEntry.Field n b) = spec.IsField n b
entry_in (MemberEntry.Function n b kind f) = spec.FunctionIs n b (kind_in kind) f

abbrev pub entries_in : List (Numbered MemberEntry) → List (ℕ × spec.MemberEntry)
entries_in es = numbered entry_in es
