-- A meaning in code, and which meaning of the definitions it is.
use Rattle.std.specs.Prelude.{◌≡◌, ℕ, List, [], ◌∷◌, Some}
use Rattle.std.specs.Str.{chars}
use Rattle.es_by_number.specs.Numbered.{pairs}
use Rattle.es_by_number.specs.declared.numbered.Numbered.{Numbered}
use Rattle.es_declarations.specs.Globals.{names_in}
use Rattle.es_declarations.specs.Kinds.{bindings_in}
use Rattle.es_entries.specs.Entered.{IsEntry}
use Rattle.es_entries.specs.Lists.{IsListed}
use Rattle.es_entries.specs.declared.entry.Entry.{Entry}
use Rattle.es_exports.specs.Exports.{exports_of}
use Rattle.es_meanings.specs.declared.meaning.Meaning.{Meaning}
use Rattle.es_member_entries.specs.Entries.{entries_in}
use Rattle.es_modules.specs.Links.{links_of}
use Rattle.es_steps.specs.Entries as entered
use Rattle.es_steps.specs.Meaning as spec
use Rattle.es_steps.specs.Meaning.{all_exports}

-- entries with the same numbers, one by one
abbrev pub AreEntries : List (Numbered Entry) → List (ℕ × entered.Entry) → Type 0
AreEntries [] [] = Unit {0}
AreEntries (x ∷ xs) (e ∷ es) = ((x.number ≡ e.0) × IsEntry x.value e.1) × AreEntries xs es
AreEntries xs es = ⊥

pub record IsMeaning (m : Meaning) (n : spec.Meaning) : Type 0 where
  pub source_type : chars m.source_type.now ≡ n.source_type
  pub program : IsListed m.program n.program
  pub entries : AreEntries m.entries.items n.entries
  pub members : entries_in m.members.items ≡ n.members
  pub functions : pairs m.functions.items ≡ n.functions
  pub bindings : bindings_in m.bindings.items ≡ n.bindings
  pub globals : names_in m.globals.items ≡ n.globals
  pub shared : pairs m.shared.items ≡ n.shared
  pub places : pairs m.places.items ≡ n.places
  pub branches : pairs m.branches.items ≡ n.branches
  pub links : links_of m.links.items ≡ n.links
  pub exports : all_exports (exports_of m.exports.items) ≡ Some n.exports
