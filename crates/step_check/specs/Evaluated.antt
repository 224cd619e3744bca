-- What an evaluation finds of a program, and what stands in it.
use Rattle.std.specs.Prelude.{◌≡◌, ℕ, List, [], Option, Some, None}
use Rattle.es_entries.specs.Lists.{IsListed}
use Rattle.es_exports.specs.Exports.{exports_of}
use Rattle.es_meanings.specs.Means.{AreEntries}
use Rattle.es_member_entries.specs.Entries.{entries_in}
use Rattle.es_program_meaning.specs.Runs.{listed_run}
use Rattle.es_program_meaning.specs.Tables.{AreTables}
use Rattle.es_steps.specs.Code.{Code, Opened}
use Rattle.es_steps.specs.Entries.{Entry, after_run, entries}
use Rattle.es_steps.specs.Evaluation.{Evaluation, Run, ev}
use Rattle.es_steps.specs.Meaning.{MemberEntry, Terms, all_exports, body_of, by_number, in_body, start, whole}
use Rattle.es_steps.specs.Modules.{Exported, exports_in}
use Rattle.es_steps.specs.Values.{String}
use Rattle.es_base.specs.Tree.{Tree}
use Rattle.step_check.specs.declared.evaluated.Evaluated as code
use Rattle.step_check.specs.declared.standing.Standing as standing

-- what the program does itself, its entries and exports
pub record Evaluated : Type 0 where
  pub run : Run
  pub entries : List (ℕ × Entry)
  pub exports : List (String × Exported)

abbrev pub with_parts : Option Run → Option (List (ℕ × Entry)) → Option (List (String × Exported)) → Option Evaluated
with_parts (Some r) (Some es) (Some xs) = Some (record { run = r; entries = es; exports = xs })
with_parts r es xs = None

abbrev pub exported_behind : Terms → Tree → Option Run → Option (List (String × Exported))
exported_behind o t run = all_exports (exports_in (in_body (start o t) t) (after_run [] run) (body_of t))

abbrev pub found_in : (Opened → Evaluation) → Terms → Tree → Code → Option Evaluated
found_in opens o t c = with_parts (ev opens c []) (whole (entries opens o.first_new o.late [] c)) (exported_behind o t (ev opens c []))

pub record IsEvaluated (x : code.Evaluated) (e : Evaluated) : Type 0 where
  pub program : IsListed x.program (listed_run e.run)
  pub entries : AreEntries x.entries.items (by_number e.entries)
  pub exports : all_exports (exports_of x.exports.items) ≡ Some e.exports

-- what stands in it: the private members, and what no evaluation finds, where d are the functions of private members
pub record IsStanding (o : Terms) (t : Tree) (d : List (ℕ × ℕ)) (x : standing.Standing) (ms : List (ℕ × MemberEntry)) : Type 0 where
  pub members : entries_in x.members.items ≡ by_number ms
  pub tables : AreTables x.tables o t d
