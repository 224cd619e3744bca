use Rattle.std.proofs.Common.{ℕ, List, [], sym, subst, Option}
use Rattle.std.specs.Prelude.{map}
use Rattle.es_code_rules.specs.Elsewhere.{definition_of}
use Rattle.es_codes.specs.CodeView.{code_of}
use Rattle.es_meanings.specs.Finding.{Finds}
use Rattle.es_meanings.specs.Means.{AreEntries}
use Rattle.es_steps.specs.Entries.{Entry, entries}
use Rattle.es_steps.specs.Meaning.{by_number, whole}
use Rattle.es_steps.specs.Opening.{opening}
use Rattle.step_check.proofs.Assembled.{passed_on}
use Rattle.step_check.proofs.parts.entries_by_number.Goals as goal

pub returns-in-Ok : goal.returns-in-Ok
returns-in-Ok c = λ first_new.
    let f = c.in-Ok.ensures first_new in
    subst (λ (p : Option (List (ℕ × Entry))). Finds c.sorted.result p (λ xs es. AreEntries xs.items (by_number es))) (sym f.has) (c.sorted.ensures f.value f.is)

pub returns-in-Err : goal.returns-in-Err
returns-in-Err c = λ first_new.
    let all = whole (entries (opening (map definition_of c.args.definitions.now)) first_new [] [] (code_of c.args.code.now)) in
    passed_on c.in-Err.fault all all (λ xs es. AreEntries xs.items es) (λ xs es. AreEntries xs.items (by_number es)) (λ none. none) (c.in-Err.ensures first_new)
