-- A meaning, put together from its parts.
use Rattle.std.proofs.Common.{◌≡◌, refl, ap, ◌∙◌, ℕ, List, [], Option, Some, None}
use Rattle.std.specs.declared.result.Result.TheVariants.{Err}
use Rattle.es_base.specs.Tree.{Tree}
use Rattle.es_evaluator.specs.declared.fault.Fault.{Fault}
use Rattle.es_meanings.specs.Finding.{Finds}
use Rattle.es_program_meaning.specs.Runs.{listed_run}
use Rattle.es_steps.specs.Code.{Code, Opened}
use Rattle.es_steps.specs.Entries.{Entry, listed, entries}
use Rattle.es_steps.specs.Evaluation.{Evaluation, Run, ev}
use Rattle.es_steps.specs.Meaning.{MemberEntry, Terms, means_by, member_entries, private_functions, whole, with_all}
use Rattle.es_steps.specs.Modules.{Exported}
use Rattle.es_steps.specs.Values.{String}
use Rattle.step_check.specs.Evaluated.{Evaluated, exported_behind, found_in, with_parts}

module _ (o : Terms) (t : Tree) (d : List (ℕ × ℕ)) where
  absent : (run : Option Run) (es : Option (List (ℕ × Entry))) (ms : Option (List (ℕ × MemberEntry))) (xs : Option (List (String × Exported)))
      → with_parts run es xs ≡ None → with_all o t d (listed run) es ms xs ≡ None
  absent None es ms xs h = refl
  absent (Some r) None ms xs h = refl
  absent (Some r) (Some es) None None h = refl
  absent (Some r) (Some es) (Some ms) None h = refl
  absent (Some r) (Some es) ms (Some xs) h = cc

  all_there : (run : Option Run) (es : Option (List (ℕ × Entry))) (ms : Option (List (ℕ × MemberEntry))) (xs : Option (List (String × Exported))) (e : Evaluated)
      → with_parts run es xs ≡ Some e → with_all o t d (listed run) es ms xs ≡ with_all o t d (Some (listed_run e.run)) (Some e.entries) ms (Some e.exports)
  all_there None es ms xs e h = cc
  all_there (Some r) None ms xs e h = cc
  all_there (Some r) (Some es) ms None e h = cc
  all_there (Some r) (Some es) ms (Some xs) e h =
      let same : record { run = r; entries = es; exports = xs } ≡ e = cc in
      ap (λ (x : Evaluated). with_all o t d (Some (listed_run x.run)) (Some x.entries) ms (Some x.exports)) same

module _ (opens : Opened → Evaluation) (o : Terms) (t : Tree) (c : Code) where
  pub no_run : ev opens c [] ≡ None → found_in opens o t c ≡ None
  no_run h = ap (λ (run : Option Run). with_parts run (whole (entries opens o.first_new o.late [] c)) (exported_behind o t run)) h

  found_with : (r : Run) → ev opens c [] ≡ Some r → found_in opens o t c ≡ with_parts (Some r) (whole (entries opens o.first_new o.late [] c)) (exported_behind o t (Some r))
  found_with r h = ap (λ (run : Option Run). with_parts run (whole (entries opens o.first_new o.late [] c)) (exported_behind o t run)) h

  pub no_entries : (r : Run) → ev opens c [] ≡ Some r → whole (entries opens o.first_new o.late [] c) ≡ None → found_in opens o t c ≡ None
  no_entries r h k = found_with r h ∙ ap (λ (es : Option (List (ℕ × Entry))). with_parts (Some r) es (exported_behind o t (Some r))) k

  found_among : (r : Run) (es : List (ℕ × Entry)) → ev opens c [] ≡ Some r → whole (entries opens o.first_new o.late [] c) ≡ Some es → found_in opens o t c ≡ with_parts (Some r) (Some es) (exported_behind o t (Some r))
  found_among r es h k = found_with r h ∙ ap (λ (x : Option (List (ℕ × Entry))). with_parts (Some r) x (exported_behind o t (Some r))) k

  pub no_exports : (r : Run) (es : List (ℕ × Entry)) → ev opens c [] ≡ Some r → whole (entries opens o.first_new o.late [] c) ≡ Some es → exported_behind o t (Some r) ≡ None → found_in opens o t c ≡ None
  no_exports r es h k e = found_among r es h k ∙ ap (λ (xs : Option (List (String × Exported))). with_parts (Some r) (Some es) xs) e

  pub all_parts : (r : Run) (es : List (ℕ × Entry)) (xs : List (String × Exported)) → ev opens c [] ≡ Some r → whole (entries opens o.first_new o.late [] c) ≡ Some es → exported_behind o t (Some r) ≡ Some xs
      → found_in opens o t c ≡ Some (record { run = r; entries = es; exports = xs })
  all_parts r es xs h k e = found_among r es h k ∙ ap (λ (ys : Option (List (String × Exported))). with_parts (Some r) (Some es) ys) e

  pub none_evaluated : found_in opens o t c ≡ None → means_by opens o t c ≡ None
  none_evaluated h = absent o t (private_functions c) (ev opens c []) (whole (entries opens o.first_new o.late [] c)) (member_entries (private_functions c) o.members) (exported_behind o t (ev opens c [])) h

  pub with_found : (e : Evaluated) → found_in opens o t c ≡ Some e
      → means_by opens o t c ≡ with_all o t (private_functions c) (Some (listed_run e.run)) (Some e.entries) (member_entries (private_functions c) o.members) (Some e.exports)
  with_found e h = all_there o t (private_functions c) (ev opens c []) (whole (entries opens o.first_new o.late [] c)) (member_entries (private_functions c) o.members) (exported_behind o t (ev opens c [])) e h

-- what could not be found is passed on
pub passed_on : {A B C D : Type 0} (e : Fault) (o : Option A) (p : Option C) (Is : B → A → Type 0) (Are : D → C → Type 0) → (o ≡ None → p ≡ None) → Finds (Err e) o Is → Finds (Err e) p Are
passed_on Fault.NoMeaning o p Is Are none h = none h
passed_on Fault.TooDeep o p Is Are none h = tt
passed_on Fault.NoMemory o p Is Are none h = tt
