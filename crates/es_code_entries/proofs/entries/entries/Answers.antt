use Rattle.std.proofs.Common.{◌≡◌, sym, ap, subst, ◌∙◌, ℕ, List, [], map, Bool, true, false, Option, Result, Ok, Err, Vec, Global}
use Rattle.std.specs.Prelude.{IsErr, IsErrAnd}
use Rattle.es_by_number.specs.declared.numbered.Numbered.{Numbered}
use Rattle.es_code_environments.proofs.Copies.{no_names}
use Rattle.es_code_environments.specs.FlatEntries.{FlatEntry}
use Rattle.es_code_environments.specs.Standing.{opens_in}
use Rattle.es_code_environments.specs.declared.terms.Terms.{Terms}
use Rattle.es_code_rules.specs.Elsewhere.{definition_of}
use Rattle.es_code_rules.specs.declared.definition.Definition.{Definition}
use Rattle.es_codes.specs.CodeView.{code_of}
use Rattle.es_entries.specs.declared.entry.Entry.{Entry}
use Rattle.es_evaluator.specs.Running.{names_of}
use Rattle.es_evaluator.specs.declared.fault.Fault.{Fault}
use Rattle.es_meanings.specs.Finding.{Finds}
use Rattle.es_steps.specs.Code.{Code}
use Rattle.es_steps.specs.Entries as spec
use Rattle.es_steps.specs.Evaluation.{Environment}
use Rattle.es_steps.specs.Opening.{opening}
use Rattle.es_code_entries.proofs.Listed.{all_found, none_found}
use Rattle.es_code_entries.proofs.entries.entries.Goals as goal
use Rattle.es_code_entries.specs.Found.{Reaches, seen}
use Rattle.es_code_entries.specs.Walked.{entries}

begun : {C : Type 0} (r : Result C Fault) (t : Terms) (ds : List Definition) (late : List ℕ) (s : Environment) (xs : List (Numbered Entry)) (gs : List (ℕ × FlatEntry)) (c : Code) → t.among.definitions ≡ ds → t.late.now ≡ late → s ≡ [] → xs ≡ [] → Reaches {B = C} r (seen xs) gs (entries t s c) → Reaches {B = C} r [] gs (spec.entries (opening (map definition_of ds)) 0 late [] c)
begun {C} r t ds late s xs gs c defined first here none h =
    let one : Reaches {B = C} r (seen xs) gs (spec.entries (opens_in t) 0 t.late.now [] c) = subst (λ (z : Environment). Reaches {B = C} r (seen xs) gs (spec.entries (opens_in t) 0 t.late.now z c)) here h in
    let two : Reaches {B = C} r [] gs (spec.entries (opens_in t) 0 t.late.now [] c) = subst (λ (z : List (Numbered Entry)). Reaches {B = C} r (seen z) gs (spec.entries (opens_in t) 0 t.late.now [] c)) none one in
    let three : Reaches {B = C} r [] gs (spec.entries (opens_in t) 0 late [] c) = subst (λ (z : List ℕ). Reaches {B = C} r [] gs (spec.entries (opens_in t) 0 z [] c)) first two in
    subst (λ (z : List Definition). Reaches {B = C} r [] gs (spec.entries (opening (map definition_of z)) 0 late [] c)) defined three

found_error : {A B : Type 0} (r : Result B Fault) (e : Fault) (o : Option A) (Is : B → A → Type 0) → Finds {A = A} {B = B} (Err e) o Is → IsErr r × IsErrAnd r (λ f. f ≡ e) → Finds r o Is
found_error (Ok x) e o Is h is =
    let no : false ≡ true = is.0 in
    absurd (cc)
found_error {A} {B} (Err f) e o Is h is = subst (λ (z : Fault). Finds {A = A} {B = B} (Err z) o Is) (sym is.1) h

pub returns-in_err-add_entries : goal.returns-in_err-add_entries
returns-in_err-add_entries c = λ first_new.
    found_error c.from_residual-in_err-add_entries.result _ _ _
    (none_found (opening (map definition_of c.args.definitions.now)) first_new c.args.late.now [] (code_of c.args.code.now) (λ (xs : Vec (Numbered Entry) Global). xs.items) c.in_err-add_entries.field-0.0 (seen c.add_entries.new.found.items)
    (begun _ c.in_ok-new.field-0 c.args.definitions.now c.args.late.now c.new-here.result c.new-found.result.items _ (code_of c.args.code.now) c.in_ok-new.ensures.definitions c.in_ok-new.ensures.late (c.new-here.ensures ∙ ap names_of c.new-2.ensures.items ∙ no_names) c.new-found.ensures.items c.in_err-add_entries.ensures.found))
    c.from_residual-in_err-add_entries.ensures

pub returns : goal.returns
returns c = λ first_new.
    all_found (opening (map definition_of c.args.definitions.now)) first_new c.args.late.now [] (code_of c.args.code.now) (λ (xs : Vec (Numbered Entry) Global). xs.items) c.add_entries.new.found c.in_ok-add_entries.field-0
    (begun _ c.in_ok-new.field-0 c.args.definitions.now c.args.late.now c.new-here.result c.new-found.result.items _ (code_of c.args.code.now) c.in_ok-new.ensures.definitions c.in_ok-new.ensures.late (c.new-here.ensures ∙ ap names_of c.new-2.ensures.items ∙ no_names) c.new-found.ensures.items c.in_ok-add_entries.ensures.found)
