use Rattle.std.proofs.Common.{ap, refl, [], ◌∙◌, ◌∷◌, ◌++◌}
use Rattle.es_binding_faults.proofs.Appending.{appended, appended_all}
use Rattle.es_lowered.specs.Timely.{needs, uses_of}
use Rattle.es_marks.specs.Around.{around_here}
use Rattle.es_marks.specs.Marks.{marks_of}
use Rattle.es_owed_timely.specs.Needed.{name_of, names_of}
use Rattle.es_owed_timely.specs.Search.{called_around, one}
use Rattle.es_owed_timely.proofs.search.add_needed.Goals as goal

pub loop-entry-preserved : goal.loop-entry-preserved
loop-entry-preserved c =
    let x = around_here c.args.around.now in
    let old = marks_of c.loop-entry.marks.items in
    let entry = c.entry-item.result in
    appended (λ i es. uses_of x (names_of es)) (λ i e. one (called_around x) needs (name_of e) [] ∷ []) (λ i e es. refl)
    old (marks_of c.add_needed_name.new.marks.items) _ c.needed_by-entries.result.now c.loop-entry.entry-index entry c.loop-entry-test.true c.entry-item.is
    (c.in_ok-add_needed_name.ensures ∙ ap (λ y. old ++ one y needs (name_of entry) [] ∷ []) c.called_around-called.ensures) c.loop-entry.invariant

pub returns : goal.returns
returns c =
    let x = around_here c.args.around.now in
    appended_all (λ i es. uses_of x (names_of es)) (marks_of c.loop-entry.marks.items) _ c.needed_by-entries.result.now c.loop-entry.entry-index (λ k. refl) c.loop-entry-test.false c.loop-entry.invariant
    ∙ ap (λ ss. marks_of c.args.marks.now.items ++ uses_of x ss) c.needed_by-entries.ensures
