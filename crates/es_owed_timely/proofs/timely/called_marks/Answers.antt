use Rattle.std.proofs.Common.{◌≡◌, refl, ap, ◌∙◌, [], ◌∷◌, ◌++◌}
use Rattle.std.proofs.lemmas.List.{map-append}
use Rattle.es_binding_faults.proofs.Appending.{appended, appended_all}
use Rattle.es_binding_faults.specs.Seen.{seen}
use Rattle.es_lowered.specs.Timely.{declared_methods, with_class, with_super}
use Rattle.es_marks.specs.Marks.{mark_of, marks_of}
use Rattle.es_marks.specs.MethodFunctions.{method_functions}
use Rattle.es_owed_timely.specs.Functions.{called_marks, super_functions_of}
use Rattle.es_seen_names.specs.PrivateMembers.{private_members_of}
use Rattle.es_owed_timely.proofs.timely.called_marks.Goals as goal

pub loop-mark-preserved : goal.loop-mark-preserved
loop-mark-preserved c =
    let ledger = c.args.search.now.ledger.now in
    let members = private_members_of c.args.search.now.members.now in
    let functions = c.in_ok-functions.functions in
    let methods = method_functions functions.functions.now in
    let supers = super_functions_of c.in_ok-supers.supers.functions.items in
    let all = marks_of c.args.marks.now in
    let old = marks_of c.loop-mark.called.items in
    let mark = mark_of c.mark-item.result in
    let held : mark_of c.in_ok-held.held ≡ with_class methods all mark =
    c.in_ok-held.ensures
    ∙ ap (λ ms. with_class methods (marks_of ms) mark) (c.in_ok-functions.ensures.marks ∙ c.in_ok-needing.ensures) in
    let here : mark_of c.with_super.result ≡ with_super ledger members supers (with_class methods all mark) =
    c.with_super.ensures ∙ ap (λ m. with_super ledger members supers m) held in
    appended (λ i ms. called_marks ledger members methods supers all (marks_of ms)) (λ i m. with_super ledger members supers (with_class methods all (mark_of m)) ∷ []) (λ i m ms. refl)
    old (marks_of c.push.new.self.items) _ c.args.marks.now c.loop-mark.mark-index c.mark-item.result c.loop-mark-test.true c.mark-item.is
    (ap marks_of c.in_ok-push.ensures.items ∙ map-append mark_of c.loop-mark.called.items (c.with_super.result ∷ []) ∙ ap (λ m. old ++ m ∷ []) here) c.loop-mark.invariant

pub returns : goal.returns
returns c =
    let ledger = c.args.search.now.ledger.now in
    let members = private_members_of c.args.search.now.members.now in
    let methods = method_functions c.in_ok-functions.functions.functions.now in
    let supers = super_functions_of c.in_ok-supers.supers.functions.items in
    let all = marks_of c.args.marks.now in
    appended_all (λ i ms. called_marks ledger members methods supers all (marks_of ms)) (marks_of c.loop-mark.called.items) _ c.args.marks.now c.loop-mark.mark-index (λ k. refl) c.loop-mark-test.false c.loop-mark.invariant
    ∙ ap (λ fs. called_marks ledger members (method_functions fs) supers all all) (c.in_ok-functions.ensures.functions ∙ c.as_slice.ensures.value)
    ∙ ap (λ fs. called_marks ledger members fs supers all all) c.in_ok-methods.ensures
    ∙ ap (λ fs. called_marks ledger members (declared_methods ledger (seen c.args.nodes.now)) fs all all) c.in_ok-supers.ensures
