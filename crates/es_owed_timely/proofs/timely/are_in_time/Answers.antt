use Rattle.std.proofs.Common.{◌≡◌, ap, ◌∙◌, ◌++◌, List, [], None}
use Rattle.es_base.specs.Preorder.{preorder}
use Rattle.es_base.specs.Tree.{Tree}
use Rattle.es_binding_faults.proofs.Appending.{IfOk-map}
use Rattle.es_binding_faults.specs.Seen.{seen}
use Rattle.es_lowered.specs.Timely.{Around, Mark, declared_methods, in_time, nowhere, super_functions}
use Rattle.es_marks.specs.Around.{around_here}
use Rattle.es_marks.specs.Marks.{marks_of}
use Rattle.es_owed_timely.specs.Functions.{called_marks}
use Rattle.es_owed_timely.specs.InTime.{are_in_time}
use Rattle.es_owed_timely.specs.Search.{marks}
use Rattle.es_seen_names.specs.PrivateMembers.{private_members_of}
use Rattle.es_owed_timely.proofs.timely.are_in_time.Goals as goal

pub returns : goal.returns
returns c =
    let s = c.args.search.now in
    let ledger = s.ledger.now in
    let members = private_members_of s.members.now in
    let lowered = c.args.lowered.now in
    let program = lowered.program.now in
    let ts = preorder program in
    let of = λ (x : Around). marks s x None program in
    let called = λ (ns : List Tree) (ms : List Mark). called_marks ledger members (declared_methods ledger ns) (super_functions ledger ns) ms ms in
    let found : marks_of c.add_marks.new.marks.items ≡ of nowhere =
    c.in_ok-add_marks.ensures
    ∙ ap (λ ms. marks_of ms ++ of (around_here c.nowhere.result)) c.new-marks.ensures.items
    ∙ ap (λ x. of x) c.nowhere.ensures in
    let same : marks_of c.as_slice-3.result.now ≡ called ts (of nowhere) =
    ap marks_of c.as_slice-3.ensures.value
    ∙ c.in_ok-called.ensures
    ∙ ap (λ ns. called (seen ns) (marks_of c.as_slice-2.result.now)) c.as_slice.ensures.value
    ∙ ap (λ ns. called ns (marks_of c.as_slice-2.result.now)) lowered.in_preorder
    ∙ ap (λ ms. called ts (marks_of ms)) c.as_slice-2.ensures.value
    ∙ ap (λ ms. called ts ms) found in
    IfOk-map c.in_time.result
    (λ b. b ≡ in_time ledger [] (marks_of c.as_slice-3.result.now))
    (λ b. b ≡ are_in_time s program)
    (λ b is. is ∙ ap (λ ms. in_time ledger [] ms) same)
    c.in_time.ensures
