use Rattle.std.proofs.Common.{◌≡◌, ap, ◌∙◌, ℕ, List, [], None}
use Rattle.es_base.specs.Preorder.{preorder}
use Rattle.es_binding_faults.proofs.Appending.{IfOk-map}
use Rattle.es_binding_faults.specs.Seen.{seen}
use Rattle.es_lowered.specs.Timely.{Mark, declared_methods, in_time, is_named, leading_lets, marks, names_timely, needed_names, nowhere, super_functions}
use Rattle.es_owed_timely.specs.Functions.{called_marks}
use Rattle.es_seen_names.specs.PrivateMembers.{private_members_of}
use Rattle.es_owed_timely.proofs.timely.names_timely.Goals as goal

pub invariant_of-search : goal.invariant_of-search
invariant_of-search c = record {
  needed_are = λ n. c.in_ok-needed.ensures n ∙ ap (λ es. needed_names n (private_members_of c.args.members.now) es) c.entries-entries.ensures;
}

pub returns : goal.returns
returns c =
    let first = c.args.first in
    let ledger = c.args.ledger.now in
    let members = private_members_of c.args.members.now in
    let lowered = c.args.lowered.now in
    let program = lowered.program.now in
    let ts = preorder program in
    let of = λ (leading : List ℕ). marks first ledger members (is_named ledger) leading nowhere None program in
    let called = λ (ms : List Mark). called_marks ledger members (declared_methods ledger ts) (super_functions ledger ts) ms ms in
    let lets : c.as_slice-2.result.now ≡ leading_lets ts = c.as_slice-2.ensures.value ∙ c.in_ok-leading.ensures ∙ ap (λ ns. leading_lets (seen ns)) c.as_slice.ensures.value ∙ ap leading_lets lowered.in_preorder in
    IfOk-map c.are_in_time.result
    (λ b. b ≡ in_time ledger [] (called (of c.as_slice-2.result.now)))
    (λ b. b ≡ names_timely first ledger members program)
    (λ b is. is ∙ ap (λ leading. in_time ledger [] (called (of leading))) lets)
    c.are_in_time.ensures
