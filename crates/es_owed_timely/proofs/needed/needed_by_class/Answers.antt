use Rattle.std.proofs.Common.{◌≡◌, ◌∙◌, ap, ℕ}
use Rattle.es_binding_faults.proofs.Appending.{IfOk-map}
use Rattle.es_by_number.specs.Numbered.{pairs}
use Rattle.es_grouped.specs.Groups.{group, having}
use Rattle.es_lowered.specs.Timely.{needed_names}
use Rattle.es_seen_names.specs.PrivateMembers.{private_members_of}
use Rattle.es_generated.proofs.NumberedNames.{having_seen}
use Rattle.es_owed_timely.specs.Needed.{name_of, names_of, with_classes}
use Rattle.es_owed_timely.proofs.NeededNames.{needed_by_number}
use Rattle.es_owed_timely.proofs.needed.needed_by_class.Goals as goal

pub returns : goal.returns
returns c =
    let items = c.in_ok-items.items.items in
    let members = private_members_of c.args.members.now in
    let ledger = c.args.ledger.now in
    IfOk-map c.of-2.result
    (λ g. (n : ℕ) → group n g ≡ having n (pairs items))
    (λ g. (n : ℕ) → names_of (group n g) ≡ needed_names n members ledger)
    (λ g h n.
    ap names_of (h n)
    ∙ having_seen name_of n items
    ∙ ap (having n) c.in_ok-items.ensures
    ∙ ap (λ ms. having n (with_classes (private_members_of ms) ledger)) c.in_ok-numbered.ensures
    ∙ needed_by_number n members ledger)
    c.of-2.ensures
