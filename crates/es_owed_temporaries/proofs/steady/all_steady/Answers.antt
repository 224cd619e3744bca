use Rattle.std.proofs.Common.{◌≡◌, ◌∙◌, ap}
use Rattle.es_binding_faults.proofs.Appending.{IfOk-map}
use Rattle.es_by_number.specs.Numbered.{pairs}
use Rattle.es_lowered.specs.Temporaries.{all_steady}
use Rattle.es_seen_names.specs.PrivateMembers.{private_members_of}
use Rattle.es_owed_temporaries.specs.Touches.{touches_all}
use Rattle.es_owed_temporaries.proofs.steady.all_steady.Goals as goal

pub returns : goal.returns
returns c =
    let places = pairs c.args.places.now in
    let members = private_members_of c.args.members.now in
    let ledger = c.args.ledger.now in
    let touches = touches_all c.args.touches.now in
    let here_places = pairs c.in_ok-class_places.class_places.places.now in
    let here_members = private_members_of c.in_ok-numbered.numbered.members.now in
    let here_touches = touches_all c.in_ok-named.named.touches.now in
    IfOk-map c.all_entries_steady.result
    (λ b. b ≡ all_steady here_places here_members ledger here_touches)
    (λ b. b ≡ all_steady places members ledger touches)
    (λ b is.
    is
    ∙ ap (λ ps. all_steady (pairs ps) here_members ledger here_touches) c.in_ok-class_places.ensures
    ∙ ap (λ ms. all_steady places (private_members_of ms) ledger here_touches) c.in_ok-numbered.ensures
    ∙ ap (λ ts. all_steady places members ledger (touches_all ts)) c.in_ok-named.ensures)
    c.all_entries_steady.ensures
