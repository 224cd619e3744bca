use Rattle.std.proofs.Common.{sym, ap, ◌∙◌}
use Rattle.std.specs.Vec.Iter.{into_iter_items}
use Rattle.borrowed_json.specs.Members.{put_all}
use Rattle.borrowed_json.specs.View.{members_view}
use Rattle.borrowed_json.proofs.InOrder.{put_next}
use Rattle.borrowed_json.proofs.members.to_map.Goals as goal

pub loop-key-preserved : goal.loop-key-preserved
loop-key-preserved c =
    let rest = into_iter_items c.next.new.self in
    let old = c.loop-key.map.entries in
    ap (λ es. put_all rest (members_view es)) c.in_ok-insert.ensures.entries
    ∙ put_next old c.in-Some.key c.in-Some.value rest
    ∙ ap (λ ms. put_all ms (members_view old)) (sym c.in-Some.ensures.steps.0)
    ∙ c.loop-key.invariant
