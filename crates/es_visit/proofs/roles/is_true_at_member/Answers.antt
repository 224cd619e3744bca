use Rattle.std.proofs.Common.{rules, sym, ◌∙◌}
use Rattle.std.proofs.lemmas.Slice.Zip.{zip_end}
use Rattle.es_node.proofs.Rows.{boolean_at-done}
use Rattle.es_visit.proofs.roles.is_true_at_member.Goals as goal

pub returns : goal.returns
returns c =
    let ended = zip_end c.args.members.now c.args.parts.now c.loop-member.yielded _ _ c.next.new.self _ (search rules) (search rules) c.loop-member.yielded_by c.in-None.is c.next.ensures.steps in
    sym (boolean_at-done c.args.name.now c.args.members.now c.args.parts.now _ ended) ∙ c.loop-member.invariant.2
