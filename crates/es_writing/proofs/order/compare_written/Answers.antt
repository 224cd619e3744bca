use Rattle.std.proofs.Common.{rules, ◌≡◌, sym, ap, ◌∙◌}
use Rattle.std.specs.Ordering.{ordering_reverse}
use Rattle.es_writing.proofs.Comparing.{first_signed, second_signed, signs_alike}
use Rattle.es_writing.proofs.order.compare_written.Goals as goal
use Rattle.es_writing.proofs.order.compare_written.Goals.{in_default-via-then-is_private+then-is_private-2, in_default-via-else-is_private+else-this}

pub returns-in-true-false : goal.returns-in-true-false
returns-in-true-false c =
    c.compare_signed.ensures
    ∙ first_signed c.args.first.now c.args.second.now _ _ c.as_str-name.utf8 c.as_str-other.utf8 c.as_str-name.ensures c.as_str-other.ensures (sym c.in-true-false.ensures) (sym c.in-true-false.ensures')

pub returns-in-false-true : goal.returns-in-false-true
returns-in-false-true c =
    c.reverse.ensures
    ∙ ap ordering_reverse c.compare_signed-in-false-true.ensures
    ∙ second_signed c.args.first.now c.args.second.now _ _ c.as_str-name.utf8 c.as_str-other.utf8 c.as_str-name.ensures c.as_str-other.ensures (sym c.in-false-true.ensures) (sym c.in-false-true.ensures')

pub returns-in_default : goal.returns-in_default
returns-in_default c =
    let same : c.is_private.result ≡ c.is_private-2.result = elim c.in_default.branch [
      | in_default-via-then-is_private+then-is_private-2 w ↦ search rules
      | in_default-via-else-is_private+else-this w ↦ search rules
    ] in
    c.cmp.ensures
    ∙ signs_alike c.args.first.now c.args.second.now _ _ c.as_str-name.utf8 c.as_str-other.utf8 c.as_str-name.ensures c.as_str-other.ensures (sym c.is_private.ensures ∙ same ∙ c.is_private-2.ensures)
