use Rattle.std.proofs.Common.{rules, sym, [], append-nil}
use Rattle.visit_tests.proofs.classes.classes.Goals as goal

pub returns-else-has_failed : goal.returns-else-has_failed
returns-else-has_failed c =
    let h = c.walk_node.ensures [] c.walk_node.new.visitor (λ ok. (ok, sym (append-nil c.walk_node.new.visitor.numbers.items))) c.if-has_failed.false in
    search (rules, h.1)
