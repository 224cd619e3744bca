use Rattle.std.proofs.Common.{[], ◌≡◌, refl, Bool, true, false, ◌||◌}
use Rattle.visit_tests.proofs.suspends.suspends.Goals as goal

same-or : (b : Bool) → b ≡ (b || false)
same-or true = refl
same-or false = refl

pub returns : goal.returns
returns c = c.walk_node.ensures [] c.walk_node.new.visitor (same-or c.walk_node.new.visitor.found)
