use Rattle.std.proofs.Common.{◌≡◌, ◌++◌}
use Rattle.borrowed_json.proofs.members.of_map.Given as goal

abbrev pub invariant-loop-member : goal.invariant-loop-member
invariant-loop-member l = l.members.items ++ l.member-iterator ≡ l.fn.map.entries
