use Rattle.std.proofs.Common.{◌≡◌}
use Rattle.es_options.specs.Assumptions.{are_assumptions}
use Rattle.serde_json.specs.View.{members_view}
use Rattle.es_options.proofs.assumptions.are_assumptions.Given as goal

abbrev pub invariant-loop-key : goal.invariant-loop-key
invariant-loop-key l = are_assumptions (members_view l.key-iterator) ≡ are_assumptions (members_view l.members.entries)
