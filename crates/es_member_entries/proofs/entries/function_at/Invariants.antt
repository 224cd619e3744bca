use Rattle.std.proofs.Common.{◌≡◌, drop}
use Rattle.es_by_number.specs.Numbered.{pairs}
use Rattle.es_steps.specs.Meaning.{function_at}
use Rattle.es_validity.specs.Reached.{kind_in}
use Rattle.es_member_entries.proofs.entries.function_at.Given as goal

abbrev pub invariant-loop-function : goal.invariant-loop-function
invariant-loop-function l = function_at l.member.class l.member.is_static (kind_in l.member.kind) l.member.node (pairs (drop l.function-index l.functions)) ≡ function_at l.member.class l.member.is_static (kind_in l.member.kind) l.member.node (pairs l.functions)
