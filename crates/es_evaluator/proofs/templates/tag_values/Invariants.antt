use Rattle.std.proofs.Common.{◌≡◌, ◌≤◌, length, map, drop}
use Rattle.es_steps.specs.Evaluation.{tag_values}
use Rattle.es_codes.specs.CodeView.{string_of}
use Rattle.es_evaluator.proofs.templates.tag_values.Given as goal

-- the strings from i on stand in front
abbrev pub invariant-loop-i : goal.invariant-loop-i
invariant-loop-i l = (l.i ≤ length l.strings) × (l.all ≡ tag_values (map string_of (drop l.i l.strings)) l.fn.values)

abbrev pub decreases-loop-i : goal.decreases-loop-i
decreases-loop-i l = l.i
