-- How deep a callee stands in callees.
use Rattle.std.proofs.Common.{ℕ, ◌+◌}
use Rattle.es_steps.specs.Code as of

abbrev pub callee_depth : of.Callee → ℕ
callee_depth (of.checked g) = callee_depth g + 2
callee_depth (of.on_chain m g) = callee_depth g + 2
callee_depth (of.behind_test o again g) = callee_depth g + 2
callee_depth f = 0
