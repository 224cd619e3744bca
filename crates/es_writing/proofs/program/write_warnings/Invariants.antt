use Rattle.std.proofs.Common.{◌≡◌, ◌++◌, drop, map}
use Rattle.es_writing.specs.Lowered.{warning_value}
use Rattle.es_writing.proofs.Tokens.{values_tokens}
use Rattle.es_writing.proofs.program.write_warnings.Given as goal

abbrev pub invariant-loop-warning : goal.invariant-loop-warning
invariant-loop-warning l = record {
  tokens : l.out.tokens ++ values_tokens (map (warning_value) (drop l.warning-index l.warnings)) ≡ l.initial.out.tokens ++ values_tokens (map (warning_value) l.warnings);
  before : l.out.before ≡ l.initial.out.before;
}
