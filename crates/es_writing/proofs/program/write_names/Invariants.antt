use Rattle.std.proofs.Common.{◌≡◌, ◌++◌, drop, map}
use Rattle.es_writing.specs.Lowered.{entry_value}
use Rattle.es_writing.proofs.Tokens.{values_tokens}
use Rattle.es_writing.proofs.program.write_names.Given as goal

abbrev pub invariant-loop-entry : goal.invariant-loop-entry
invariant-loop-entry l = record {
  tokens : l.out.tokens ++ values_tokens (map (λ e. entry_value e.now) (drop l.entry-index l.names)) ≡ l.initial.out.tokens ++ values_tokens (map (λ e. entry_value e.now) l.names);
  before : l.out.before ≡ l.initial.out.before;
}
