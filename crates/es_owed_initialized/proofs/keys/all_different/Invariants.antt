use Rattle.std.proofs.Common.{◌≡◌, drop}
use Rattle.es_lowered.specs.Definitions.{all_different}
use Rattle.es_owed_initialized.specs.Keys.{are_new, keys_of}
use Rattle.es_owed_initialized.proofs.keys.all_different.Given as goal

abbrev pub invariant-loop-key : goal.invariant-loop-key
invariant-loop-key l = are_new l.met (keys_of (drop l.key-index l.keys)) ≡ all_different (keys_of l.keys)
