use Rattle.std.proofs.Common.{sym, ◌∙◌}
use Rattle.es_lowered.specs.Definitions.{all_different}
use Rattle.es_owed_initialized.specs.Keys.{keys_of}
use Rattle.es_owed_initialized.proofs.KeyNames.{any_key, new_more}
use Rattle.es_owed_initialized.proofs.keys.all_different.Goals as goal

pub loop-key-preserved : goal.loop-key-preserved
loop-key-preserved c =
    let keys = c.args.keys.now in
    new_more c.loop-key.met c.insert.new.self keys c.loop-key.key-index any_key (all_different (keys_of keys)) c.loop-key-test.true (sym c.has.ensures ∙ c.if-has.false) c.in_ok-insert.ensures.ok c.loop-key.invariant
