use Rattle.std.proofs.Common.{map, arith}
use Rattle.std.proofs.lemmas.Result.{on_ok_weaker}
use Rattle.es_writing.specs.Lowered.{warning_value}
use Rattle.es_writing.proofs.Tokens.{list_written, values_done}
use Rattle.es_writing.proofs.program.write_warnings.Goals as goal

pub returns-clause-ok : goal.returns-clause-ok
returns-clause-ok c =
    let past = values_done (warning_value) c.args.warnings.now c.loop-warning.warning-index _ _ (omega (arith, c.loop-warning-test.false)) c.loop-warning.invariant.tokens in
    on_ok_weaker c.end_array.result (list_written _ _ _ _ _ _ (map (warning_value) c.args.warnings.now) c.in_ok-key.ensures.ok c.in_ok-begin_array.ensures.ok past) c.end_array.ensures.ok
