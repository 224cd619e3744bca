use Rattle.std.proofs.Common.{◌∙◌, ◌++◌, ap, codes, map, arith}
use Rattle.std.specs.Prelude.{Some}
use Rattle.std.proofs.lemmas.Result.{on_ok_weaker}
use Rattle.serde_json.specs.Data.{array}
use Rattle.serde_json.specs.View.{items_of}
use Rattle.es_writing.specs.Lowered.{entry_value}
use Rattle.es_writing.specs.Slots.{member_tokens}
use Rattle.es_writing.proofs.Tokens.{list_written, map_now, values_done}
use Rattle.es_writing.proofs.program.write_names.Goals as goal

pub returns-clause-ok : goal.returns-clause-ok
returns-clause-ok c =
    let past = values_done (λ e. entry_value e.now) c.args.names.now c.loop-entry.entry-index _ _ (omega (arith, c.loop-entry-test.false)) c.loop-entry.invariant.tokens in
    let all = map_now entry_value c.args.names.now in
    on_ok_weaker c.end_array.result
    (λ e. list_written _ _ _ _ _ (codes "generated") (map (λ e. entry_value e.now) c.args.names.now) c.in_ok-key.ensures.ok c.in_ok-begin_array.ensures.ok past e
    ∙ ap (λ ds. c.args.out.now.tokens ++ member_tokens (codes "generated") (Some (array (items_of ds)))) all) c.end_array.ensures.ok
