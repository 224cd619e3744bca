use Rattle.std.proofs.Common.{map, arith}
use Rattle.std.proofs.lemmas.Result.{on_ok_weaker}
use Rattle.es_base.specs.Shape.{shape_number}
use Rattle.es_writing.specs.Writing.{number_of}
use Rattle.es_writing.proofs.Tokens.{list_written, values_done}
use Rattle.es_writing.proofs.program.write_shapes.Goals as goal

pub returns-clause-ok : goal.returns-clause-ok
returns-clause-ok c =
    let past = values_done (λ s. number_of (shape_number s)) c.args.shapes.now c.loop-shape.shape-index _ _ (omega (arith, c.loop-shape-test.false)) c.loop-shape.invariant.tokens in
    on_ok_weaker c.end_array.result (list_written _ _ _ _ _ _ (map (λ s. number_of (shape_number s)) c.args.shapes.now) c.in_ok-key.ensures.ok c.in_ok-begin_array.ensures.ok past) c.end_array.ensures.ok
