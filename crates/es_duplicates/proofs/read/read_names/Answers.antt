use Rattle.std.proofs.Common.{◌≡◌, ◌+◌, ◌<◌, ap, ◌∙◌, length, arith}
use Rattle.std.proofs.lemmas.List.{length_push}
use Rattle.es_base.specs.Carried.{span_of}
use Rattle.es_duplicates.proofs.Reading.{names_next, reads_count, reads_next, reads_symbol}
use Rattle.es_duplicates.proofs.read.read_names.Goals as goal

pub create_reference-requires-clause-symbol : goal.create_reference-requires-clause-symbol
create_reference-requires-clause-symbol c = reads_symbol c.args.scoping.now c.loop-alloc.scoping c.args.name.now.symbol_id (length c.loop-alloc.names) c.loop-alloc.invariant.2 c.requires.symbol

pub create_reference-requires-clause-room : goal.create_reference-requires-clause-room
create_reference-requires-clause-room c =
    let count = reads_count c.args.scoping.now c.loop-alloc.scoping c.args.name.now.symbol_id (length c.loop-alloc.names) c.loop-alloc.invariant.2 in
    omega (arith, count, c.len.ensures, c.loop-alloc-test.true, c.requires.room)

pub loop-alloc-preserved : goal.loop-alloc-preserved
loop-alloc-preserved c =
    let n = length c.loop-alloc.names in
    let more : length c.push.new.self ≡ n + 1 = ap length c.in_ok-push.ensures.ok ∙ length_push c.loop-alloc.names c.in_ok-create_reference.field-0 in
    let count = reads_count c.args.scoping.now c.loop-alloc.scoping c.args.name.now.symbol_id n c.loop-alloc.invariant.2 in
    let fewer : n < c.args.count = omega (arith, c.len.ensures, c.loop-alloc-test.true) in (
      omega (arith, more, fewer),
      names_next (span_of c.args.span) c.args.name.now.name (length c.args.scoping.now.references) n (length c.push.new.self) (length c.loop-alloc.scoping.references) c.loop-alloc.names c.push.new.self c.in_ok-create_reference.field-0 c.loop-alloc.invariant.1 c.in_ok-create_reference.ensures.node c.in_ok-push.ensures.ok count more,
      reads_next c.args.scoping.now c.loop-alloc.scoping c.create_reference.new.scoping c.args.name.now.symbol_id n (length c.push.new.self) c.loop-alloc.invariant.2 c.in_ok-create_reference.ensures.table more,
    )
