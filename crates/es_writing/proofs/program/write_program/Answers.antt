use Rattle.std.proofs.Common.{ap, ◌∙◌, ◌++◌, [], ◌∷◌, map, arith}
use Rattle.std.proofs.lemmas.Result.{on_ok_weaker}
use Rattle.json.specs.Token.{Token}
use Rattle.es_base.specs.declared.kind.Kind.{Kind}
use Rattle.es_writing.specs.Slots.{lowered_data, slots_tokens}
use Rattle.es_writing.proofs.Rows.{program_tokens}
use Rattle.es_writing.proofs.Tokens.{slots_done, closed}
use Rattle.es_writing.proofs.program.write_program.Goals as goal

pub returns-clause-ok : goal.returns-clause-ok
returns-clause-ok c =
    let n = c.args.program.now in
    let names = map (λ e. e.now) c.args.names.now in
    let stands = lowered_data n names c.args.warnings.now c.args.shapes.now in
    let ss = c.program_slots-slot-items.result.now in
    let past = slots_done Kind.Program stands ss c.loop-slot.slot-index _ _ (omega (arith, c.loop-slot-test.false)) c.loop-slot.invariant.tokens in
    let table = ap (λ xs. Token.begin_object ∷ (slots_tokens Kind.Program stands xs ++ Token.end_object ∷ [])) c.program_slots-slot-items.ensures in
    let all = table ∙ program_tokens names c.args.warnings.now c.args.shapes.now n c.parts-parts.result.now c.requires c.parts-parts.ensures.list c.parts-parts.ensures.shapes in
    on_ok_weaker c.end_object.result (λ e. closed _ _ _ _ _ _ _ c.in_ok-begin_object.ensures.ok past e ∙ ap (λ ts. c.args.out.now.tokens ++ ts) all) c.end_object.ensures.ok
