use Rattle.std.proofs.Common.{◌≡◌, sym, ap, ◌∙◌}
use Rattle.std.proofs.lemmas.Result.{on_ok_weaker}
use Rattle.es_codes.specs.CodeView.{codes_of}
use Rattle.es_steps.specs.Code.{joined}
use Rattle.es_code_members.proofs.Inner.{piece_operands}
use Rattle.es_code_members.proofs.operands.add_inner_operands.Goals as goal

pub returns-in-Piece : goal.returns-in-Piece
returns-in-Piece c =
    let same : c.as_mut_slice.result.now ≡ c.in-Piece.inner = cc (c.as_mut_slice.ensures.value, c.in-Piece.inner-is) in
    on_ok_weaker c.move_codes.result (λ e. e ∙ ap (joined (codes_of c.args.operands.now)) (ap codes_of same ∙ sym (piece_operands c.args.code.now c.in-Piece.details c.in-Piece.inner c.in-Piece.is))) c.move_codes.ensures
