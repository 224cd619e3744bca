use Rattle.std.proofs.Common.{◌≡◌, ◌∙◌, sym, ap, length, arith}
use Rattle.std.proofs.lemmas.Bool.Decides.{nat_tests}
use Rattle.std.proofs.lemmas.Result.{IfOk-weaker}
use Rattle.program_names.proofs.Names.{ref_given, name_given}
use Rattle.program_names.proofs.suggest.or_ref.Goals as goal

pub returns-then-is_empty : goal.returns-then-is_empty
returns-then-is_empty c =
    let none : length c.args.string.now ≡ 0 = let t = sym c.if-is_empty.true ∙ c.is_empty.ensures in grind (arith, nat_tests, t) in
    IfOk-weaker c.from_ascii.result _ _ (λ name is. is ∙ sym (ref_given c.args.string.now none)) c.from_ascii.ensures

pub returns-else-is_empty : goal.returns-else-is_empty
returns-else-is_empty c =
    let some : ¬ (length c.args.string.now ≡ 0) = λ e. (let t = sym c.if-is_empty.false ∙ c.is_empty.ensures in grind (arith, nat_tests, t, e)) in
    IfOk-weaker c.new.result _ _ (λ name is. is ∙ name_given c.args.string.now c.utf8.string some) c.new.ensures
