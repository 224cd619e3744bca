use Rattle.std.proofs.Common.{◌≡◌, true, sym, ap, ◌∙◌, List, ◌+◌, drop}
use Rattle.es_lowered.specs.Timely as spec
use Rattle.es_marks.specs.Around.{later_functions}
use Rattle.es_marks.specs.declared.around.LaterFunction.{LaterFunction}
use Rattle.es_marks.proofs.InTime.{early_behind, left_over}
use Rattle.es_marks.proofs.in_time.is_called_early.Goals as goal

pub loop-i-preserved : goal.loop-i-preserved
loop-i-preserved c =
    let there = later_functions c.args.there.now in
    let later : spec.is_later (later_functions (drop (c.loop-i.i + 1) c.args.here.now)) there ≡ true = ap (λ (fs : List LaterFunction). spec.is_later (later_functions fs) there) (sym (left_over c.args.here.now (c.loop-i.i + 1))) ∙ sym c.is_later.ensures ∙ c.if-not-is_later.false in
    early_behind c.args.here.now c.loop-i.i there c.loop-i-test.true later ∙ c.loop-i.invariant
