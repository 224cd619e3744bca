use Rattle.std.proofs.Common.{◌≡◌, ◌+◌, ◌-◌, ◌<◌, ℕ, [], length, take, subst, arith}
use Rattle.es_lowered.specs.DeadZones as spec
use Rattle.es_touches.proofs.Comparing.{run_step}
use Rattle.es_touches.specs.Comparison.{turned}
use Rattle.es_touches.specs.Touches.{closures_of, touch_of, touches_of}
use Rattle.es_touches.proofs.closures.were_run.Goals as goal

pub loop-i-preserved : goal.loop-i-preserved
loop-i-preserved c =
    let xs = c.args.front.now in
    let of = spec.were_run (closures_of c.args.called.now) (touch_of c.args.touch) in
    let j : ℕ = c.loop-i.i - 1 in
    let next : c.loop-i.i ≡ j + 1 = omega arith in
    let below : j < length xs = omega arith in
    run_step (closures_of c.args.called.now) (touch_of c.args.touch) xs j _ c.loop-i.ran.items c.add_run.new.ran.items _ below c.in_ok-add_run.ensures
    (subst (λ (k : ℕ). of c.loop-i.ran.items (turned (touches_of (take k xs)) []) ≡ of [] (turned (touches_of xs) [])) next c.loop-i.invariant)
