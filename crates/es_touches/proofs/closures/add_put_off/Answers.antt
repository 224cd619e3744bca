use Rattle.std.proofs.Common.{◌≡◌, ◌+◌, ◌-◌, ◌<◌, ◌++◌, ℕ, [], length, take, subst, arith}
use Rattle.es_lowered.specs.DeadZones as spec
use Rattle.es_touches.proofs.Comparing.{put_off_step}
use Rattle.es_touches.specs.Comparison.{turned}
use Rattle.es_touches.specs.Touches.{closures_of, touch_of, touches_of}
use Rattle.es_touches.proofs.closures.add_put_off.Goals as goal

pub loop-i-preserved : goal.loop-i-preserved
loop-i-preserved c =
    let xs = c.args.front.now in
    let front = turned (touches_of xs) [] in
    let of = spec.put_off (closures_of c.args.called.now) c.args.ran.now (touch_of c.args.touch) in
    let j : ℕ = c.loop-i.i - 1 in
    let next : c.loop-i.i ≡ j + 1 = omega arith in
    let below : j < length xs = omega arith in
    put_off_step (closures_of c.args.called.now) c.args.ran.now (touch_of c.args.touch) xs j _ c.is_put_off.result (touches_of c.loop-i.behind.items) (touches_of c.add_if.new.touches.items) _ below c.is_put_off.ensures c.in_ok-add_if.ensures
    (subst (λ (k : ℕ). touches_of c.loop-i.behind.items ++ of (turned (touches_of (take k xs)) []) ≡ touches_of c.args.behind.now.items ++ of front) next c.loop-i.invariant)
