use Rattle.std.proofs.Common.{sym, ap, List, [], ◌∙◌, ◌+◌}
use Rattle.es_touches.proofs.Comparing.{left_over, next_runs, next_runs_unfit}
use Rattle.es_touches.specs.Comparison.{runs_fit, turned}
use Rattle.es_touches.specs.Touches.{body_of, touch_of, touches_of}
use Rattle.es_touches.specs.declared.touch.Touch.{Touch}
use Rattle.es_touches.proofs.fits.all_runs_fit.Goals as goal

pub loop-i-preserved : goal.loop-i-preserved
loop-i-preserved c =
    let s = c.args.source.now in
    let b = body_of c.args.body.now in
    let front = turned (touches_of c.args.front.now) [] in
    let t = touch_of c.args.touch in
    let xs = c.as_slice-touches.result.now in
    let i = c.loop-i.i in
    next_runs s b front t (touches_of c.args.behind.now) xs i _ _ c.loop-i-test.true (left_over xs (i + 1)) (sym c.in_ok-run_fits.ensures ∙ c.if-not-branch.false) ∙ c.loop-i.invariant

pub returns-then-not-branch : goal.returns-then-not-branch
returns-then-not-branch c =
    let s = c.args.source.now in
    let b = body_of c.args.body.now in
    let front = turned (touches_of c.args.front.now) [] in
    let t = touch_of c.args.touch in
    let xs = c.as_slice-touches.result.now in
    let i = c.loop-i.i in
    sym (next_runs_unfit s b front t (touches_of c.args.behind.now) xs i _ _ c.loop-i-test.true (left_over xs (i + 1)) (sym c.in_ok-run_fits.ensures ∙ c.if-not-branch.true))
    ∙ c.loop-i.invariant
    ∙ ap (λ (ys : List Touch). runs_fit s b front t (touches_of c.args.behind.now) [] (touches_of ys)) c.as_slice-touches.ensures.value
