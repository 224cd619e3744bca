use Rattle.std.proofs.Common.{sym, ap, ◌∙◌, ◌+◌}
use Rattle.es_touches.proofs.Comparing.{left_over}
use Rattle.es_touches.proofs.FoundTouches.{found_here}
use Rattle.es_touches.proofs.OpenBodies.{next_open, next_open_unfit}
use Rattle.es_touches.specs.Touches.{body_of, touches_of}
use Rattle.es_touches.proofs.fits.open_touches_fit.Goals as goal

pub open_touch_fits-requires : goal.open_touch_fits-requires
open_touch_fits-requires c = λ holds. found_here c.args.source.now (body_of c.args.body.now) c.args.touches.now c.args.found.items c.loop-i.i _ c.index.result.now _ c.requires.found c.loop-i-test.true (left_over c.args.touches.now (c.loop-i.i + 1)) (sym c.index.ensures ∙ holds)

pub loop-i-preserved : goal.loop-i-preserved
loop-i-preserved c =
    let xs = c.args.touches.now in
    let i = c.loop-i.i in
    next_open c.args.source.now (body_of c.args.body.now) xs i _ _ c.loop-i-test.true (left_over xs (i + 1)) (sym (ap touches_of c.requires.own)) c.requires.outside (sym c.open_touch_fits.ensures ∙ c.if-not-open_touch_fits.false) ∙ c.loop-i.invariant

pub returns-then-not-open_touch_fits : goal.returns-then-not-open_touch_fits
returns-then-not-open_touch_fits c =
    let xs = c.args.touches.now in
    let i = c.loop-i.i in
    sym (next_open_unfit c.args.source.now (body_of c.args.body.now) xs i _ _ c.loop-i-test.true (left_over xs (i + 1)) (sym (ap touches_of c.requires.own)) c.requires.outside (sym c.open_touch_fits.ensures ∙ c.if-not-open_touch_fits.true))
    ∙ c.loop-i.invariant
