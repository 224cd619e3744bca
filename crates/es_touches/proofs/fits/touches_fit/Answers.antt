use Rattle.std.proofs.Common.{sym, ap, List, [], ◌∙◌, ◌+◌}
use Rattle.es_touches.proofs.Comparing.{left_over, next_fits_or, next_unfit_or}
use Rattle.es_touches.specs.Comparison.{touches_fit}
use Rattle.es_touches.specs.Touches.{body_of, touches_of}
use Rattle.es_touches.specs.declared.touch.Touch.{Touch}
use Rattle.es_touches.proofs.fits.touches_fit.Goals as goal

pub loop-i-preserved : goal.loop-i-preserved
loop-i-preserved c =
    let s = c.args.source.now in
    let b = body_of c.args.body.now in
    let xs = c.as_slice-touches.result.now in
    let i = c.loop-i.i in
    next_fits_or s b xs i _ _ c.loop-i-test.true (left_over xs (i + 1)) (sym c.in_ok-fits_here.ensures ∙ c.if-not-branch.false) ∙ c.loop-i.invariant

pub returns-then-not-branch : goal.returns-then-not-branch
returns-then-not-branch c =
    let s = c.args.source.now in
    let b = body_of c.args.body.now in
    let xs = c.as_slice-touches.result.now in
    let i = c.loop-i.i in
    sym (next_unfit_or s b xs i _ _ c.loop-i-test.true (left_over xs (i + 1)) (sym c.in_ok-fits_here.ensures ∙ c.if-not-branch.true))
    ∙ c.loop-i.invariant
    ∙ ap (λ (ys : List Touch). touches_fit s b [] (touches_of ys)) c.as_slice-touches.ensures.value
