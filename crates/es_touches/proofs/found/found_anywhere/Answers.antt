use Rattle.std.proofs.Common.{◌≡◌, ℕ, length, subst, arith}
use Rattle.es_touches.proofs.FoundTouches.{anywhere, found_more}
use Rattle.es_touches.specs.Counts.{FoundTo}
use Rattle.es_touches.specs.Touches.{body_of}
use Rattle.es_touches.proofs.found.found_anywhere.Goals as goal

pub loop-i-preserved : goal.loop-i-preserved
loop-i-preserved c =
    let s = c.args.source.now in
    let b = body_of c.args.body.now in
    let xs = c.args.touches.now in
    let i = c.loop-i.i in
    found_more s b xs i c.loop-i.found.items c.push.new.self.items c.fits_anywhere.result c.in_ok-push.ensures.items
    (λ holds. anywhere s b xs i _ c.fits_anywhere.result c.fits_anywhere.ensures c.loop-i-test.true holds)
    c.loop-i.invariant

pub returns : goal.returns
returns c =
    let done : c.loop-i.i ≡ length c.args.touches.now = omega arith in
    subst (λ (k : ℕ). FoundTo c.args.source.now (body_of c.args.body.now) c.args.touches.now k c.loop-i.found.items) done c.loop-i.invariant
