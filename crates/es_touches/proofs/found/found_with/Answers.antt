use Rattle.std.proofs.Common.{◌≡◌, ◌∙◌, sym, ℕ, length, subst, arith}
use Rattle.es_touches.proofs.FoundTouches.{found_more}
use Rattle.es_touches.specs.Counts.{FoundTo}
use Rattle.es_touches.specs.Touches.{body_of}
use Rattle.es_touches.proofs.found.found_with.Goals as goal

pub fits_or-requires-clause-found : goal.fits_or-requires-clause-found
fits_or-requires-clause-found c = λ holds. c.requires.found.1 c.loop-i.i c.index.result.now (omega (arith, c.requires.found.0)) (sym c.index.ensures ∙ holds)

pub loop-i-preserved : goal.loop-i-preserved
loop-i-preserved c = found_more c.args.source.now (body_of c.args.body.now) c.args.pair.now.touches.now c.loop-i.i c.loop-i.all.items c.push.new.self.items c.fits_or.result c.in_ok-push.ensures.items c.fits_or.ensures c.loop-i.invariant

pub returns : goal.returns
returns c =
    let done : c.loop-i.i ≡ length c.args.pair.now.touches.now = omega arith in
    subst (λ (k : ℕ). FoundTo c.args.source.now (body_of c.args.body.now) c.args.pair.now.touches.now k c.loop-i.all.items) done c.loop-i.invariant
