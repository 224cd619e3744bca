use Rattle.std.proofs.Common.{◌∙◌, ap, sym, subst, List, IfOk, arith}
use Rattle.es_touches.proofs.FoundTouches.{of_source}
use Rattle.es_touches.specs.Comparison.{none_in_closure}
use Rattle.es_touches.specs.Counts.{AreFound}
use Rattle.es_touches.specs.Touches.{body_of, closures_of, touches_of}
use Rattle.es_touches.specs.declared.touch.Touch.{Touch}
use Rattle.es_touches.proofs.found.found_at.Goals as goal

pub found_with-requires-clause-among : goal.found_with-requires-clause-among
found_with-requires-clause-among c = of_source c.args.source.now c.args.place c.index-source-place.result (omega arith)

pub found_with-requires-clause-there : goal.found_with-requires-clause-there
found_with-requires-clause-there c = c.in_ok-pair.ensures.1 ∙ c.as_slice-there.ensures.value

pub found_with-requires-clause-outside : goal.found_with-requires-clause-outside
found_with-requires-clause-outside c =
    ap (λ (xs : List Touch). none_in_closure (closures_of c.args.source.now.called.now) (touches_of xs)) c.in_ok-pair.ensures.1
    ∙ sym c.none_in_closure.ensures
    ∙ c.if-not-none_in_closure.false

pub found_with-requires-clause-found : goal.found_with-requires-clause-found
found_with-requires-clause-found c = subst (λ (xs : List Touch). AreFound c.args.source.now (body_of c.args.body.now) xs c.args.found.items) (sym c.in_ok-pair.ensures.0) c.requires

pub returns : goal.returns
returns c = subst (λ (xs : List Touch). IfOk c.found_with.result (λ r. AreFound c.args.source.now (body_of c.args.body.now) xs r.items)) c.in_ok-pair.ensures.0 c.found_with.ensures
