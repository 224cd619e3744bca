use Rattle.std.proofs.Common.{ap, sym, ◌∙◌, ◌&&◌}
use Rattle.es_kept_bodies.specs.Kept as spec
use Rattle.es_touches.specs.Comparison.{none_in_closure}
use Rattle.es_touches.specs.Touches.{bodies_of, body_of, closures_of, touches_of}
use Rattle.es_kept_bodies.proofs.IndexedBodies.{same_numbered}
use Rattle.es_kept_bodies.proofs.kept.is_kept_body.Goals as goal

pub returns-then-none_in_closure : goal.returns-then-none_in_closure
returns-then-none_in_closure c =
    let called = closures_of c.args.indexed.now.source.now.called.now in
    let sources = bodies_of c.args.indexed.now.source.now.bodies.now in
    let b = body_of c.args.body.now in
    c.any_same.ensures
    ∙ ap (spec.any_same b) c.numbered.ensures
    ∙ same_numbered b sources
    ∙ ap (λ none. none && spec.any_same b sources) (sym c.if-none_in_closure.true ∙ c.none_in_closure.ensures ∙ ap (λ ts. none_in_closure called (touches_of ts)) c.as_slice.ensures.value)
