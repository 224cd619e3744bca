use Rattle.std.proofs.Common.{◌≡◌, ◌∙◌, sym, ap}
use Rattle.es_node.specs.View.{kind_of, number_in, parts_in, parts_of}
use Rattle.es_steps.specs.Context as spec
use Rattle.es_steps.specs.Scopes.{is_body_part}
use Rattle.es_code_reading.specs.Contexts.{context_of, context_with, frame_in, role_of, seen_in}
use Rattle.es_code_reading.proofs.Framing.{put_together}
use Rattle.es_code_reading.proofs.inside.around_inside.Goals as goal

pub returns : goal.returns
returns c = λ seen.
    let u = c.args.node.now in
    let i = c.args.i in
    let around = context_of c.args.c.now in
    let own = seen_in c.args.c.now in
    let inner = context_with c.args.c.now.terms.now own c.in_ok-around.around in
    let frame = spec.frame_of (kind_of u) in
    let frames : frame_in c.frame_of-frame.result ≡ frame = c.frame_of-frame.ensures ∙ ap spec.frame_of c.kind-kind.ensures in
    let same : inner ≡ spec.framed frame (number_in u) (parts_in u) i around =
    c.in_ok-around.ensures own
    ∙ ap (λ f. spec.framed f c.node_id.result.0 (parts_of c.parts-parts.result.now) i around) frames
    ∙ ap (λ m. spec.framed frame m (parts_of c.parts-parts.result.now) i around) c.node_id.ensures
    ∙ ap (λ ps. spec.framed frame (number_in u) ps i around) (sym c.parts-parts.ensures.list) in
    put_together seen inner (spec.framed frame (number_in u) (parts_in u) i around)
    (role_of c.role_in.result) (spec.role_in frame (parts_in u) i around)
    c.is_body_part.result (is_body_part (kind_of u) i)
    same
    (c.role_in.ensures own ∙ ap (λ f. spec.role_in f (parts_of c.parts-parts.result.now) i around) frames ∙ ap (λ ps. spec.role_in frame ps i around) (sym c.parts-parts.ensures.list))
    (c.is_body_part.ensures ∙ ap (λ k. is_body_part k i) c.kind-kind.ensures)
