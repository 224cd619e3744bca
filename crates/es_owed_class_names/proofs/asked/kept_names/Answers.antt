use Rattle.std.proofs.Common.{◌≡◌, sym, ap, ◌∙◌}
use Rattle.es_base.specs.Preorder.{preorder}
use Rattle.es_binding_faults.proofs.Appending.{IfOk-map}
use Rattle.es_lowered.specs.ClassNames as spec
use Rattle.es_steps.specs.References.{has_number}
use Rattle.es_owed_class_names.proofs.KeptPlaces.{among_free}
use Rattle.es_owed_class_names.specs.Asked.{kept_names}
use Rattle.es_owed_class_names.proofs.asked.kept_names.Goals as goal

pub kept_places-requires : goal.kept_places-requires
kept_places-requires c =
    let lowering = c.args.lowering.now in
    λ m is. among_free m c.class_runs-runs.result c.args.class (preorder lowering.source.now.program.now) (preorder lowering.lowered.now.program.now) c.args.names.now (ap (has_number m) (sym (c.as_slice.ensures.value ∙ c.in_ok-free.ensures)) ∙ is)

pub returns : goal.returns
returns c =
    let lowering = c.args.lowering.now in
    let first = lowering.first in
    let n = c.args.class in
    let names = c.args.names.now in
    let p = lowering.source.now.program.now in
    let q = lowering.lowered.now.program.now in
    let free : c.in_ok-free.free.items ≡ spec.free_naming (spec.class_runs n (preorder q)) n (preorder p) (preorder q) names =
    c.in_ok-free.ensures
    ∙ ap (λ b. spec.free_naming b n (preorder p) (preorder q) names) c.class_runs-runs.ensures in
    IfOk-map c.kept_places.result
    (λ r. r.items ≡ spec.kept_places first n p q names c.as_slice.result.now)
    (λ r. r.items ≡ kept_names first p q n names)
    (λ r is.
    is
    ∙ ap (λ ns. spec.kept_places first n p q names ns) (c.as_slice.ensures.value ∙ free)) c.kept_places.ensures
