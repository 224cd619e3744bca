use Rattle.std.proofs.Common.{◌∙◌, ap}
use Rattle.es_binding_faults.specs.Seen.{seen}
use Rattle.es_lowered.specs.FunctionsAround.{all_stand_where}
use Rattle.es_lowered.specs.KeptReferences.{inner_references}
use Rattle.es_owed_places.specs.Placed.{references_of}
use Rattle.es_owed_places.proofs.inner_names.inner_names_stay.Goals as goal

pub returns : goal.returns
returns c =
    let first = c.args.first in
    let source = c.args.source.now in
    let p = source.program.now in
    let q = c.args.lowered.now.program.now in
    c.all_stand_where.ensures
    ∙ ap (λ xs. all_stand_where first (references_of xs) (references_of c.as_slice-3.result.now)) c.as_slice-2.ensures.value
    ∙ ap (λ xs. all_stand_where first (references_of c.in_ok-found.found.items) (references_of xs)) c.as_slice-3.ensures.value
    ∙ ap (λ rs. all_stand_where first rs (references_of c.in_ok-there.there.items)) c.in_ok-found.ensures
    ∙ ap (λ rs. all_stand_where first (inner_references first (seen c.in_ok-names.names.nodes.now) q) rs) c.in_ok-there.ensures
    ∙ ap (λ ps. all_stand_where first (inner_references first ps q) (inner_references first ps p)) (c.in_ok-names.ensures ∙ ap seen c.as_slice.ensures.value ∙ source.in_preorder)
