use Rattle.std.proofs.Common.{◌≡◌, sym, ap, ◌∙◌, map, ◌&&◌, Some}
use Rattle.es_base.specs.Numbered.{numbers}
use Rattle.es_base.specs.Preorder.{number_of}
use Rattle.es_binding_faults.specs.Seen.{seen}
use Rattle.es_owed.specs.Numbers.{are_distinct, consecutive_from}
use Rattle.es_owed.proofs.Numbering.{if_numbered, numbered_if}
use Rattle.es_owed.proofs.numbered.is_numbered.Goals as goal

pub returns : goal.returns
returns c =
    let first = c.args.first in
    let program = c.args.lowered.now.program.now in
    let are : c.as_slice-2.result.now ≡ numbers program = c.as_slice-2.ensures.value ∙ c.in_ok-numbers.ensures ∙ ap (λ ns. map number_of (seen ns)) c.as_slice.ensures.value ∙ ap (map number_of) c.args.lowered.now.in_preorder in
    let same : c.are_numbered.result ≡ (consecutive_from first (Some first) (numbers program) && are_distinct (numbers program)) =
    c.are_numbered.ensures
    ∙ ap (λ ns. consecutive_from first (Some first) ns && are_distinct (map number_of (seen c.args.lowered.now.nodes.items))) are
    ∙ ap (λ ts. consecutive_from first (Some first) (numbers program) && are_distinct (map number_of ts)) c.args.lowered.now.in_preorder in
    (λ yes. if_numbered first program (sym same ∙ yes), λ is. same ∙ numbered_if first program is)
