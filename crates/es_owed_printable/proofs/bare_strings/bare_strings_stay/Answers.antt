use Rattle.std.proofs.Common.{◌≡◌, ap, ◌∙◌, map}
use Rattle.es_base.specs.declared.ids.NodeId.{NodeId}
use Rattle.es_binding_faults.specs.Seen.{seen}
use Rattle.es_steps.specs.Printable.{all_among, bare_strings}
use Rattle.es_steps.specs.References.{has_number}
use Rattle.es_owed_printable.proofs.Bare.{among_same}
use Rattle.es_owed_printable.proofs.bare_strings.bare_strings_stay.Goals as goal

pub returns : goal.returns
returns c =
    let source = bare_strings (seen c.args.source.now) in
    let there : map (λ (n : NodeId). n.0) c.as_slice.result.now ≡ source = ap (map (λ (n : NodeId). n.0)) c.as_slice.ensures.value ∙ c.in_ok-there.ensures in
    let strings : map (λ (n : NodeId). n.0) c.as_slice-2.result.now ≡ bare_strings (seen c.args.lowered.now) = ap (map (λ (n : NodeId). n.0)) c.as_slice-2.ensures.value ∙ c.in_ok-strings.ensures in
    c.all_among.ensures
    ∙ among_same _ _ source (λ n. c.in_ok-known.ensures n ∙ ap (has_number n) there)
    ∙ ap (λ ns. all_among ns source) strings
