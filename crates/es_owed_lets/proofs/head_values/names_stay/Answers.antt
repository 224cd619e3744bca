use Rattle.std.proofs.Common.{◌∙◌, ap, List, Bor}
use Rattle.es_base.specs.Preorder.{preorder}
use Rattle.es_base.specs.Tree.{Tree}
use Rattle.es_binding_faults.specs.Seen.{seen}
use Rattle.es_lowered.specs.ClassNames.{numbers_of}
use Rattle.es_references.specs.References.{references_of}
use Rattle.es_steps.specs.References.{has_number}
use Rattle.es_owed_lets.specs.Heads.{spelled}
use Rattle.es_owed_lets.proofs.HeadNames.{stay_by_name}
use Rattle.es_owed_lets.proofs.head_values.names_stay.Goals as goal

pub returns : goal.returns
returns c =
    c.stay_inside.ensures
    ∙ stay_by_name c.args.ledger.now (references_of c.args.references.now) c.in_ok-inside.inside (numbers_of (preorder c.args.value.now)) (spelled c.as_slice-2.result.now) c.in_ok-names.names
    (λ n. c.in_ok-inside.ensures n ∙ ap (λ (ts : List (Bor Tree)). has_number n (numbers_of (seen ts))) c.as_slice.ensures.value ∙ ap (λ (ts : List Tree). has_number n (numbers_of ts)) c.in_ok-nodes.ensures)
    (ap spelled c.as_slice-2.ensures.value ∙ c.in_ok-given.ensures)
    c.in_ok-names.ensures
