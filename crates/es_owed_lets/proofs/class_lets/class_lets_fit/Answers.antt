use Rattle.std.proofs.Common.{◌∙◌, ap, List, Bor}
use Rattle.es_base.specs.Tree.{Tree}
use Rattle.es_binding_faults.specs.Seen.{seen}
use Rattle.es_owed_lets.specs.Lets.{all_fit}
use Rattle.es_owed_lets.proofs.ClassLets.{fit_by_node}
use Rattle.es_owed_lets.proofs.class_lets.class_lets_fit.Goals as goal

pub returns : goal.returns
returns c =
    c.in_ok-holds.ensures
    ∙ ap (λ (ps : List Tree). all_fit c.args.first ps (seen c.as_slice.result.now)) c.in_ok-classes.ensures
    ∙ ap (λ (ts : List (Bor Tree)). all_fit c.args.first (seen c.args.source.now) (seen ts)) c.as_slice.ensures.value
    ∙ ap (λ (ts : List Tree). all_fit c.args.first (seen c.args.source.now) ts) c.in_ok-nodes.ensures
    ∙ fit_by_node c.args.first (seen c.args.source.now) c.args.lowered.now
