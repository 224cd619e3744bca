use Rattle.std.proofs.Common.{◌∙◌, ap, nat_eq, ◌||◌}
use Rattle.es_steps.specs.References.{has_number}
use Rattle.es_binding_faults.proofs.HasNumbers.{inserted}
use Rattle.es_owed_texts.proofs.characters.Characters.insert.Goals as goal

pub returns : goal.returns
returns c = λ n. ap (has_number n) c.in_ok-insert.ensures.keys ∙ inserted n c.args.character c.self.inside.characters.keys ∙ ap (λ ks. nat_eq n c.args.character || has_number n ks) c.self.view_is
