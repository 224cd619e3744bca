use Rattle.std.proofs.Common.{◌∙◌, ap, nat_eq, ◌||◌}
use Rattle.std.proofs.lemmas.Result.{on_ok_weaker}
use Rattle.es_steps.specs.References.{has_number}
use Rattle.es_binding_faults.proofs.HasNumbers.{has_number-more}
use Rattle.es_binding_faults.proofs.numbers.Numbers.insert.Goals as goal

pub returns : goal.returns
returns c = on_ok_weaker c.insert.result
    (λ more n. has_number-more n c.args.node.0 tt c.self.inside.numbers c.insert.new.self (more n) ∙ ap (λ ks. nat_eq n c.args.node.0 || has_number n ks) c.self.view_is)
    c.insert.ensures
