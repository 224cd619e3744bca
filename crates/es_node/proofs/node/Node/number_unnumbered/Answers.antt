use Rattle.std.proofs.Common.{◌≤◌, sym, subst, arith}
use Rattle.es_base.specs.Numbered.{IsNumbered, unnumbered}
use Rattle.es_base.proofs.FreshNumbers.{IsNumbered-fresh}
use Rattle.es_node.proofs.node.Node.number_unnumbered.Goals as goal

pub returns-clause-numbered : goal.returns-clause-numbered
returns-clause-numbered c = λ below once.
    let fits : c.args.next ≤ unnumbered = omega (arith, c.requires) in
    subst (IsNumbered c.args.next) (sym c.renumber_node.ensures.tree) (IsNumbered-fresh unnumbered c.args.next c.args.self.now fits below once)
