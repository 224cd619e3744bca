use Rattle.es_visit.proofs.InOrder.{reading-in_order, standing-preorder}
use Rattle.es_visit.proofs.law.visitors_meet_each_node_once.Goals as goal

pub returns-clause-entries : goal.returns-clause-entries
returns-clause-entries c = reading-in_order

pub returns-clause-nodes : goal.returns-clause-nodes
returns-clause-nodes c = standing-preorder
