use Rattle.es_visit.proofs.InOrder.{standing-preorder}
use Rattle.es_visit.proofs.Meetings.{meets}
use Rattle.es_visit.proofs.Order.{nested, entering-meetings, leaving-meetings}
use Rattle.es_visit.proofs.law.changing_visitors_meet_each_node_once.Goals as goal

pub returns-clause-calls : goal.returns-clause-calls
returns-clause-calls g c = λ goes answers role s e t u h. meets g.V.VisitMut.enters g.V.VisitMut.leaves g.V.VisitMut.scope_enters g.V.VisitMut.scope_leaves goes answers h

pub returns-clause-nested : goal.returns-clause-nested
returns-clause-nested g c = nested

pub returns-clause-entered : goal.returns-clause-entered
returns-clause-entered g c = entering-meetings

pub returns-clause-left : goal.returns-clause-left
returns-clause-left g c = leaving-meetings

pub returns-clause-nodes : goal.returns-clause-nodes
returns-clause-nodes g c = standing-preorder
