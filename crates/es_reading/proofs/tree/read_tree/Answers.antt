use Rattle.borrowed_json.specs.View.{view}
use Rattle.es_reading.proofs.Given.{given_conforms, given_in_order}
use Rattle.es_reading.specs.Reading.{root}
use Rattle.es_reading.proofs.tree.read_tree.Goals as goal

pub returns-clause-conforms : goal.returns-clause-conforms
returns-clause-conforms c = given_conforms c.args.numbers (view c.args.value.now) root 0 _ _ _ c.in_ok-tree.ensures.tree

pub returns-clause-preorder : goal.returns-clause-preorder
returns-clause-preorder c is = given_in_order c.args.numbers (view c.args.value.now) root 0 _ _ _ c.in_ok-tree.ensures.tree is
