use Rattle.es_visit.proofs.Meetings.{meets, folds}
use Rattle.es_visit.proofs.Rewrites.{rewrites}
use Rattle.visit_tests.specs.Unnumbered.{and_function, change, outside_functions}
use Rattle.visit_tests.proofs.unnumbered.unnumber_references.Goals as goal

pub returns-clause-tree : goal.returns-clause-tree
returns-clause-tree c = rewrites _ _ _ _ outside_functions change (λ hook s e t answer a. a.0) (λ hook s e t u a. a.0) c.in_ok-walk_node_mut.ensures

pub returns-clause-functions : goal.returns-clause-functions
returns-clause-functions c =
    let met = folds _ _ _ _ outside_functions (λ s. s.functions.items) and_function
    (λ hook s n t a. a.1) (λ hook o b s n t v u made a. a.1) (λ scope s n a. a) (λ scope s n a. a)
    (meets _ _ _ _ outside_functions (λ hook s e t answer a. a.0) c.in_ok-walk_node_mut.ensures) in
    rw c.new.ensures.items at met
