use Rattle.std.proofs.Common.{List, drop}
use Rattle.es_base.specs.Tree.{trees}
use Rattle.es_steps.specs.PrivateNames.{PrivateMember, elements_members}
use Rattle.es_validity.specs.Found.{found}
use Rattle.es_validity.proofs.Members.{Met}
use Rattle.es_validity.proofs.privates.elements_privates.Given as goal

abbrev pub invariant-loop-element : goal.invariant-loop-element
invariant-loop-element l = (earlier : List PrivateMember) × Met l.declared (found l.first) (found l.initial.first) (elements_members 0 (trees (drop l.element-index l.elements))) (elements_members 0 (trees l.elements)) earlier
