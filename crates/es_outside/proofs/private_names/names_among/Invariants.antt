use Rattle.std.proofs.Common.{◌≡◌, ◌||◌, ℕ, List, drop}
use Rattle.es_base.specs.Conforms.{is_among}
use Rattle.es_base.specs.Tree.{trees}
use Rattle.es_steps.specs.PrivateNames.{elements_members}
use Rattle.es_outside.specs.PrivateMembers.{declares, declares_written}
use Rattle.es_outside.proofs.private_names.names_among.Given as goal

abbrev pub invariant-loop-element : goal.invariant-loop-element
invariant-loop-element l =
    ((s : List ℕ) → (is_among s l.declared || declares s (elements_members 0 (trees (drop l.element-index l.elements)))) ≡ declares s (elements_members 0 (trees l.elements)))
    × ((s : List ℕ) → (is_among s l.written || declares_written s (elements_members 0 (trees (drop l.element-index l.elements)))) ≡ declares_written s (elements_members 0 (trees l.elements)))
