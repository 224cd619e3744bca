use Rattle.std.proofs.Common.{◌≡◌, length, drop}
use Rattle.es_codes.specs.CodeView.{codes_of}
use Rattle.es_steps.specs.Code.{joined}
use Rattle.es_steps.specs.Statements.{elements_from}
use Rattle.es_code_members.specs.MembersView.{items_in}
use Rattle.es_code_targets.proofs.pattern.taken_items.Given as goal

abbrev pub invariant-loop-item : goal.invariant-loop-item
invariant-loop-item l = joined (codes_of l.taken) (elements_from l.node (length l.taken) (items_in (drop l.item-index l.items))) ≡ elements_from l.node 0 (items_in l.fn.items)
