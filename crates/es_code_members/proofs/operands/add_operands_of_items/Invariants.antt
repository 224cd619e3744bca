use Rattle.std.proofs.Common.{◌≡◌, drop}
use Rattle.es_codes.specs.CodeView.{codes_of}
use Rattle.es_steps.specs.Code.{joined}
use Rattle.es_steps.specs.Members.{operands}
use Rattle.es_code_members.specs.MembersView.{items_in}
use Rattle.es_code_members.proofs.operands.add_operands_of_items.Given as goal

abbrev pub invariant-loop-item : goal.invariant-loop-item
invariant-loop-item l = joined (codes_of l.operands) (operands (items_in (drop l.item-index l.items))) ≡ joined (codes_of l.fn.operands) (operands (items_in l.fn.items))
