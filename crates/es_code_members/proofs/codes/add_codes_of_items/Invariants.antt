use Rattle.std.proofs.Common.{◌≡◌, drop}
use Rattle.es_codes.specs.CodeView.{codes_of}
use Rattle.es_steps.specs.Code.{joined}
use Rattle.es_steps.specs.Members.{codes_in}
use Rattle.es_code_members.specs.MembersView.{items_in}
use Rattle.es_code_members.proofs.codes.add_codes_of_items.Given as goal

abbrev pub invariant-loop-item : goal.invariant-loop-item
invariant-loop-item l = joined (codes_of l.codes) (codes_in (items_in (drop l.item-index l.items))) ≡ joined (codes_of l.fn.codes) (codes_in (items_in l.fn.items))
