use Rattle.std.proofs.Common.{◌≡◌, ◌++◌, drop}
use Rattle.es_codes.specs.View.{details_of}
use Rattle.es_steps.specs.Members.{details}
use Rattle.es_code_members.specs.MembersView.{items_in}
use Rattle.es_code_members.proofs.details.add_details_of_items.Given as goal

abbrev pub invariant-loop-item : goal.invariant-loop-item
invariant-loop-item l = details_of l.details ++ details (items_in (drop l.item-index l.items)) ≡ details_of l.fn.details ++ details (items_in l.items)
