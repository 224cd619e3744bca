use Rattle.std.proofs.Common.{sym, ap, ◌∙◌, ℕ, List, [], false, ◌||◌}
use Rattle.std.specs.List.{list_all}
use Rattle.es_base.specs.Preorder.{preorder}
use Rattle.es_grouped.specs.Groups.{group}
use Rattle.es_lowered.specs.ClassNames.{all_stand_with_class, numbers_of_class}
use Rattle.es_lowered.specs.FunctionsAround.{PlacedReference, placed_references}
use Rattle.es_owed.specs.declared.listed.Listed.{Listed}
use Rattle.es_owed_places.specs.Placed.{references_of}
use Rattle.es_owed_class_names.proofs.NewNames.{same_inside}
use Rattle.es_owed_class_names.proofs.PlacedNumbers.{new_by_number}
use Rattle.es_steps.specs.References.{has_number}
use Rattle.es_owed_class_names.proofs.new_names.new_names_fit.Goals as goal

pub returns : goal.returns
returns c =
    let lowering = c.args.lowering.now in
    let first = lowering.first in
    let n = c.args.class in
    let names = c.args.names.now in
    let q = lowering.lowered.now.program.now in
    let numbers = numbers_of_class n (preorder lowering.source.now.program.now) in
    let inside = c.in_ok-inside.inside in
    let placed = placed_references first (λ k s. has_number k names) false [] q in
    c.all_stand_with_class.ensures
    ∙ ap (λ (l : Listed). list_all (λ k. all_stand_with_class n inside (preorder l.program.now) (references_of (group k lowering.placed))) names) lowering.holders_are
    ∙ ap (λ (of : ℕ → List PlacedReference). list_all (λ k. all_stand_with_class n inside (preorder q) (of k)) names) (λ i. λ k. lowering.placed_are k i)
    ∙ sym (new_by_number first n inside names (preorder q) q)
    ∙ same_inside n inside numbers (preorder q) placed (λ k. c.in_ok-inside.ensures k ∙ ap (has_number k) (c.as_slice.ensures.value ∙ c.in_ok-numbers.ensures))
    ∙ ap (λ b. b || all_stand_with_class n numbers (preorder q) placed) (sym c.if-is_none.false ∙ c.is_none.ensures)
