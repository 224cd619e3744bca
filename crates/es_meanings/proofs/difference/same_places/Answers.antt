use Rattle.std.proofs.Common.{sym, subst, ap₂, ◌∙◌}
use Rattle.std.specs.Prelude.{◌↔◌, IsTrue, nat_eq}
use Rattle.es_by_number.specs.Numbered.{pairs}
use Rattle.es_meanings.proofs.Alike.{placed_alike}
use Rattle.es_meanings.specs.Differences.{ArePlacedAlike}
use Rattle.es_steps.specs.SameMeanings.{same_list, same_numbered}
use Rattle.es_meanings.proofs.difference.same_places.Goals as goal

pub returns : goal.returns
returns c = λ a b m n.
    let shared = c.same_numbered-shared.ensures ∙ ap₂ (λ xs ys. same_list (same_numbered nat_eq) (pairs xs) (pairs ys)) c.as_slice.ensures.value c.as_slice-2.ensures.value in
    let places = c.same_numbered-places.ensures ∙ ap₂ (λ xs ys. same_list (same_numbered nat_eq) (pairs xs) (pairs ys)) c.as_slice-3.ensures.value c.as_slice-4.ensures.value in
    let branches = c.same_numbered-branches.ensures ∙ ap₂ (λ xs ys. same_list (same_numbered nat_eq) (pairs xs) (pairs ys)) c.as_slice-5.ensures.value c.as_slice-6.ensures.value in
    subst (λ t. IsTrue t ↔ ArePlacedAlike a b) (sym c.all.ensures) (placed_alike c.args.left.now c.args.right.now a b _ _ _ shared places branches m n)
