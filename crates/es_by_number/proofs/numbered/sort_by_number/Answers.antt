use Rattle.std.proofs.Common.{rules}
use Rattle.std.proofs.lemmas.List.Sorted.{answers_always, IsNonDecreasingBy-from_sort}
use Rattle.std.proofs.lemmas.Result.{on_ok_weaker}
use Rattle.es_by_number.proofs.Sorting.{sorted_pairs}
use Rattle.es_by_number.proofs.numbered.sort_by_number.Goals as goal

pub returns : goal.returns
returns g c =
    let keys = answers_always _ _ _ (λ f a r next called. search rules) in
    on_ok_weaker c.sort_by_key.result
    (λ sorted. sorted_pairs _ _ (IsNonDecreasingBy-from_sort (λ x. x.number) _ (sorted (λ x. x.number) keys)) (c.sort_by_key.ensures.stable (λ x. x.number) keys))
    c.sort_by_key.ensures.sorted
