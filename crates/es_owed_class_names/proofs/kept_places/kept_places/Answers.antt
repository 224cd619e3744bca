use Rattle.std.proofs.Common.{◌≡◌, ap, ap₂, ◌∙◌, ℕ, List, ◌∷◌, Bool}
use Rattle.es_binding_faults.proofs.Appending.{IfOk-map}
use Rattle.es_grouped.specs.Groups.{group}
use Rattle.es_lowered.specs.ClassNames as spec
use Rattle.es_lowered.specs.ClassNames.{numbered}
use Rattle.es_lowered.specs.FunctionsAround.{PlacedReference}
use Rattle.es_lowered.specs.Timely.{Mark}
use Rattle.es_marks.specs.Located.{located, located_of}
use Rattle.es_marks.specs.Marks.{marks_of}
use Rattle.es_owed_places.specs.Placed.{references_of}
use Rattle.es_owed_class_names.proofs.KeptPlaces.{kept_there}
use Rattle.es_owed_class_names.specs.KeptPlaces.{kept}
use Rattle.es_owed_class_names.specs.LocatedMarks.{class_marks, is_behind_any, of_nodes}
use Rattle.es_owed_class_names.specs.NodeMarks.{node_marks}
use Rattle.es_owed_class_names.specs.PlacedNumbers.{all_placed}
use Rattle.es_owed_class_names.proofs.kept_places.kept_places.Goals as goal

pub returns : goal.returns
returns c =
    let lowering = c.args.lowering.now in
    let first = lowering.first in
    let n = c.args.class in
    let names = c.args.names.now in
    let numbers = c.args.numbers.now in
    let p = lowering.source.now.program.now in
    let q = lowering.lowered.now.program.now in
    let of : (ℕ → List PlacedReference) → (ℕ → List PlacedReference) → (ℕ → Bool) → (ℕ → Bool) → List ℕ = λ ps qs there found. kept first names ps qs there found numbers in
    let marks_there = marks_of lowering.source_marks.marks.now in
    let marks_found = marks_of lowering.marks.marks.now in
    let ps : ℕ → List PlacedReference = λ k. references_of (group k lowering.source_placed) in
    let qs : ℕ → List PlacedReference = λ k. references_of (group k lowering.placed) in
    let ps_are : ℕ → List PlacedReference = λ k. numbered k (all_placed first p) in
    let qs_are : ℕ → List PlacedReference = λ k. numbered k (all_placed first q) in
    let front : List Mark → List (ℕ × Mark) = λ ms. class_marks (of_nodes (n ∷ names) (located 0 ms)) in
    let there = c.in_ok-there.ensures ∙ ap₂ (λ ks ms. class_marks (of_nodes ks (located 0 ms))) (c.as_slice.ensures.value ∙ c.in_ok-asked.ensures) lowering.source_marks_are in
    let found = c.in_ok-found.ensures ∙ ap₂ (λ ks ms. class_marks (of_nodes ks (located 0 ms))) (c.as_slice-2.ensures.value ∙ c.in_ok-asked.ensures) lowering.marks_are in
    let behind_there : ℕ → Bool = is_behind_any (located_of c.in_ok-there.there.items) (located 0 marks_there) in
    let behind_found : ℕ → Bool = is_behind_any (located_of c.in_ok-found.found.items) (located 0 marks_found) in
    let there_is : ℕ → Bool = is_behind_any (front (node_marks first p)) (located 0 (node_marks first p)) in
    IfOk-map c.kept_among.result
    (λ r. r.items ≡ of ps qs behind_there behind_found)
    (λ r. r.items ≡ spec.kept_places first n p q names numbers)
    (λ r is.
    is
    ∙ ap (λ x. of x qs behind_there behind_found) (λ i. λ k. lowering.source_placed_are k i)
    ∙ ap (λ x. of ps_are x behind_there behind_found) (λ i. λ k. lowering.placed_are k i)
    ∙ ap (λ x. of ps_are qs_are x behind_found) (ap₂ (λ f ms. is_behind_any f (located 0 ms)) there lowering.source_marks_are)
    ∙ ap (λ x. of ps_are qs_are there_is x) (ap₂ (λ f ms. is_behind_any f (located 0 ms)) found lowering.marks_are)
    ∙ kept_there first n p q names numbers c.requires)
    c.kept_among.ensures
