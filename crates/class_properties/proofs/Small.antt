-- A program of the first form is small enough to be lowered.
use Rattle.std.proofs.Common.{◌≡◌, refl, ℕ, ◌+◌, ◌*◌, ◌<◌, ◌≤◌, ◌^◌, arith, List, [], ◌++◌, Bool, true, false, ◌&&◌}
use Rattle.std.specs.Prelude.{bytes_eq, codes, nat_le}
use Rattle.std.proofs.lemmas.Bool.{and_parts, leb-true}
use Rattle.es_base.proofs.PreorderLemmas.{news-le}
use Rattle.es_base.specs.Preorder.{nodes, news}
use Rattle.es_base.specs.Tree.{Tree, Node}
use Rattle.es_steps.specs.FirstForm.{is_first_form, most_nodes, no_numbers, statements_breaches, class_names, unless}
use Rattle.es_steps.specs.Parts.{at, items, string_of}
use Rattle.class_properties.proofs.Children.{program-nodes}
use Rattle.class_properties.specs.Lowering.{with_constructors}

holds : (b : Bool) (m : ℕ) (rest foreign : List ℕ) → no_numbers (unless b m ++ rest ++ foreign) ≡ true → b ≡ true
holds true m rest foreign none = refl
holds false m rest foreign none = none

pub form-fits : (t : Tree) (foreign : List ℕ) → is_first_form t foreign ≡ true → nodes t ≤ most_nodes
form-fits (Node kind m span semantic_id ps) foreign form =
    let small = holds (bytes_eq (string_of (at 0 ps)) (codes "script") && nat_le (nodes (Node kind m span semantic_id ps)) most_nodes) m (statements_breaches [] (class_names (items (at 1 ps))) (items (at 1 ps))) foreign form in
    leb-true (nodes (Node kind m span semantic_id ps)) most_nodes (and_parts _ _ small).1

-- nor does it weigh more than there are numbers
pub form_light : (t : Tree) → is_first_form t [] ≡ true → 14 * nodes t < 2 ^ 32
form_light t form = omega (arith, form-fits t [] form)

pub form_small : (t : Tree) → is_first_form t [] ≡ true → nodes t < 2 ^ 32
form_small t form = omega (arith, form-fits t [] form)

-- nor has what it is lowered to more nodes than there are numbers
pub lowered_small : (t : Tree) → is_first_form t [] ≡ true → nodes t + news (nodes t) (with_constructors t) < 2 ^ 32
lowered_small t form = omega (arith, form-fits t [] form, news-le (nodes t) (with_constructors t), program-nodes t)
