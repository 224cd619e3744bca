-- Names of functions in blocks, one by one.
use Rattle.std.proofs.Common.{◌≡◌, refl, sym, ap, ◌∙◌, ℕ, ◌+◌, ◌<◌, ◌≤◌, List, ◌∷◌, length, drop, get_or, Bool, false, ◌||◌, bytes_eq, Bor}
use Rattle.std.proofs.lemmas.List.{at_drop_more, at_drop_all}
use Rattle.std.proofs.Math.Bool.{or-false, or_assoc, or_comm}
use Rattle.std.specs.Str.{chars}
use Rattle.es_base.specs.Conforms.{is_among}
use Rattle.es_base.specs.Tree.{Tree, Node}
use Rattle.es_node.specs.View.{kind_of, parts_in}
use Rattle.es_outside.specs.InnerFunctions.{texts}
use Rattle.es_steps.specs.References.{gives_inside, inner_functions}
use Rattle.es_steps.specs.Values.{String}
use Rattle.es_owed_places.specs.InnerNames.{gives_name}

pub name_node : (s : String) (t : Tree) → gives_name s t ≡ is_among s (inner_functions false (kind_of t) (parts_in t))
name_node s (Node kind m span semantic_id ps) = refl

pub given_more : (s : String) (t : Tree) (ts : List Tree) → gives_inside s (t ∷ ts) ≡ (gives_name s t || gives_inside s ts)
given_more s (Node kind m span semantic_id ps) ts = refl

pub next_text : (s : String) (a b : Bool) (xs : List (Bor (List ℕ))) (i : ℕ) (d : Bor (List ℕ)) → i < length xs → b ≡ (bytes_eq (chars (get_or xs i d).now) s || a)
    → (b || is_among s (texts (drop (i + 1) xs))) ≡ (a || is_among s (texts (drop i xs)))
next_text s a b xs i d below more =
    let rest = is_among s (texts (drop (i + 1) xs)) in
    ap (λ x. x || rest) more
    ∙ ap (λ x. x || rest) (or_comm (bytes_eq (chars (get_or xs i d).now) s) a)
    ∙ or_assoc a (bytes_eq (chars (get_or xs i d).now) s) rest
    ∙ sym (at_drop_more (λ (ys : List (Bor (List ℕ))). a || is_among s (texts ys)) xs i d below)

pub all_texts : (s : String) (a b : Bool) (xs : List (Bor (List ℕ))) (i : ℕ) → length xs ≤ i → (a || is_among s (texts (drop i xs))) ≡ b → a ≡ b
all_texts s a b xs i over e = sym (or-false a) ∙ sym (at_drop_all (λ (ys : List (Bor (List ℕ))). a || is_among s (texts ys)) xs i over) ∙ e
