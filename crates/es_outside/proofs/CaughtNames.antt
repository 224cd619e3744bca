-- The names that a catch declares twice.
use Rattle.std.proofs.Common.{◌≡◌, refl, sym, ap, ◌∙◌, ℕ, ◌+◌, ◌<◌, length, drop, get_or, List, [], ◌++◌, Bool, ◌||◌, Bor}
use Rattle.std.proofs.Math.Bool.{or_assoc}
use Rattle.std.proofs.lemmas.List.{at_drop_more}
use Rattle.es_base.specs.Tree.{Tree, Part, Node}
use Rattle.es_base.specs.declared.kind.Kind.{Kind}
use Rattle.es_binding_faults.proofs.HasNumbers.{has_number-append}
use Rattle.es_binding_faults.proofs.Hoisting.{var-part}
use Rattle.es_binding_faults.proofs.Plain.{plain-append, plain-bound_part}
use Rattle.es_binding_faults.specs.Hoisted.{hoisted_part}
use Rattle.es_binding_faults.specs.Named.{plain}
use Rattle.es_binding_faults.specs.Seen.{seen}
use Rattle.es_binding_faults.specs.declared.hoisted.Hoist.{Hoist}
use Rattle.es_node.specs.View.{kind_of, parts_in}
use Rattle.es_steps.specs.Parts.{at}
use Rattle.es_steps.specs.References.{repeated, caught_again, caught_again_in, has_number}
use Rattle.es_steps.specs.Scopes.{Declaration, no_class, bound_part, var_part}
use Rattle.es_outside.proofs.DeclaredNames.{plain_repeated}

pub in_catch : (t : Tree) → kind_of t ≡ Kind.CatchClause → caught_again t ≡ repeated (bound_part no_class (at 0 (parts_in t)) ++ var_part (at 1 (parts_in t)))
in_catch (Node Kind.CatchClause m span semantic_id ps) is = refl
in_catch (Node kind m span semantic_id ps) is = absurd (cc)

pub no_catch : (t : Tree) → (kind_of t ≡ Kind.CatchClause → ⊥) → caught_again t ≡ []
no_catch (Node Kind.CatchClause m span semantic_id ps) other = absurd (other refl)
no_catch (Node kind m span semantic_id ps) other = refl

-- without the classes that names may name
pub repeated_names : (p q : Part) → repeated (bound_part no_class p ++ hoisted_part Hoist.Var q) ≡ repeated (bound_part no_class p ++ var_part q)
repeated_names p q =
    ap (λ (ds : List Declaration). repeated (bound_part no_class p ++ ds)) (sym (var-part q))
    ∙ ap (λ (ds : List Declaration). repeated (ds ++ plain (var_part q))) (sym (plain-bound_part no_class p))
    ∙ ap repeated (sym (plain-append (bound_part no_class p) (var_part q)))
    ∙ plain_repeated (bound_part no_class p ++ var_part q)

-- the node at a place of a list
pub next_catch : (n : ℕ) (a b : Bool) (ns : List (Bor Tree)) (i : ℕ) (t : Bor Tree) → i < length ns → t ≡ get_or ns i t → b ≡ (a || has_number n (caught_again t.now))
    → (b || has_number n (caught_again_in (seen (drop (i + 1) ns)))) ≡ (a || has_number n (caught_again_in (seen (drop i ns))))
next_catch n a b ns i t below is more =
    let rest = caught_again_in (seen (drop (i + 1) ns)) in
    ap (λ c. c || has_number n rest) more
    ∙ or_assoc a (has_number n (caught_again t.now)) (has_number n rest)
    ∙ ap (λ c. a || c) (sym (has_number-append n (caught_again t.now) rest))
    ∙ ap (λ (u : Bor Tree). a || has_number n (caught_again u.now ++ rest)) is
    ∙ sym (at_drop_more (λ (xs : List (Bor Tree)). a || has_number n (caught_again_in (seen xs))) ns i t below)
