-- Names of classes: a class without one, and one reference.
use Rattle.std.proofs.Common.{◌≡◌, refl, ap, sym, ◌∙◌, ℕ, suc, ◌+◌, ◌<◌, arith, length, drop, drop-cons, get_or, List, [], ◌∷◌, ◌++◌, Bool, true, false, cond, nat_eq, ◌&&◌, ◌||◌, Option, Some, None}
use Rattle.es_base.specs.Tree.{Tree, Part, Parts, Node, end, more, child, absent, list, string, no_string, boolean, literal, trees}
use Rattle.es_base.specs.declared.kind.Kind.{Kind}
use Rattle.es_node.specs.View.{kind_of, number_in, parts_in}
use Rattle.es_steps.specs.LoweredClasses.{Element, element_of, elements_in, referent_of}
use Rattle.es_steps.specs.References.{Reference}
use Rattle.es_steps.specs.Quiet.{id_number}
use Rattle.es_steps.specs.Shapes.{ClassAt, is_any_function, is_reference_node, refers_as, names_stand, names_stand_at, names_stand_in, named_in_keys}
use Rattle.es_steps.specs.Values.{Referent, Bound, Free}
use Rattle.es_shapes.specs.Names.{bound_number, refers_here, names_itself}

pub names_stand_node : (names : List ℕ) (references : List Reference) (t : Tree) → names_stand names references t ≡ cond (is_any_function (kind_of t)) false (refers_here names references t || names_stand_in names references (parts_in t))
names_stand_node names references (Node kind m span semantic_id ps) = refl

-- ---- without a name

no_reference : (r : Option Referent) → refers_as [] r ≡ false
no_reference None = refl
no_reference (Some (Bound b)) = refl
no_reference (Some (Free s)) = refl

none_here : (a f : Bool) (r : Option Referent) (b : Bool) → b ≡ false → cond f false ((a && refers_as [] r) || b) ≡ false
none_here a true r b e = refl
none_here true false r b e = ap (λ c. c || b) (no_reference r) ∙ e
none_here false false r b e = e

mutual
  none_stand : (references : List Reference) (t : Tree) → names_stand [] references t ≡ false
  none_stand references (Node kind m span semantic_id ps) = none_here (is_reference_node kind) (is_any_function kind) (referent_of m references) (names_stand_in [] references ps) (none_stand_in references ps)

  none_stand_at : (references : List Reference) (p : Part) → names_stand_at [] references p ≡ false
  none_stand_at references (child t) = none_stand references t
  none_stand_at references absent = refl
  none_stand_at references (list ps) = none_stand_in references ps
  none_stand_at references (string s) = refl
  none_stand_at references no_string = refl
  none_stand_at references (boolean b) = refl
  none_stand_at references (literal v) = refl

  none_stand_in : (references : List Reference) (ps : Parts) → names_stand_in [] references ps ≡ false
  none_stand_in references end = refl
  none_stand_in references (more p ps) = ap (λ b. b || names_stand_in [] references ps) (none_stand_at references p) ∙ none_stand_in references ps

none_in_keys : (references : List Reference) (es : List Element) → named_in_keys [] references es ≡ false
none_in_keys references [] = refl
none_in_keys references (e ∷ es) = ap (λ b. (e.computed && b) || named_in_keys [] references es) (none_stand_at references e.key) ∙ last e.computed (none_in_keys references es)
  where
    last : (b : Bool) → named_in_keys [] references es ≡ false → ((b && false) || named_in_keys [] references es) ≡ false
    last true rest = rest
    last false rest = rest

pub unnamed : (references : List Reference) (k : ClassAt) → k.id ≡ absent → names_itself references k ≡ false
unnamed references k is =
    ap (λ p. names_stand_at (id_number p) references k.heritage || named_in_keys (id_number p) references k.elements) is
    ∙ ap (λ b. b || named_in_keys [] references k.elements) (none_stand_at references k.heritage)
    ∙ none_in_keys references k.elements

pub number_of_id : (t : Tree) → id_number (child t) ≡ (number_in t ∷ [])
number_of_id (Node kind m span semantic_id ps) = refl

pub unnamed_class : (lowered : Bool) (references : List Reference) (k : ClassAt) → k.id ≡ absent → false ≡ (lowered && names_itself references k)
unnamed_class true references k is = sym (unnamed references k is)
unnamed_class false references k is = refl

-- ---- element by element

append-keys : (names : List ℕ) (references : List Reference) (es fs : List Element) → named_in_keys names references (es ++ fs) ≡ (named_in_keys names references es || named_in_keys names references fs)
append-keys names references [] fs = refl
append-keys names references (e ∷ es) fs = ap (λ b. (e.computed && names_stand_at names references e.key) || b) (append-keys names references es fs) ∙ or_or (e.computed && names_stand_at names references e.key)
  where
    or_or : (a : Bool) → (a || (named_in_keys names references es || named_in_keys names references fs)) ≡ ((a || named_in_keys names references es) || named_in_keys names references fs)
    or_or true = refl
    or_or false = refl

append_none : (es : List Element) → (es ++ []) ≡ es
append_none [] = refl
append_none (e ∷ es) = ap (λ fs. e ∷ fs) (append_none es)

pub named_in_first : (names : List ℕ) (references : List Reference) (t : Tree) (ts : List Tree) → named_in_keys names references (elements_in (trees (t ∷ ts))) ≡ (named_in_keys names references (elements_in (trees (t ∷ []))) || named_in_keys names references (elements_in (trees ts)))
named_in_first names references t ts =
    append-keys names references (element_of (child t)) (elements_in (trees ts))
    ∙ ap (λ es. named_in_keys names references es || named_in_keys names references (elements_in (trees ts))) (sym (append_none (element_of (child t))))

pub named_next : (names : List ℕ) (references : List Reference) (ts : List Tree) (i : ℕ) (t : Tree) → i < length ts → t ≡ get_or ts i t → (found : Bool) → found ≡ named_in_keys names references (elements_in (trees (t ∷ [])))
    → named_in_keys names references (elements_in (trees (drop i ts))) ≡ (found || named_in_keys names references (elements_in (trees (drop (i + 1) ts))))
named_next names references ts i t below is found e =
    let next : i + 1 ≡ suc i = omega arith in
    let split : drop i ts ≡ (t ∷ drop (i + 1) ts) = drop-cons ts i t below ∙ ap (λ u. u ∷ drop (suc i) ts) (sym is) ∙ ap (λ k. t ∷ drop k ts) (sym next) in
    ap (λ us. named_in_keys names references (elements_in (trees us))) split
    ∙ named_in_first names references t (drop (i + 1) ts)
    ∙ ap (λ b. b || named_in_keys names references (elements_in (trees (drop (i + 1) ts)))) (sym e)

-- ---- one reference

or_none : (b : Bool) → (b || false) ≡ b
or_none true = refl
or_none false = refl

abbrev is_this : ℕ → Option ℕ → Bool
is_this n None = false
is_this n (Some b) = nat_eq b n

one_name : (n : ℕ) (r : Option Referent) → refers_as (n ∷ []) r ≡ is_this n (bound_number r)
one_name n None = refl
one_name n (Some (Bound b)) = or_none (nat_eq b n)
one_name n (Some (Free s)) = refl

pub refers_to_one : (n : ℕ) (references : List Reference) (t : Tree) (b : Option ℕ) → kind_of t ≡ Kind.IdentifierReference → b ≡ bound_number (referent_of (number_in t) references) → refers_here (n ∷ []) references t ≡ is_this n b
refers_to_one n references (Node Kind.IdentifierReference m span semantic_id ps) b is e = one_name n (referent_of m references) ∙ ap (is_this n) (sym e)
refers_to_one n references (Node kind m span semantic_id ps) b is e = absurd (cc)

pub no_reference_here : (n : ℕ) (references : List Reference) (t : Tree) → (kind_of t ≡ Kind.IdentifierReference → ⊥) → refers_here (n ∷ []) references t ≡ false
no_reference_here n references (Node Kind.IdentifierReference m span semantic_id ps) other = absurd (other refl)
no_reference_here n references (Node kind m span semantic_id ps) other = refl
