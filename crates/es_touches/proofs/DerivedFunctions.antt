-- Constructors and arrows, node by node.
use Rattle.std.proofs.Common.{◌≡◌, refl, ap, ◌∙◌, ℕ, List, [], ◌∷◌, ◌++◌, cond, ◌&&◌, Option, Some, None}
use Rattle.std.proofs.Math.Bool.{or-false}
use Rattle.std.specs.Prelude.{nat_eq}
use Rattle.es_base.specs.Tree.{Tree, Part, Parts, Node, end, more, child, nullable}
use Rattle.es_lowered.specs.DeadZones.{arrows, arrows_at, arrows_in, arrows_of_body, arrows_of_keys, constructs, derived_arrows, derived_constructor, derived_constructors, static_arrows, value_arrows}
use Rattle.es_lowered.specs.HelperCalls.{is_class_body, part_number, runs_with_class}
use Rattle.es_node.specs.View.{kind_of, number_in, parts_in}
use Rattle.es_steps.specs.Context.{is_function}
use Rattle.es_steps.specs.LoweredClasses.{constructor_in}
use Rattle.es_steps.specs.NameScopes.{is_any_function}
use Rattle.es_steps.specs.Parts.{at}
use Rattle.es_steps.specs.PrivateNames.{is_class, is_element}
use Rattle.es_steps.specs.References.{has_number}
use Rattle.es_steps.specs.Repeated.{is_arrow}
use Rattle.es_touches.specs.Derived.{arrows_inside, arrows_of_key, arrows_of_key_hole}

pub constructors_more : (t : Tree) (ts : List Tree) → derived_constructors (t ∷ ts) ≡ derived_constructor (kind_of t) (parts_in t) ++ derived_constructors ts
constructors_more (Node kind m span semantic_id ps) ts = refl

pub one_number : (n m : ℕ) → has_number n (m ∷ []) ≡ nat_eq n m
one_number n m = or-false (nat_eq n m)

pub constructs_more : (k : ℕ) (t : Tree) (ts : List Tree) → constructs k (t ∷ ts) ≡ cond (is_class (kind_of t) && has_number k (part_number (constructor_in (at 2 (parts_in t))))) (number_in t ∷ []) (constructs k ts)
constructs_more k (Node kind n span semantic_id ps) ts = refl

pub arrows_more : (constructors : List ℕ) (t : Tree) (ts : List Tree) → derived_arrows constructors (t ∷ ts) ≡ cond (is_any_function (kind_of t) && has_number (number_in t) constructors) (arrows_in (parts_in t)) [] ++ derived_arrows constructors ts
arrows_more constructors (Node kind m span semantic_id ps) ts = refl

-- of the same functions
pub same_arrows : (ks ls : List ℕ) (ts : List Tree) → ((n : ℕ) → has_number n ks ≡ has_number n ls) → derived_arrows ks ts ≡ derived_arrows ls ts
same_arrows ks ls [] same = refl
same_arrows ks ls (Node kind m span semantic_id ps ∷ ts) same =
    ap (λ b. cond (is_any_function kind && b) (arrows_in ps) [] ++ derived_arrows ks ts) (same m)
    ∙ ap (λ (ns : List ℕ). cond (is_any_function kind && has_number m ls) (arrows_in ps) [] ++ ns) (same_arrows ks ls ts same)

pub statics_more : (t : Tree) (ts : List Tree) → static_arrows (t ∷ ts) ≡ cond (runs_with_class (child t)) (value_arrows (kind_of t) (parts_in t)) [] ++ static_arrows ts
statics_more (Node kind m span semantic_id ps) ts = refl

pub arrows_node : (t : Tree) → arrows t ≡ cond (is_arrow (kind_of t)) (number_in t ∷ []) [] ++ arrows_inside t
arrows_node (Node kind m span semantic_id ps) = refl

pub inside_node : (t : Tree) → arrows_inside t ≡ cond (is_class_body (kind_of t)) (arrows_of_body (parts_in t)) (cond (is_function (kind_of t)) [] (arrows_in (parts_in t)))
inside_node (Node kind m span semantic_id ps) = refl

pub keys_more : (t : Tree) (es : Parts) → arrows_of_keys (more (child t) es) ≡ arrows_of_key t ++ arrows_of_keys es
keys_more (Node kind m span semantic_id end) es = refl
keys_more (Node kind m span semantic_id (more k ps)) es = refl

pub keys_more_hole : (t : Option Tree) (es : Parts) → arrows_of_keys (more (nullable t) es) ≡ arrows_of_key_hole t ++ arrows_of_keys es
keys_more_hole None es = refl
keys_more_hole (Some t) es = keys_more t es

pub key_first : (t : Tree) (k : Part) (ps : Parts) → parts_in t ≡ more k ps → arrows_of_key t ≡ cond (is_element (kind_of t)) (arrows_at k) []
key_first (Node kind m span semantic_id qs) k ps is = ap (λ (rs : Parts). arrows_of_key (Node kind m span semantic_id rs)) is

pub key_none : (t : Tree) → parts_in t ≡ end → arrows_of_key t ≡ []
key_none (Node kind m span semantic_id qs) is = ap (λ (rs : Parts). arrows_of_key (Node kind m span semantic_id rs)) is
