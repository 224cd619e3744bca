-- What of `super` may stand where, by the kind of a node.
use Rattle.std.proofs.Common.{◌≡◌, refl, sym, ap, ◌∙◌, ℕ, suc, ◌+◌, ◌<◌, List, length, drop, get_or, Bool, false, cond, ◌&&◌, ◌||◌, arith, ◌⊎◌, inl, inr}
use Rattle.std.proofs.lemmas.List.{at_drop_more}
use Rattle.std.specs.Prelude.{nat_eq}
use Rattle.es_base.specs.Tree.{Tree, Parts, Node, end, more}
use Rattle.es_base.specs.declared.kind.Kind.{Kind}
use Rattle.es_lowered.specs.Supers.{SuperPlace, has_stray_super, in_class, in_element, in_method, in_no_method, is_stray_super, stray_super_at, stray_super_in, super_inside}
use Rattle.es_node.specs.View.{kind_of, part_of, parts_in, parts_of}
use Rattle.es_node.specs.declared.node.Part as code
use Rattle.es_steps.specs.Context.{is_constructor}
use Rattle.es_steps.specs.Parts.{at, is_present, string_of}
use Rattle.es_owed_places.specs.SuperPlaces.{in_function, is_method_property, place_within, stray_super_from}

pub within_method : (x : SuperPlace) (t : Tree) (i : ℕ) → kind_of t ≡ Kind.MethodDefinition → place_within x t i ≡ cond (nat_eq i 1) (in_method (is_constructor (string_of (at 2 (parts_in t))) && x.has_heritage) x) (in_no_method x)
within_method x (Node Kind.MethodDefinition m span semantic_id ps) i is = refl
within_method x (Node kind m span semantic_id ps) i is = absurd (cc)

pub within_property : (x : SuperPlace) (t : Tree) (i : ℕ) → kind_of t ≡ Kind.Property → place_within x t i ≡ cond (nat_eq i 1 && is_method_property (parts_in t)) (in_method false x) (in_no_method x)
within_property x (Node Kind.Property m span semantic_id ps) i is = refl
within_property x (Node kind m span semantic_id ps) i is = absurd (cc)

pub within_field : (x : SuperPlace) (t : Tree) (i : ℕ) → kind_of t ≡ Kind.PropertyDefinition → place_within x t i ≡ cond (nat_eq i 1) (in_element x) (in_no_method x)
within_field x (Node Kind.PropertyDefinition m span semantic_id ps) i is = refl
within_field x (Node kind m span semantic_id ps) i is = absurd (cc)

pub within_block : (x : SuperPlace) (t : Tree) (i : ℕ) → kind_of t ≡ Kind.StaticBlock → place_within x t i ≡ in_element x
within_block x (Node Kind.StaticBlock m span semantic_id ps) i is = refl
within_block x (Node kind m span semantic_id ps) i is = absurd (cc)

pub within_class : (x : SuperPlace) (t : Tree) (i : ℕ) → (kind_of t ≡ Kind.ClassDeclaration) ⊎ (kind_of t ≡ Kind.ClassExpression) → place_within x t i ≡ cond (nat_eq i 2) (in_class (is_present (at 1 (parts_in t))) x) (in_no_method x)
within_class x (Node Kind.ClassDeclaration m span semantic_id ps) i is = refl
within_class x (Node Kind.ClassExpression m span semantic_id ps) i is = refl
within_class x (Node kind m span semantic_id ps) i (inl is) = absurd (cc)
within_class x (Node kind m span semantic_id ps) i (inr is) = absurd (cc)

pub within_function : (x : SuperPlace) (t : Tree) (i : ℕ) → (kind_of t ≡ Kind.FunctionDeclaration) ⊎ (kind_of t ≡ Kind.FunctionExpression) → place_within x t i ≡ in_function x
within_function x (Node Kind.FunctionDeclaration m span semantic_id ps) i is = refl
within_function x (Node Kind.FunctionExpression m span semantic_id ps) i is = refl
within_function x (Node kind m span semantic_id ps) i (inl is) = absurd (cc)
within_function x (Node kind m span semantic_id ps) i (inr is) = absurd (cc)

pub within_other : (x : SuperPlace) (t : Tree) (i : ℕ) → (kind_of t ≡ Kind.MethodDefinition → ⊥) → (kind_of t ≡ Kind.Property → ⊥) → (kind_of t ≡ Kind.PropertyDefinition → ⊥) → (kind_of t ≡ Kind.StaticBlock → ⊥) → (kind_of t ≡ Kind.ClassDeclaration → ⊥) → (kind_of t ≡ Kind.ClassExpression → ⊥) → (kind_of t ≡ Kind.FunctionDeclaration → ⊥) → (kind_of t ≡ Kind.FunctionExpression → ⊥) → place_within x t i ≡ in_no_method x
within_other x (Node Kind.MethodDefinition m span semantic_id ps) i a b c d e f g h = absurd (a refl)
within_other x (Node Kind.Property m span semantic_id ps) i a b c d e f g h = absurd (b refl)
within_other x (Node Kind.PropertyDefinition m span semantic_id ps) i a b c d e f g h = absurd (c refl)
within_other x (Node Kind.StaticBlock m span semantic_id ps) i a b c d e f g h = absurd (d refl)
within_other x (Node Kind.ClassDeclaration m span semantic_id ps) i a b c d e f g h = absurd (e refl)
within_other x (Node Kind.ClassExpression m span semantic_id ps) i a b c d e f g h = absurd (f refl)
within_other x (Node Kind.FunctionDeclaration m span semantic_id ps) i a b c d e f g h = absurd (g refl)
within_other x (Node Kind.FunctionExpression m span semantic_id ps) i a b c d e f g h = absurd (h refl)
within_other x (Node kind m span semantic_id ps) i a b c d e f g h = refl

-- ---- node by node

pub no_stray : (x : SuperPlace) (kind : Kind) (ps : Parts) → (kind ≡ Kind.CallExpression → ⊥) → (kind ≡ Kind.MemberExpression → ⊥) → is_stray_super x kind ps ≡ false
no_stray x Kind.CallExpression ps a b = absurd (a refl)
no_stray x Kind.MemberExpression ps a b = absurd (b refl)
no_stray x kind ps a b = refl

from_place : (x y : ℕ → SuperPlace) (i : ℕ) (ps : Parts) → ((k : ℕ) → x k ≡ y (i + k)) → stray_super_in x ps ≡ stray_super_from y i ps
from_place x y i end same = refl
from_place x y i (more p ps) same =
    ap (λ (z : SuperPlace). stray_super_at z p || stray_super_in (λ k. x (suc k)) ps) (same 0 ∙ ap y (at_once i))
    ∙ ap (λ (b : Bool). stray_super_at (y i) p || b) (from_place (λ k. x (suc k)) y (i + 1) ps (λ k. same (suc k) ∙ ap y (one_on i k)))
  where
    at_once : (i : ℕ) → i + 0 ≡ i
    at_once i = omega arith

    one_on : (i k : ℕ) → i + suc k ≡ (i + 1) + k
    one_on i k = omega arith

from_zero : (k : ℕ) → k ≡ 0 + k
from_zero k = omega arith

pub stray_node : (x : SuperPlace) (t : Tree) → has_stray_super x t ≡ (is_stray_super x (kind_of t) (parts_in t) || stray_super_from (place_within x t) 0 (parts_in t))
stray_node x (Node kind m span semantic_id ps) =
    ap (λ b. is_stray_super x kind ps || b) (from_place (super_inside x kind ps) (super_inside x kind ps) 0 ps (λ k. ap (super_inside x kind ps) (from_zero k)))

pub next_part : (within : ℕ → SuperPlace) (xs : List code.Part) (i : ℕ) (x : code.Part) → i < length xs → x ≡ get_or xs i x
    → stray_super_from within i (parts_of (drop i xs)) ≡ (stray_super_at (within i) (part_of x) || stray_super_from within (i + 1) (parts_of (drop (i + 1) xs)))
next_part within xs i x below is =
    at_drop_more (λ (ys : List code.Part). stray_super_from within i (parts_of ys)) xs i x below
    ∙ ap (λ (y : code.Part). stray_super_at (within i) (part_of y) || stray_super_from within (i + 1) (parts_of (drop (i + 1) xs))) (sym is)
