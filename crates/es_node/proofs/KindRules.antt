-- What the rules of a node say of its kind and its parts alone.
use Rattle.std.proofs.Common.{◌≡◌, refl, sym, ap, ◌∙◌, ℕ, ◌+◌, List, [], ◌∷◌, length, nat_eq, Bool, true, ◌&&◌, Option, None, arith}
use Rattle.std.specs.Prelude.{codes}
use Rattle.es_base.specs.Tree.{Tree, Part, Parts, Node, child, absent, list, more, end, trees}
use Rattle.es_base.specs.Table.{members_of, stands_in}
use Rattle.es_base.specs.Conforms.{conforms, parts_conform, place_rule, kind_rule, boolean_at, is_rest, is_pattern_child, local_rule, item_count}
use Rattle.es_base.specs.declared.kind.Kind.{Kind}
use Rattle.es_base.specs.declared.table.Place.{Place}
use Rattle.es_node.specs.View.{kind_of, number_in, span_in, semantic_id_in, parts_in}

pub conforms_node : (place : Place) (t : Tree) → conforms place t ≡ (stands_in place (kind_of t) && (place_rule place (kind_of t) (parts_in t) && (kind_rule (kind_of t) (parts_in t) && parts_conform (boolean_at (codes "computed") (members_of (kind_of t)) (parts_in t)) (members_of (kind_of t)) (parts_in t))))
conforms_node place (Node kind id span semantic_id ps) = refl

-- a node of this kind, with these parts
abbrev of_kind : Kind → Parts → Part
of_kind kind ps = child (Node kind 0 None None ps)

pub is_rest_kind : (t : Tree) → is_rest (child t) ≡ is_rest (of_kind (kind_of t) end)
is_rest_kind (Node Kind.RestElement id span semantic_id ps) = refl
is_rest_kind (Node Kind.AssignmentTargetRest id span semantic_id ps) = refl
is_rest_kind (Node kind id span semantic_id ps) = refl

pub is_pattern_kind : (t : Tree) → is_pattern_child (child t) ≡ is_pattern_child (of_kind (kind_of t) end)
is_pattern_kind (Node Kind.ObjectAssignmentTarget id span semantic_id ps) = refl
is_pattern_kind (Node Kind.ArrayAssignmentTarget id span semantic_id ps) = refl
is_pattern_kind (Node kind id span semantic_id ps) = refl

-- what an export with this source asks of the local name of a specifier
abbrev pub local_name_rule : Tree → Part → Bool
local_name_rule local source = local_rule (of_kind Kind.ExportSpecifier (more (child local) end)) source

pub no_specifier : (t : Tree) (source : Part) → (kind_of t ≡ Kind.ExportSpecifier → ⊥) → local_rule (child t) source ≡ true
no_specifier (Node Kind.ExportSpecifier id span semantic_id ps) source other = absurd (other refl)
no_specifier (Node kind id span semantic_id ps) source other = refl

name_alone : (id : ℕ) (span : Option (ℕ × ℕ)) (semantic_id : Option ℕ) (l : Tree) (rest : Parts) (source : Part) → local_rule (child (Node Kind.ExportSpecifier id span semantic_id (more (child l) rest))) source ≡ local_name_rule l source
name_alone id span semantic_id (Node Kind.IdentifierReference i s m ps) rest absent = refl
name_alone id span semantic_id (Node Kind.IdentifierReference i s m ps) rest source = refl
name_alone id span semantic_id (Node Kind.IdentifierName i s m ps) rest absent = refl
name_alone id span semantic_id (Node Kind.IdentifierName i s m ps) rest source = refl
name_alone id span semantic_id (Node kind i s m ps) rest source = refl

pub specifier_is : (t l : Tree) (p : Part) (rest : Parts) (source : Part) → kind_of t ≡ Kind.ExportSpecifier → parts_in t ≡ more p rest → p ≡ child l → local_name_rule l source ≡ local_rule (child t) source
specifier_is (Node kind id span semantic_id ps) l p rest source is_kind are is =
    sym (ap (λ k. local_rule (child (Node k id span semantic_id ps)) source) is_kind
    ∙ ap (λ qs. local_rule (child (Node Kind.ExportSpecifier id span semantic_id qs)) source) (are ∙ ap (λ q. more q rest) is)
    ∙ name_alone id span semantic_id l rest source)

pub local_is : (t : Tree) (source : Part) → local_name_rule t source ≡ local_name_rule (Node (kind_of t) (number_in t) (span_in t) (semantic_id_in t) (parts_in t)) source
local_is (Node kind id span semantic_id ps) source = refl

item_count_trees : (ts : List Tree) → item_count (trees ts) ≡ length ts
item_count_trees [] = refl
item_count_trees (t ∷ ts) = omega (arith, item_count_trees ts)

-- a template has one string more than expressions
pub template_is : (q e : Part) (qs es : List Tree) → q ≡ list (trees qs) → e ≡ list (trees es) → nat_eq (length qs) (length es + 1) ≡ kind_rule Kind.TemplateLiteral (more q (more e end))
template_is q e qs es q_is e_is =
    ap (λ n. nat_eq n (length es + 1)) (sym (item_count_trees qs)) ∙ ap (λ n. nat_eq (item_count (trees qs)) (n + 1)) (sym (item_count_trees es))
    ∙ ap (λ p. kind_rule Kind.TemplateLiteral (more p (more (list (trees es)) end))) (sym q_is)
    ∙ ap (λ p. kind_rule Kind.TemplateLiteral (more q (more p end))) (sym e_is)
