-- Values of fields, node by node.
use Rattle.std.proofs.Common.{◌≡◌, refl, sym, ap, ◌∙◌, ℕ, List, [], ◌∷◌, Bool, true, false, ◌&&◌, ◌||◌, bytes_eq, Option, None}
use Rattle.std.specs.List.{list_any}
use Rattle.std.specs.Prelude.{codes, nat_eq, not}
use Rattle.es_base.specs.Preorder.{number_of, preorder}
use Rattle.es_base.specs.Tree.{Tree, Part, Node, end, more, child, literal, string}
use Rattle.es_base.specs.declared.kind.Kind.{Kind}
use Rattle.es_base.specs.declared.literal.LiteralValue.{LiteralValue}
use Rattle.es_base.specs.declared.literal.LiteralValue.TheVariants as literal_value
use Rattle.es_lowered.specs.Definitions.{is_followed, is_void_zero, nodes_in, number_stands, value_fits}
use Rattle.es_node.specs.View.{kind_of, number_in}
use Rattle.es_owed_definitions.specs.Values.{is_zero}
use Rattle.es_steps.specs.KeptNodes.{stands_equal}
use Rattle.es_steps.specs.SameTrees.{same_tree}
use Rattle.es_steps.specs.Values.{String}

pub literal_fits : (t : Tree) (v : Part) → kind_of t ≡ Kind.Literal → value_fits (child t) v ≡ stands_equal t (nodes_in v)
literal_fits (Node kind m span semantic_id ps) v is = ap (λ (k : Kind). value_fits (child (Node k m span semantic_id ps)) v) is ∙ ap (λ (k : Kind). stands_equal (Node k m span semantic_id ps) (nodes_in v)) (sym is)

pub other_fits : (t : Tree) (v : Part) → (kind_of t ≡ Kind.Literal → ⊥) → value_fits (child t) v ≡ (not (is_followed (kind_of t)) || number_stands (number_in t) (nodes_in v))
other_fits (Node Kind.Literal m span semantic_id ps) v other = absurd (other refl)
other_fits (Node kind m span semantic_id ps) v other = refl

-- ---- `void 0`

and_none : (a : Bool) → false ≡ (a && false)
and_none true = refl
and_none false = refl

pub void_node : (m : ℕ) (span : Option (ℕ × ℕ)) (semantic_id : Option ℕ) (s : String) (t : Tree) → is_void_zero (child (Node Kind.UnaryExpression m span semantic_id (more (string s) (more (child t) end)))) ≡ (bytes_eq s (codes "void") && is_zero t)
void_node m span semantic_id s (Node Kind.Literal k kspan k_semantic_id (more (literal (literal_value.Number raw)) end)) = refl
void_node m span semantic_id s t = and_none (bytes_eq s (codes "void"))

pub no_void : (t : Tree) → (kind_of t ≡ Kind.UnaryExpression → ⊥) → is_void_zero (child t) ≡ false
no_void (Node Kind.UnaryExpression m span semantic_id ps) other = absurd (other refl)
no_void (Node kind m span semantic_id ps) other = refl

pub zero_node : (m : ℕ) (span : Option (ℕ × ℕ)) (semantic_id : Option ℕ) (v : LiteralValue) → is_zero (Node Kind.Literal m span semantic_id (more (literal v) end)) ≡ is_zero (Node Kind.Literal 0 None None (more (literal v) end))
zero_node m span semantic_id (literal_value.Number raw) = refl
zero_node m span semantic_id v = refl

pub no_zero : (t : Tree) → (kind_of t ≡ Kind.Literal → ⊥) → is_zero t ≡ false
no_zero (Node Kind.Literal m span semantic_id ps) other = absurd (other refl)
no_zero (Node kind m span semantic_id ps) other = refl

-- ---- nodes in a value

equal_among : (t : Tree) (us : List Tree) → list_any (λ u. same_tree t u) us ≡ stands_equal t us
equal_among t [] = refl
equal_among t (u ∷ us) = ap (λ b. same_tree t u || b) (equal_among t us)

pub any_equal : (t u : Tree) → list_any (λ x. same_tree t x) (preorder u) ≡ stands_equal t (nodes_in (child u))
any_equal t u = equal_among t (preorder u)

number_among : (m : ℕ) (us : List Tree) → list_any (λ u. nat_eq m (number_of u)) us ≡ number_stands m us
number_among m [] = refl
number_among m (u ∷ us) = ap (λ b. nat_eq m (number_of u) || b) (number_among m us)

pub any_number : (m : ℕ) (u : Tree) → list_any (λ x. nat_eq m (number_of x)) (preorder u) ≡ number_stands m (nodes_in (child u))
any_number m u = number_among m (preorder u)
