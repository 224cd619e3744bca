-- Places, node by node.
use Rattle.std.proofs.Common.{◌≡◌, refl, ap, ◌∙◌, arith, ℕ, suc, ◌+◌, List, [], ◌∷◌, ◌++◌, Bool, cond, ◌&&◌, ◌||◌, Option, Some, None}
use Rattle.std.specs.Prelude.{nat_eq, not}
use Rattle.es_base.specs.Numbered.{is_new}
use Rattle.es_base.specs.Preorder.{number_of}
use Rattle.es_base.specs.Tree.{Tree, Parts, Node, end, more, child, nullable}
use Rattle.es_base.specs.declared.kind.Kind.{Kind}
use Rattle.es_base.specs.declared.ledger.LedgerEntry.{LedgerEntry}
use Rattle.es_node.specs.View.{kind_of, number_in, parts_in}
use Rattle.es_steps.specs.Context.{is_function}
use Rattle.es_steps.specs.Parts.{at, is_true, items}
use Rattle.es_steps.specs.PrivateNames.{is_class}
use Rattle.es_steps.specs.Repeated as spec
use Rattle.es_steps.specs.Repeated.{constructs_at, first_number, function_place, hoisted_in, in_var_at, is_arrow, is_loop, is_parameters_part, is_placed, loop_place, once_place, parameters_place, place_in}
use Rattle.es_steps.specs.Scopes.{is_binding_identifier}
use Rattle.es_steps.specs.Shapes.{is_any_function}
use Rattle.es_places.specs.Placing.{declaration_place, head_place, is_field, place_of, places, places_at, places_from, surroundings_within}
use Rattle.es_places.specs.declared.places.Terms.{Terms}

pub number_of_node : (t : Tree) → number_of t ≡ number_in t
number_of_node (Node kind m span semantic_id ps) = refl

-- ---- the walk

pub at_once : (i : ℕ) → i + 0 ≡ i
at_once i = omega arith

pub one_on : (i k : ℕ) → i + suc k ≡ (i + 1) + k
one_on i k = omega arith

pub from_zero : (k : ℕ) → k ≡ 0 + k
from_zero k = omega arith

from_place : (o : Terms) (s f : ℕ → spec.Surroundings) (i : ℕ) (ps : Parts) → ((k : ℕ) → f k ≡ s (i + k)) → spec.places_in o.first_new o.ledger.now o.private_functions.now f ps ≡ places_from o s i ps
from_place o s f i end same = refl
from_place o s f i (more p ps) same =
    ap (λ (x : spec.Surroundings). places_at o x p ++ spec.places_in o.first_new o.ledger.now o.private_functions.now (λ k. f (suc k)) ps) (same 0 ∙ ap s (at_once i))
    ∙ ap (λ (xs : List (ℕ × ℕ)). places_at o (s i) p ++ xs) (from_place o s (λ k. f (suc k)) (i + 1) ps (λ k. same (suc k) ∙ ap s (one_on i k)))

pub places_node : (o : Terms) (s : spec.Surroundings) (t : Tree) → places o s t ≡ place_of o s (kind_of t) (number_in t) ++ (head_place o s (kind_of t) (parts_in t) ++ places_from o (surroundings_within o.first_new o.ledger.now s t) 0 (parts_in t))
places_node o s (Node kind m span semantic_id ps) =
    ap (λ (xs : List (ℕ × ℕ)). place_of o s kind m ++ (head_place o s kind ps ++ xs)) (from_place o (spec.surroundings_in o.first_new o.ledger.now s kind m ps) (spec.surroundings_in o.first_new o.ledger.now s kind m ps) 0 ps (λ k. ap (spec.surroundings_in o.first_new o.ledger.now s kind m ps) (from_zero k)))

-- ---- the head of a `for`

pub head_of : (o : Terms) (s : spec.Surroundings) (kind : Kind) (ps : Parts) → kind ≡ Kind.ForStatement → head_place o s kind ps ≡ declaration_place o s (at 0 ps)
head_of o s kind ps is = ap (λ k. head_place o s k ps) is

pub no_head : (o : Terms) (s : spec.Surroundings) (kind : Kind) (ps : Parts) → (kind ≡ Kind.ForStatement → ⊥) → head_place o s kind ps ≡ []
no_head o s Kind.ForStatement ps other = absurd (other refl)
no_head o s kind ps other = refl

pub declared_place : (o : Terms) (s : spec.Surroundings) (t : Tree) → kind_of t ≡ Kind.VariableDeclaration → declaration_place o s (child t) ≡ cond (is_new o.first_new (number_in t)) [] ((number_in t, s.place) ∷ [])
declared_place o s (Node kind m span semantic_id ps) is = ap (λ k. declaration_place o s (child (Node k m span semantic_id ps))) is

pub not_declared : (o : Terms) (s : spec.Surroundings) (t : Tree) → (kind_of t ≡ Kind.VariableDeclaration → ⊥) → declaration_place o s (child t) ≡ []
not_declared o s (Node Kind.VariableDeclaration m span semantic_id ps) other = absurd (other refl)
not_declared o s (Node kind m span semantic_id ps) other = refl

-- ---- around a part

pub around_is : (first : ℕ) (ledger : List LedgerEntry) (s : spec.Surroundings) (t : Tree) (i place hoisted : ℕ) (in_var : Bool) (class : ℕ) (constructs : Option ℕ)
    → place ≡ place_in first s (kind_of t) (number_in t) (parts_in t) i
    → hoisted ≡ hoisted_in first s (kind_of t) (number_in t) (parts_in t) i
    → in_var ≡ in_var_at s.in_var (kind_of t) (parts_in t)
    → class ≡ cond (is_class (kind_of t) && nat_eq i 2) (number_in t) s.class
    → constructs ≡ constructs_at ledger s.class (kind_of t) (parts_in t) i
    → record { place = place; hoisted = hoisted; in_var = in_var; class = class; constructs = constructs } ≡ surroundings_within first ledger s t i
around_is first ledger s (Node kind m span semantic_id ps) i place hoisted in_var class constructs p h v n k = cc

-- functions and arrows
pub any_function : (kind : Kind) → is_any_function kind ≡ (is_function kind || is_arrow kind)
any_function Kind.FunctionDeclaration = refl
any_function Kind.FunctionExpression = refl
any_function Kind.ArrowFunctionExpression = refl
any_function kind = refl

pub placed_by_kind : (kind : Kind) → is_placed kind ≡ (is_any_function kind || (is_class kind || is_binding_identifier kind))
placed_by_kind Kind.FunctionDeclaration = refl
placed_by_kind Kind.FunctionExpression = refl
placed_by_kind Kind.ArrowFunctionExpression = refl
placed_by_kind kind = refl

pub place_by_kind : (first : ℕ) (s : spec.Surroundings) (kind : Kind) (m : ℕ) (ps : Parts) (i : ℕ) → place_in first s kind m ps i ≡ cond (is_field kind) (cond (nat_eq i 1 && not (is_true (at 3 ps))) s.class s.place) (cond (is_any_function kind) (parameters_place (is_parameters_part kind i) (items (at i ps)) (function_place (is_new first m) s.constructs m s.place)) (cond (is_loop kind) (loop_place kind m ps i s.place) s.place))
place_by_kind first s Kind.PropertyDefinition m ps i = refl
place_by_kind first s Kind.FunctionDeclaration m ps i = refl
place_by_kind first s Kind.FunctionExpression m ps i = refl
place_by_kind first s Kind.ArrowFunctionExpression m ps i = refl
place_by_kind first s kind m ps i = refl

pub first_child : (t : Tree) (ps : Parts) (place : ℕ) → first_number (more (child t) ps) place ≡ number_in t
first_child (Node kind m span semantic_id qs) ps place = refl

pub first_hole : (o : Option Tree) (ps : Parts) (place : ℕ) → first_number (more (nullable o) ps) place ≡ first_number (more (nullable o) end) place
first_hole None ps place = refl
first_hole (Some t) ps place = refl

pub other_loop : (kind : Kind) (m : ℕ) (ps : Parts) (i place : ℕ) → (kind ≡ Kind.ForStatement → ⊥) → (kind ≡ Kind.ForInStatement → ⊥) → (kind ≡ Kind.ForOfStatement → ⊥) → loop_place kind m ps i place ≡ m
other_loop Kind.ForStatement m ps i place a b c = absurd (a refl)
other_loop Kind.ForInStatement m ps i place a b c = absurd (b refl)
other_loop Kind.ForOfStatement m ps i place a b c = absurd (c refl)
other_loop kind m ps i place a b c = refl

pub no_declaration : (t : Tree) (place : ℕ) → (kind_of t ≡ Kind.VariableDeclaration → ⊥) → once_place (child t) place ≡ place
no_declaration (Node Kind.VariableDeclaration m span semantic_id ps) place other = absurd (other refl)
no_declaration (Node kind m span semantic_id ps) place other = refl

pub its_declaration : (t : Tree) (place : ℕ) → kind_of t ≡ Kind.VariableDeclaration → once_place (child t) place ≡ number_in t
its_declaration (Node kind m span semantic_id ps) place is = ap (λ k. once_place (child (Node k m span semantic_id ps)) place) is

pub no_variables : (in_var : Bool) (kind : Kind) (ps : Parts) → (kind ≡ Kind.VariableDeclaration → ⊥) → in_var_at in_var kind ps ≡ (in_var && not (is_any_function kind || is_class kind))
no_variables in_var Kind.VariableDeclaration ps other = absurd (other refl)
no_variables in_var Kind.FunctionDeclaration ps other = refl
no_variables in_var Kind.FunctionExpression ps other = refl
no_variables in_var Kind.ArrowFunctionExpression ps other = refl
no_variables in_var kind ps other = refl

pub no_construction : (ledger : List LedgerEntry) (n : ℕ) (kind : Kind) (ps : Parts) (i : ℕ) → (kind ≡ Kind.MethodDefinition → ⊥) → (kind ≡ Kind.AssignmentExpression → ⊥) → (kind ≡ Kind.VariableDeclarator → ⊥) → constructs_at ledger n kind ps i ≡ None
no_construction ledger n Kind.MethodDefinition ps i a b c = absurd (a refl)
no_construction ledger n Kind.AssignmentExpression ps i a b c = absurd (b refl)
no_construction ledger n Kind.VariableDeclarator ps i a b c = absurd (c refl)
no_construction ledger n kind ps i a b c = refl
