-- Facts of a program, node by node.
use Rattle.std.proofs.Common.{◌≡◌, refl, ap, List, [], ◌∷◌, ◌++◌, false, cond, ◌&&◌, None}
use Rattle.std.specs.Prelude.{not}
use Rattle.es_base.specs.Preorder.{preorder_of_part}
use Rattle.es_base.specs.Tree.{Tree, Parts, Node, end, child}
use Rattle.es_base.specs.declared.kind.Kind.{Kind}
use Rattle.es_lowered.specs.DeadZones.{bound_numbers, class_names, is_private, private_updates, super_calls, updates_private, variables, variables_by}
use Rattle.es_lowered.specs.Definitions.{is_assignment}
use Rattle.es_lowered.specs.HelperCalls.{part_number}
use Rattle.es_node.specs.View.{kind_of, number_in, parts_in}
use Rattle.es_steps.specs.Context.{is_super_call}
use Rattle.es_steps.specs.Parts.{at}
use Rattle.es_steps.specs.PrivateNames.{is_class}
use Rattle.es_steps.specs.Scopes.{is_binding_identifier}

pub bound_more : (t : Tree) (ts : List Tree) → bound_numbers (t ∷ ts) ≡ cond (is_binding_identifier (kind_of t)) (number_in t ∷ []) [] ++ bound_numbers ts
bound_more (Node Kind.BindingIdentifier m span semantic_id ps) ts = refl
bound_more (Node kind m span semantic_id ps) ts = refl

pub variables_more : (t : Tree) (ts : List Tree) → variables (t ∷ ts) ≡ variables_by (kind_of t) (parts_in t) ++ variables ts
variables_more (Node kind m span semantic_id ps) ts = refl

pub bound_first : (kind : Kind) (ps : Parts) → kind ≡ Kind.VariableDeclarator → variables_by kind ps ≡ bound_numbers (preorder_of_part (at 0 ps))
bound_first kind ps is = ap (λ k. variables_by k ps) is

pub bound_catch : (kind : Kind) (ps : Parts) → kind ≡ Kind.CatchClause → variables_by kind ps ≡ bound_numbers (preorder_of_part (at 0 ps))
bound_catch kind ps is = ap (λ k. variables_by k ps) is

pub bound_arrow : (kind : Kind) (ps : Parts) → kind ≡ Kind.ArrowFunctionExpression → variables_by kind ps ≡ bound_numbers (preorder_of_part (at 0 ps))
bound_arrow kind ps is = ap (λ k. variables_by k ps) is

pub bound_function : (kind : Kind) (ps : Parts) → kind ≡ Kind.FunctionDeclaration → variables_by kind ps ≡ bound_numbers (preorder_of_part (at 1 ps))
bound_function kind ps is = ap (λ k. variables_by k ps) is

pub bound_expression : (kind : Kind) (ps : Parts) → kind ≡ Kind.FunctionExpression → variables_by kind ps ≡ bound_numbers (preorder_of_part (at 1 ps))
bound_expression kind ps is = ap (λ k. variables_by k ps) is

pub bound_none : (kind : Kind) (ps : Parts) → (kind ≡ Kind.VariableDeclarator → ⊥) → (kind ≡ Kind.CatchClause → ⊥) → (kind ≡ Kind.ArrowFunctionExpression → ⊥) → (kind ≡ Kind.FunctionDeclaration → ⊥) → (kind ≡ Kind.FunctionExpression → ⊥) → variables_by kind ps ≡ []
bound_none Kind.VariableDeclarator ps a b c d e = absurd (a refl)
bound_none Kind.CatchClause ps a b c d e = absurd (b refl)
bound_none Kind.ArrowFunctionExpression ps a b c d e = absurd (c refl)
bound_none Kind.FunctionDeclaration ps a b c d e = absurd (d refl)
bound_none Kind.FunctionExpression ps a b c d e = absurd (e refl)
bound_none kind ps a b c d e = refl

pub names_more : (t : Tree) (ts : List Tree) → class_names (t ∷ ts) ≡ cond (is_class (kind_of t)) (part_number (at 0 (parts_in t))) [] ++ class_names ts
names_more (Node kind m span semantic_id ps) ts = refl

pub supers_more : (t : Tree) (ts : List Tree) → super_calls (t ∷ ts) ≡ cond (is_super_call (kind_of t) (parts_in t)) (number_in t ∷ []) [] ++ super_calls ts
supers_more (Node kind m span semantic_id ps) ts = refl

pub updates_more : (t : Tree) (ts : List Tree) → private_updates (t ∷ ts) ≡ cond (updates_private (kind_of t) (parts_in t)) (number_in t ∷ []) [] ++ private_updates ts
updates_more (Node kind m span semantic_id ps) ts = refl

pub updates_by_assignment : (kind : Kind) (ps : Parts) → kind ≡ Kind.AssignmentExpression → updates_private kind ps ≡ (not (is_assignment ps) && is_private (at 1 ps))
updates_by_assignment kind ps is = ap (λ k. updates_private k ps) is

pub updates_by_update : (kind : Kind) (ps : Parts) → kind ≡ Kind.UpdateExpression → updates_private kind ps ≡ is_private (at 1 ps)
updates_by_update kind ps is = ap (λ k. updates_private k ps) is

pub updates_none : (kind : Kind) (ps : Parts) → (kind ≡ Kind.AssignmentExpression → ⊥) → (kind ≡ Kind.UpdateExpression → ⊥) → updates_private kind ps ≡ false
updates_none Kind.AssignmentExpression ps a b = absurd (a refl)
updates_none Kind.UpdateExpression ps a b = absurd (b refl)
updates_none kind ps a b = refl

pub private_node : (t : Tree) → is_private (child t) ≡ is_private (child (Node (kind_of t) 0 None None end))
private_node (Node Kind.PrivateField m span semantic_id ps) = refl
private_node (Node kind m span semantic_id ps) = refl
