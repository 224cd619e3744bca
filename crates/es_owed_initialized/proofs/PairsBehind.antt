-- Assignments behind declarations of classes, statement by statement.
use Rattle.std.proofs.Common.{◌≡◌, refl, sym, ap, ◌∙◌, ℕ, ◌+◌, ◌<◌, List, [], ◌∷◌, ◌++◌, append_assoc, length, drop, get_or, cond, ◌&&◌, ◌||◌, Option, Some, None}
use Rattle.std.proofs.lemmas.List.{at_drop_more}
use Rattle.std.specs.Prelude.{nat_eq}
use Rattle.es_base.specs.Tree.{Tree, Parts, Node, end, more, child, trees}
use Rattle.es_base.specs.declared.kind.Kind.{Kind}
use Rattle.es_grouped.specs.Groups.{having}
use Rattle.es_node.specs.View.{kind_of, number_in, parts_in}
use Rattle.es_owed_initialized.proofs.DeclaredClasses.{has_one}
use Rattle.es_owed_initialized.specs.Behind.{is_assignment, pairs_from, pairs_with}
use Rattle.es_steps.specs.KeptNodes.{declared_classes, statement_list}
use Rattle.es_steps.specs.References.{has_number}
use Rattle.es_lowered.specs.Lowered.{all_behind, assignment_number, class_number_in, has_pair, pairs_behind}

pub more_lists : (t : Tree) (ts : List Tree) → all_behind (t ∷ ts) ≡ pairs_behind (statement_list (kind_of t) (parts_in t)) ++ all_behind ts
more_lists (Node kind k span semantic_id ps) ts = refl

-- ---- of a list

pub next_pair : (before : Option Tree) (t : Tree) (ps : Parts) → pairs_from before (more (child t) ps) ≡ pairs_with before t ++ pairs_from (Some t) ps
next_pair None t ps = refl
next_pair (Some p) t ps = refl

pub last_pair : (before : Option Tree) → pairs_from before end ≡ []
last_pair None = refl
last_pair (Some p) = refl

pub class_numbers : (t : Tree) → class_number_in (child t) ≡ declared_classes (child t)
class_numbers (Node Kind.ClassDeclaration n span semantic_id ps) = refl
class_numbers (Node Kind.ExportNamedDeclaration m span semantic_id (more (child (Node Kind.ClassDeclaration n nspan n_semantic_id ps)) rest)) = refl
class_numbers (Node Kind.ExportDefaultDeclaration m span semantic_id (more (child (Node Kind.ClassDeclaration n nspan n_semantic_id ps)) rest)) = refl
class_numbers t = refl

-- those of one more statement
pub pairs_more : (before : Option Tree) (ts : List Tree) (i : ℕ) (t : Tree) (old new all : List (ℕ × ℕ)) → i < length ts → t ≡ get_or ts i t → new ≡ old ++ pairs_with before t → old ++ pairs_from before (trees (drop i ts)) ≡ all → new ++ pairs_from (Some t) (trees (drop (i + 1) ts)) ≡ all
pairs_more before ts i t old new all below is joined h =
    let behind = drop (i + 1) ts in
    let rest = pairs_from (Some t) (trees behind) in
    ap (λ (xs : List (ℕ × ℕ)). xs ++ rest) joined
    ∙ append_assoc old (pairs_with before t) rest
    ∙ ap (λ (xs : List (ℕ × ℕ)). old ++ xs) (sym (next_pair before t (trees behind)))
    ∙ ap (λ (u : Tree). old ++ pairs_from before (trees (u ∷ behind))) is
    ∙ ap (λ (xs : List (ℕ × ℕ)). old ++ xs) (sym (at_drop_more (λ (us : List Tree). pairs_from before (trees us)) ts i t below))
    ∙ h

-- ---- a statement

pub assigned : (m : ℕ) (span : Option (ℕ × ℕ)) (semantic_id : Option ℕ) (t : Tree) (directive : Parts) → assignment_number (child (Node Kind.ExpressionStatement m span semantic_id (more (child t) directive))) ≡ cond (is_assignment (kind_of t)) (number_in t ∷ []) []
assigned m span semantic_id (Node Kind.AssignmentExpression k kspan k_semantic_id ps) directive = refl
assigned m span semantic_id (Node kind k kspan k_semantic_id ps) directive = refl

pub unassigned : (t : Tree) → (kind_of t ≡ Kind.ExpressionStatement → ⊥) → assignment_number (child t) ≡ []
unassigned (Node Kind.ExpressionStatement m span semantic_id ps) other = absurd (other refl)
unassigned (Node kind m span semantic_id ps) other = refl

-- ---- the classes of an assignment

pub pair_by_number : (m n : ℕ) (ps : List (ℕ × ℕ)) → has_number n (having m ps) ≡ has_pair m n ps
pair_by_number m n [] = refl
pair_by_number m n (p ∷ ps) = has_one n p.1 (nat_eq m p.0) (having m ps) ∙ ap (λ b. (nat_eq m p.0 && nat_eq n p.1) || b) (pair_by_number m n ps)
