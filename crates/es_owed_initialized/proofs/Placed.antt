-- What gives names their values stands among the nodes of a program.
use Rattle.std.proofs.Common.{◌≡◌, refl, ap, ◌∙◌, ℕ, List, [], ◌∷◌, ◌++◌, Bool, true, false, cond, not, ◌&&◌, ◌||◌, nat_eq, None}
use Rattle.es_base.specs.Preorder.{number_of, preorder}
use Rattle.es_base.specs.Tree.{Tree, Node, end}
use Rattle.es_base.specs.declared.kind.Kind.{Kind}
use Rattle.es_base.specs.declared.ledger.GeneratedKind.{GeneratedKind}
use Rattle.es_node.specs.View.{kind_of}
use Rattle.es_owed.specs.Listed.{numbered}
use Rattle.es_owed_initialized.specs.Placed.{is_one_before, stands}
use Rattle.es_steps.specs.KeptNodes.{is_function_declaration}
use Rattle.es_lowered.specs.Lowered.{belongs, initialization_stands, is_at_most_one, is_declared_function, is_one_initialization, is_temp, needs_none}
use Rattle.es_lowered.specs.Temporaries.{class_before}
use Rattle.es_steps.specs.PrivateNames.{private_members}

one : (g : GeneratedKind) (p q : Tree) (is : List (ℕ × Bool)) → is_one_before (class_before g (private_members p)) (preorder p) (preorder q) is ≡ is_one_initialization g p q is
one g p q [] = refl
one g p q (i ∷ []) = refl
one g p q (i ∷ (j ∷ is)) = refl

pub stands_by : (g : GeneratedKind) (p q : Tree) (is : List (ℕ × Bool)) → stands g (private_members p) (preorder p) (preorder q) is ≡ initialization_stands g p q is
stands_by g p q is = ap (λ b. (needs_none g && (not (is_temp g) || is_at_most_one is)) || (belongs (private_members p) g && b)) (one g p q is)

-- one that is given freely
pub stands_given : (g : GeneratedKind) (p q : Tree) (is : List (ℕ × Bool)) → needs_none g ≡ true → is_temp g ≡ false → initialization_stands g p q is ≡ true
stands_given g p q is none other = ap (λ b. (b && (not (is_temp g) || is_at_most_one is)) || (belongs (private_members p) g && is_one_initialization g p q is)) none ∙ ap (λ b. (not b || is_at_most_one is) || (belongs (private_members p) g && is_one_initialization g p q is)) other

-- ---- functions

-- that of a number need not be sought among the others
pub functions_numbered : (m : ℕ) (ts : List Tree) → is_declared_function m (numbered m ts) ≡ is_declared_function m ts
functions_numbered m [] = refl
functions_numbered m (t ∷ ts) = here (nat_eq m (number_of t)) refl (functions_numbered m ts)
  where
    here : (b : Bool) → nat_eq m (number_of t) ≡ b → is_declared_function m (numbered m ts) ≡ is_declared_function m ts
        → is_declared_function m (cond b (t ∷ []) [] ++ numbered m ts) ≡ ((b && is_function_declaration t) || is_declared_function m ts)
    here true is h = ap (λ b. (b && is_function_declaration t) || is_declared_function m (numbered m ts)) is ∙ ap (λ b. is_function_declaration t || b) h
    here false is h = h

pub function_by_kind : (t : Tree) → is_function_declaration t ≡ is_function_declaration (Node (kind_of t) 0 None None end)
function_by_kind (Node Kind.FunctionDeclaration m span semantic_id ps) = refl
function_by_kind (Node kind m span semantic_id ps) = refl
