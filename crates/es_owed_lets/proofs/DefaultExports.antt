-- Default exports, statement by statement.
use Rattle.std.proofs.Common.{◌≡◌, refl, sym, ap, ◌∙◌, ℕ, List, [], ◌∷◌, ◌++◌, Bool, true, false, cond, ◌||◌, Option, Some, None}
use Rattle.std.specs.Prelude.{not}
use Rattle.es_base.specs.Preorder.{preorder}
use Rattle.es_base.specs.Tree.{Tree, Part, Parts, Node, more, child, absent, trees, nullable_trees}
use Rattle.es_base.specs.declared.kind.Kind.{Kind}
use Rattle.es_lowered.specs.ClassNames.{numbers_of}
use Rattle.es_lowered.specs.DefaultExport.{declares_default, default_stays, holds, is_default, running_here, running_up_to, up_to}
use Rattle.es_node.specs.View.{kind_of, parts_in}
use Rattle.es_owed_lets.proofs.NodeNumbers.{numbers_both}
use Rattle.es_owed_lets.specs.Exported.{AreStatements, is_declaration, nodes_up_to, present, running_nodes, running_nodes_up_to}
use Rattle.es_steps.specs.KeptNodes.{are_new_or_among}
use Rattle.es_steps.specs.Meaning.{body_of}
use Rattle.es_steps.specs.Parts.{at, items}

-- ---- both programs

pub stays_exported : (first : ℕ) (p q : Tree) → holds is_default (body_of q) ≡ true → default_stays first p q ≡ are_new_or_among first (up_to (body_of p)) (running_up_to (body_of q))
stays_exported first p q has = ap (λ b. cond b (are_new_or_among first (up_to (body_of p)) (running_up_to (body_of q))) (not (holds is_default (body_of p)) || holds declares_default (body_of p))) has

pub stays_declared : (first : ℕ) (p q : Tree) → holds is_default (body_of q) ≡ false → default_stays first p q ≡ (not (holds is_default (body_of p)) || holds declares_default (body_of p))
stays_declared first p q has = ap (λ b. cond b (are_new_or_among first (up_to (body_of p)) (running_up_to (body_of q))) (not (holds is_default (body_of p)) || holds declares_default (body_of p))) has

-- ---- statements

pub body_node : (t : Tree) → body_of t ≡ items (at 1 (parts_in t))
body_node (Node kind m span semantic_id ps) = refl

pub are_all : (ts : List Tree) (ps : Parts) → ps ≡ trees ts → AreStatements ts ps
are_all ts ps same = record {
  has_default = ap (holds is_default) (sym same);
  declares = ap (holds declares_default) (sym same);
  stood = ap up_to (sym same);
  running = ap running_up_to (sym same);
}

holds_present : (is_it : Part → Bool) → is_it absent ≡ false → (os : List (Option Tree)) → holds is_it (trees (present os)) ≡ holds is_it (nullable_trees os)
holds_present is_it none [] = refl
holds_present is_it none (None ∷ os) = holds_present is_it none os ∙ ap (λ b. b || holds is_it (nullable_trees os)) (sym none)
holds_present is_it none (Some t ∷ os) = ap (λ b. is_it (child t) || b) (holds_present is_it none os)

up_to_present : (os : List (Option Tree)) → up_to (trees (present os)) ≡ up_to (nullable_trees os)
up_to_present [] = refl
up_to_present (None ∷ os) = up_to_present os
up_to_present (Some t ∷ os) = ap (λ ns. numbers_of (preorder t) ++ cond (is_default (child t)) [] ns) (up_to_present os)

running_present : (os : List (Option Tree)) → running_up_to (trees (present os)) ≡ running_up_to (nullable_trees os)
running_present [] = refl
running_present (None ∷ os) = running_present os
running_present (Some t ∷ os) = ap (λ ns. running_here (child t) ++ cond (is_default (child t)) [] ns) (running_present os)

pub are_present : (os : List (Option Tree)) (ps : Parts) → ps ≡ nullable_trees os → AreStatements (present os) ps
are_present os ps same = record {
  has_default = holds_present is_default refl os ∙ ap (holds is_default) (sym same);
  declares = holds_present declares_default refl os ∙ ap (holds declares_default) (sym same);
  stood = up_to_present os ∙ ap up_to (sym same);
  running = running_present os ∙ ap running_up_to (sym same);
}

-- ---- default exports

pub default_node : (t : Tree) → kind_of t ≡ Kind.ExportDefaultDeclaration → is_default (child t) ≡ true
default_node (Node Kind.ExportDefaultDeclaration m span semantic_id ps) is = refl
default_node (Node kind m span semantic_id ps) is = absurd (cc)

pub no_default : (t : Tree) → (kind_of t ≡ Kind.ExportDefaultDeclaration → ⊥) → is_default (child t) ≡ false
no_default (Node Kind.ExportDefaultDeclaration m span semantic_id ps) other = absurd (other refl)
no_default (Node kind m span semantic_id ps) other = refl

pub declared_node : (m : ℕ) (span : Option (ℕ × ℕ)) (semantic_id : Option ℕ) (d : Tree) (rest : Parts) → declares_default (child (Node Kind.ExportDefaultDeclaration m span semantic_id (more (child d) rest))) ≡ is_declaration (kind_of d)
declared_node m span semantic_id (Node Kind.ClassDeclaration n nspan n_semantic_id ps) rest = refl
declared_node m span semantic_id (Node Kind.FunctionDeclaration n nspan n_semantic_id ps) rest = refl
declared_node m span semantic_id (Node kind n nspan n_semantic_id ps) rest = refl

pub not_declared : (t : Tree) → (kind_of t ≡ Kind.ExportDefaultDeclaration → ⊥) → declares_default (child t) ≡ false
not_declared (Node Kind.ExportDefaultDeclaration m span semantic_id ps) other = absurd (other refl)
not_declared (Node kind m span semantic_id ps) other = refl

-- ---- up to the default export

pub function_node : (t : Tree) → kind_of t ≡ Kind.FunctionDeclaration → running_nodes t ≡ []
function_node (Node Kind.FunctionDeclaration m span semantic_id ps) is = refl
function_node (Node kind m span semantic_id ps) is = absurd (cc)

pub running_node : (t : Tree) → (kind_of t ≡ Kind.FunctionDeclaration → ⊥) → running_nodes t ≡ preorder t
running_node (Node Kind.FunctionDeclaration m span semantic_id ps) other = absurd (other refl)
running_node (Node kind m span semantic_id ps) other = refl

numbers_unless : (b : Bool) (ts : List Tree) → numbers_of (cond b [] ts) ≡ cond b [] (numbers_of ts)
numbers_unless true ts = refl
numbers_unless false ts = refl

pub numbers_up_to : (ts : List Tree) → numbers_of (nodes_up_to ts) ≡ up_to (trees ts)
numbers_up_to [] = refl
numbers_up_to (t ∷ ts) =
    numbers_both (preorder t) (cond (is_default (child t)) [] (nodes_up_to ts))
    ∙ ap (λ ns. numbers_of (preorder t) ++ ns) (numbers_unless (is_default (child t)) (nodes_up_to ts) ∙ ap (λ ns. cond (is_default (child t)) [] ns) (numbers_up_to ts))

numbers_here : (t : Tree) → numbers_of (running_nodes t) ≡ running_here (child t)
numbers_here (Node Kind.FunctionDeclaration m span semantic_id ps) = refl
numbers_here (Node kind m span semantic_id ps) = refl

pub numbers_running : (ts : List Tree) → numbers_of (running_nodes_up_to ts) ≡ running_up_to (trees ts)
numbers_running [] = refl
numbers_running (t ∷ ts) =
    numbers_both (running_nodes t) (cond (is_default (child t)) [] (running_nodes_up_to ts))
    ∙ ap (λ ns. ns ++ numbers_of (cond (is_default (child t)) [] (running_nodes_up_to ts))) (numbers_here t)
    ∙ ap (λ ns. running_here (child t) ++ ns) (numbers_unless (is_default (child t)) (running_nodes_up_to ts) ∙ ap (λ ns. cond (is_default (child t)) [] ns) (numbers_running ts))
