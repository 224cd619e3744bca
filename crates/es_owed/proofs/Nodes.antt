-- What a definition by the form of a node says of any node.
use Rattle.std.proofs.Common.{◌≡◌, refl, sym, ap, ◌∙◌, ℕ, List, [], ◌∷◌, map, Bool, true, false, cond, ◌&&◌, ◌||◌, Some, None}
use Rattle.std.specs.List.{list_any}
use Rattle.std.specs.Prelude.{nat_eq, not}
use Rattle.es_base.specs.Preorder.{number_of, preorder, preorder_of_part}
use Rattle.es_base.specs.Table.{is_statement}
use Rattle.es_base.specs.Tree.{Tree, Parts, Node, end, child}
use Rattle.es_base.specs.declared.kind.Kind.{Kind}
use Rattle.es_node.specs.View.{kind_of, number_in, parts_in}
use Rattle.es_shapes.specs.Classes.{class_of}
use Rattle.es_steps.specs.KeptNodes.{numbers_in_class, statement_list, is_free_statement}
use Rattle.es_steps.specs.LoweredClasses.{any_element, elements_of, is_lowered_element, is_lowered_class, holds_lowered, has_lowered_class}
use Rattle.es_steps.specs.Parts.{at}
use Rattle.es_steps.specs.PrivateNames.{is_class}
use Rattle.es_steps.specs.Shapes.{class_at}
use Rattle.es_steps.specs.declared.options.Options.{Options}
use Rattle.es_owed.specs.KeptNodes.{lowered_by}

pub number_of_node : (t : Tree) → number_of t ≡ number_in t
number_of_node (Node kind m span semantic_id ps) = refl

pub no_class : (kind : Kind) → (kind ≡ Kind.ClassDeclaration → ⊥) → (kind ≡ Kind.ClassExpression → ⊥) → is_class kind ≡ false
no_class Kind.ClassDeclaration declaration expression = absurd (declaration refl)
no_class Kind.ClassExpression declaration expression = absurd (expression refl)
no_class kind declaration expression = refl

-- ---- the nodes in the body of a class

numbers_one : (n : ℕ) (t : Tree) (ts : List Tree) → numbers_in_class n (t ∷ ts) ≡ cond (is_class (kind_of t) && nat_eq n (number_in t)) (map number_of (preorder_of_part (at 2 (parts_in t)))) (numbers_in_class n ts)
numbers_one n (Node kind m span semantic_id ps) ts = refl

pub numbers_here : (n : ℕ) (t u : Tree) (ts : List Tree) → (is_class (kind_of t) && nat_eq n (number_in t)) ≡ true → at 2 (parts_in t) ≡ child u → map number_of (preorder u) ≡ numbers_in_class n (t ∷ ts)
numbers_here n t u ts is body = sym (numbers_one n t ts ∙ ap (λ b. cond b (map number_of (preorder_of_part (at 2 (parts_in t)))) (numbers_in_class n ts)) is ∙ ap (λ p. map number_of (preorder_of_part p)) body)

pub numbers_behind : (n : ℕ) (t : Tree) (ts : List Tree) → (is_class (kind_of t) && nat_eq n (number_in t)) ≡ false → numbers_in_class n (t ∷ ts) ≡ numbers_in_class n ts
numbers_behind n t ts other = numbers_one n t ts ∙ ap (λ b. cond b (map number_of (preorder_of_part (at 2 (parts_in t)))) (numbers_in_class n ts)) other

-- ---- lowered classes

pub lowered_by_class : (o : Options) (t : Tree) → is_lowered_class o (kind_of t) (parts_in t) ≡ lowered_by o (class_of t)
lowered_by_class o (Node kind m span semantic_id ps) = here (is_class kind)
  where
    here : (b : Bool) → (b && any_element (is_lowered_element o) (elements_of ps)) ≡ lowered_by o (cond b (Some (class_at kind m ps)) None)
    here true = refl
    here false = refl

pub any_lowered : (o : Options) (ts : List Tree) → list_any (λ t. is_lowered_class o (kind_of t) (parts_in t)) ts ≡ holds_lowered o ts
any_lowered o [] = refl
any_lowered o (Node kind m span semantic_id ps ∷ ts) = ap (λ b. is_lowered_class o kind ps || b) (any_lowered o ts)

-- ---- statements

pub no_list : (kind : Kind) (ps : Parts) → (kind ≡ Kind.Program → ⊥) → (kind ≡ Kind.BlockStatement → ⊥) → (kind ≡ Kind.StaticBlock → ⊥) → (kind ≡ Kind.SwitchCase → ⊥) → statement_list kind ps ≡ end
no_list Kind.Program ps a b c d = absurd (a refl)
no_list Kind.BlockStatement ps a b c d = absurd (b refl)
no_list Kind.StaticBlock ps a b c d = absurd (c refl)
no_list Kind.SwitchCase ps a b c d = absurd (d refl)
no_list kind ps a b c d = refl

pub free_node : (o : Options) (t : Tree) → is_free_statement o t ≡ (is_statement (kind_of t) && not (has_lowered_class o t))
free_node o (Node kind m span semantic_id ps) = refl
