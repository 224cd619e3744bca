-- The heads of lists of statements, statement by statement.
use Rattle.std.proofs.Common.{◌≡◌, refl, ap, List, [], ◌∷◌, ◌++◌, true, false, cond, ◌&&◌}
use Rattle.std.specs.Prelude.{not}
use Rattle.es_base.specs.Tree.{Tree, Parts, Node, more, child}
use Rattle.es_base.specs.declared.kind.Kind.{Kind}
use Rattle.es_node.specs.View.{kind_of, number_in, parts_in}
use Rattle.es_steps.specs.KeptNodes.{statement_list}
use Rattle.es_steps.specs.Parts.{at, is_present}
use Rattle.es_steps.specs.Scopes.{is_let}
use Rattle.es_lowered.specs.Timely.{are_bare, leading_in, leading_lets, let_number, runs_nothing, whole_list}
use Rattle.es_marks_around.specs.Leading.{is_bare}

pub more_lists : (t : Tree) (ts : List Tree) → leading_lets (t ∷ ts) ≡ leading_in (whole_list (kind_of t) (parts_in t)) ++ leading_lets ts
more_lists (Node kind m span semantic_id ps) ts = refl

pub no_case : (kind : Kind) (ps : Parts) → (kind ≡ Kind.SwitchCase → ⊥) → whole_list kind ps ≡ statement_list kind ps
no_case Kind.SwitchCase ps other = absurd (other refl)
no_case kind ps other = refl

pub more_statements : (t : Tree) (ps : Parts) → leading_in (more (child t) ps) ≡ let_number (child t) ++ cond (runs_nothing (child t)) (leading_in ps) []
more_statements t ps = refl

pub let_node : (t : Tree) → kind_of t ≡ Kind.VariableDeclaration → let_number (child t) ≡ cond (is_let (parts_in t)) (number_in t ∷ []) []
let_node (Node kind m span semantic_id ps) is = ap (λ k. let_number (child (Node k m span semantic_id ps))) is

pub no_let : (t : Tree) → (kind_of t ≡ Kind.VariableDeclaration → ⊥) → let_number (child t) ≡ []
no_let (Node Kind.VariableDeclaration m span semantic_id ps) other = absurd (other refl)
no_let (Node kind m span semantic_id ps) other = refl

pub nothing_of_function : (t : Tree) → kind_of t ≡ Kind.FunctionDeclaration → runs_nothing (child t) ≡ true
nothing_of_function (Node kind m span semantic_id ps) is = ap (λ k. runs_nothing (child (Node k m span semantic_id ps))) is

pub nothing_of_import : (t : Tree) → kind_of t ≡ Kind.ImportDeclaration → runs_nothing (child t) ≡ true
nothing_of_import (Node kind m span semantic_id ps) is = ap (λ k. runs_nothing (child (Node k m span semantic_id ps))) is

pub something : (t : Tree) → (kind_of t ≡ Kind.FunctionDeclaration → ⊥) → (kind_of t ≡ Kind.ImportDeclaration → ⊥) → (kind_of t ≡ Kind.ExpressionStatement → ⊥) → (kind_of t ≡ Kind.VariableDeclaration → ⊥) → runs_nothing (child t) ≡ false
something (Node Kind.FunctionDeclaration m span semantic_id ps) a b c d = absurd (a refl)
something (Node Kind.ImportDeclaration m span semantic_id ps) a b c d = absurd (b refl)
something (Node Kind.ExpressionStatement m span semantic_id ps) a b c d = absurd (c refl)
something (Node Kind.VariableDeclaration m span semantic_id ps) a b c d = absurd (d refl)
something (Node kind m span semantic_id ps) a b c d = refl

pub more_bare : (t : Tree) (ps : Parts) → are_bare (more (child t) ps) ≡ (is_bare t && are_bare ps)
more_bare (Node Kind.VariableDeclarator m span semantic_id qs) ps = refl
more_bare (Node kind m span semantic_id qs) ps = refl

pub no_declarator : (t : Tree) → (kind_of t ≡ Kind.VariableDeclarator → ⊥) → is_bare t ≡ false
no_declarator (Node Kind.VariableDeclarator m span semantic_id ps) other = absurd (other refl)
no_declarator (Node kind m span semantic_id ps) other = refl

pub bare_declarator : (t : Tree) → kind_of t ≡ Kind.VariableDeclarator → is_bare t ≡ not (is_present (at 1 (parts_in t)))
bare_declarator (Node kind m span semantic_id ps) is = ap (λ k. is_bare (Node k m span semantic_id ps)) is
