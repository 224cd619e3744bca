-- Events of nodes: what the kind of a node says.
use Rattle.std.proofs.Math.Dec.{eqb-suc-zero}
use Rattle.std.proofs.Common.{◌≡◌, refl, ap, sym, ℕ, suc, arith, length, nat_eq, List, [], ◌∷◌, Bool, true, false, cond, not, Option, Some, None}
use Rattle.std.proofs.lemmas.Bool.Decides.{nat_tests}
use Rattle.es_base.specs.Tree.{Tree, Parts, Node, end, child, list, trees}
use Rattle.es_base.specs.declared.kind.Kind.{Kind}
use Rattle.es_node.specs.View.{kind_of, number_in, parts_in}
use Rattle.es_steps.specs.LoweredClasses.{has_no_items, is_regular_expression}
use Rattle.es_steps.specs.Parts.{at}
use Rattle.es_steps.specs.PrivateNames.{is_class}
use Rattle.es_steps.specs.Quiet.{Around, id_number, class_name, is_new, is_this, deletes_this, is_constant, is_identifier, has_one_item, reads_name, acts, is_evaluated}
use Rattle.es_steps.specs.Shapes.{ClassAt, class_at}
use Rattle.es_steps.specs.Values.{String, Referent, Bound, Free}
use Rattle.es_steps.specs.declared.options.Options.{Options}
use Rattle.es_shapes.specs.Classes.{class_of}
use Rattle.es_shapes.specs.Names.{bound_number}
use Rattle.es_shapes.specs.Quiet.{is_quiet_kind, reads_bound}

-- ---- the name of a class

pub number_of_id : (t : Tree) → id_number (child t) ≡ (number_in t ∷ [])
number_of_id (Node kind m span semantic_id ps) = refl

abbrev pub name_of : Option ClassAt → List ℕ
name_of None = []
name_of (Some k) = id_number k.id

pub name_of_class : (t : Tree) → name_of (class_of t) ≡ class_name (kind_of t) (parts_in t)
name_of_class (Node kind m span semantic_id ps) = here (is_class kind)
  where
    here : (b : Bool) → name_of (cond b (Some (class_at kind m ps)) None) ≡ cond b (id_number (class_at kind m ps).id) []
    here true = refl
    here false = refl

-- ---- events by kind

pub acts_by_kind : (o : Options) (program : Tree) (a : Around) (kind : Kind) (m : ℕ) (ps : Parts) → (kind ≡ Kind.Literal → ⊥) → (kind ≡ Kind.MetaProperty → ⊥) → (kind ≡ Kind.IdentifierReference → ⊥) → (kind ≡ Kind.UnaryExpression → ⊥) → (kind ≡ Kind.TemplateLiteral → ⊥) → (kind ≡ Kind.PropertyDefinition → ⊥) → (kind ≡ Kind.ClassDeclaration → ⊥) → (kind ≡ Kind.ClassExpression → ⊥) → (kind ≡ Kind.FunctionDeclaration → ⊥) → (kind ≡ Kind.VariableDeclarator → ⊥) → (kind ≡ Kind.VariableDeclaration → ⊥) → acts o program a kind m ps ≡ not (is_quiet_kind kind)
acts_by_kind o program a Kind.MetaProperty m ps constant meta name unary template field class expression function declarator variables = absurd (meta refl)
acts_by_kind o program a Kind.IdentifierReference m ps constant meta name unary template field class expression function declarator variables = absurd (name refl)
acts_by_kind o program a Kind.UnaryExpression m ps constant meta name unary template field class expression function declarator variables = absurd (unary refl)
acts_by_kind o program a Kind.TemplateLiteral m ps constant meta name unary template field class expression function declarator variables = absurd (template refl)
acts_by_kind o program a Kind.PropertyDefinition m ps constant meta name unary template field class expression function declarator variables = absurd (field refl)
acts_by_kind o program a Kind.ClassDeclaration m ps constant meta name unary template field class expression function declarator variables = absurd (class refl)
acts_by_kind o program a Kind.FunctionDeclaration m ps constant meta name unary template field class expression function declarator variables = absurd (function refl)
acts_by_kind o program a Kind.VariableDeclarator m ps constant meta name unary template field class expression function declarator variables = absurd (declarator refl)
acts_by_kind o program a Kind.Literal m ps constant meta name unary template field class expression function declarator variables = absurd (constant refl)
acts_by_kind o program a Kind.ThisExpression m ps constant meta name unary template field class expression function declarator variables = refl
acts_by_kind o program a Kind.SequenceExpression m ps constant meta name unary template field class expression function declarator variables = refl
acts_by_kind o program a Kind.FunctionExpression m ps constant meta name unary template field class expression function declarator variables = refl
acts_by_kind o program a Kind.ArrowFunctionExpression m ps constant meta name unary template field class expression function declarator variables = refl
acts_by_kind o program a Kind.ClassExpression m ps constant meta name unary template field class expression function declarator variables = absurd (expression refl)
acts_by_kind o program a Kind.ClassBody m ps constant meta name unary template field class expression function declarator variables = refl
acts_by_kind o program a Kind.MethodDefinition m ps constant meta name unary template field class expression function declarator variables = refl
acts_by_kind o program a Kind.StaticBlock m ps constant meta name unary template field class expression function declarator variables = refl
acts_by_kind o program a Kind.VariableDeclaration m ps constant meta name unary template field class expression function declarator variables = absurd (variables refl)
acts_by_kind o program a Kind.ExpressionStatement m ps constant meta name unary template field class expression function declarator variables = refl
acts_by_kind o program a Kind.BlockStatement m ps constant meta name unary template field class expression function declarator variables = refl
acts_by_kind o program a Kind.EmptyStatement m ps constant meta name unary template field class expression function declarator variables = refl
acts_by_kind o program a kind m ps constant meta name unary template field class expression function declarator variables = refl

pub evaluated_by_kind : (kind : Kind) (ps : Parts) (i : ℕ) → (kind ≡ Kind.SequenceExpression → ⊥) → (kind ≡ Kind.ClassBody → ⊥) → (kind ≡ Kind.StaticBlock → ⊥) → (kind ≡ Kind.VariableDeclaration → ⊥) → (kind ≡ Kind.ExpressionStatement → ⊥) → (kind ≡ Kind.BlockStatement → ⊥) → (kind ≡ Kind.ClassExpression → ⊥) → (kind ≡ Kind.ClassDeclaration → ⊥) → (kind ≡ Kind.MethodDefinition → ⊥) → (kind ≡ Kind.PropertyDefinition → ⊥) → is_evaluated kind ps i ≡ false
evaluated_by_kind Kind.SequenceExpression ps i sequence body block variables statement braces expression declaration method field = absurd (sequence refl)
evaluated_by_kind Kind.ClassBody ps i sequence body block variables statement braces expression declaration method field = absurd (body refl)
evaluated_by_kind Kind.StaticBlock ps i sequence body block variables statement braces expression declaration method field = absurd (block refl)
evaluated_by_kind Kind.VariableDeclaration ps i sequence body block variables statement braces expression declaration method field = absurd (variables refl)
evaluated_by_kind Kind.ExpressionStatement ps i sequence body block variables statement braces expression declaration method field = absurd (statement refl)
evaluated_by_kind Kind.BlockStatement ps i sequence body block variables statement braces expression declaration method field = absurd (braces refl)
evaluated_by_kind Kind.ClassExpression ps i sequence body block variables statement braces expression declaration method field = absurd (expression refl)
evaluated_by_kind Kind.ClassDeclaration ps i sequence body block variables statement braces expression declaration method field = absurd (declaration refl)
evaluated_by_kind Kind.MethodDefinition ps i sequence body block variables statement braces expression declaration method field = absurd (method refl)
evaluated_by_kind Kind.PropertyDefinition ps i sequence body block variables statement braces expression declaration method field = absurd (field refl)
evaluated_by_kind kind ps i sequence body block variables statement braces expression declaration method field = refl

-- ---- names

pub reads_by_binding : (varying : List ℕ) (writes_arguments : Bool) (a : Around) (s : String) (r : Option Referent) (b : Option ℕ) → b ≡ bound_number r → reads_name varying writes_arguments a s r ≡ reads_bound varying writes_arguments a s b
reads_by_binding varying writes_arguments a s None b e = ap (reads_bound varying writes_arguments a s) (sym e)
reads_by_binding varying writes_arguments a s (Some (Bound n)) b e = ap (reads_bound varying writes_arguments a s) (sym e)
reads_by_binding varying writes_arguments a s (Some (Free x)) b e = ap (reads_bound varying writes_arguments a s) (sym e)

-- ---- parts

pub literal_is_constant : (t : Tree) → kind_of t ≡ Kind.Literal → is_constant (child t) ≡ not (is_regular_expression (at 0 (parts_in t)))
literal_is_constant (Node Kind.Literal m span semantic_id ps) is = refl
literal_is_constant (Node kind m span semantic_id ps) is = absurd (cc)

pub unary_is_constant : (t : Tree) → kind_of t ≡ Kind.UnaryExpression → is_constant (child t) ≡ deletes_this (parts_in t)
unary_is_constant (Node Kind.UnaryExpression m span semantic_id ps) is = refl
unary_is_constant (Node kind m span semantic_id ps) is = absurd (cc)

pub no_constant : (t : Tree) → (kind_of t ≡ Kind.Literal → ⊥) → (kind_of t ≡ Kind.UnaryExpression → ⊥) → is_constant (child t) ≡ false
no_constant (Node Kind.Literal m span semantic_id ps) literal unary = absurd (literal refl)
no_constant (Node Kind.UnaryExpression m span semantic_id ps) literal unary = absurd (unary refl)
no_constant (Node kind m span semantic_id ps) literal unary = refl

pub this_by_kind : (t : Tree) → is_this (child t) ≡ is_this (child (Node (kind_of t) 0 None None end))
this_by_kind (Node Kind.ThisExpression m span semantic_id ps) = refl
this_by_kind (Node kind m span semantic_id ps) = refl

pub no_new : (t : Tree) → (kind_of t ≡ Kind.IdentifierName → ⊥) → is_new (child t) ≡ false
no_new (Node Kind.IdentifierName m span semantic_id ps) other = absurd (other refl)
no_new (Node kind m span semantic_id ps) other = refl

pub identifier_by_kind : (t : Tree) → is_identifier (child t) ≡ is_identifier (child (Node (kind_of t) 0 None None end))
identifier_by_kind (Node Kind.BindingIdentifier m span semantic_id ps) = refl
identifier_by_kind (Node kind m span semantic_id ps) = refl

-- ---- templates

pub one_item : (ts : List Tree) → has_one_item (list (trees ts)) ≡ nat_eq (length ts) 1
one_item [] = refl
one_item (t ∷ []) = refl
one_item (t ∷ u ∷ ts) = let two : nat_eq (suc (suc (length ts))) 1 ≡ false = grind (arith, nat_tests) in sym two

pub no_items : (ts : List Tree) → has_no_items (list (trees ts)) ≡ nat_eq (length ts) 0
no_items [] = refl
no_items (t ∷ ts) = sym (eqb-suc-zero (length ts))
