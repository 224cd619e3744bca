-- Which expressions are quiet: have no events where they stand, told by their form and by what their names mean. What is
-- quiet here is, in a program that has a meaning, what evaluation gives no events of. (Our own; docs/DECISIONS.md says why it is told
-- by form.)
use Rattle.std.specs.Prelude.{ℕ, suc, List, [], ◌∷◌, ◌++◌, Bool, true, false, cond, not, ◌&&◌, ◌||◌, nat_eq, codes, bytes_eq, Option, Some}
use Rattle.es_base.specs.Tree.{Tree, Part, Parts, Node, end, more, child, list}
use Rattle.es_base.specs.declared.kind.Kind.{Kind}
use Rattle.es_steps.specs.ClassHeads.{names_itself}
use Rattle.es_steps.specs.Expressions.{is_arguments}
use Rattle.es_steps.specs.LoweredClasses.{is_regular_expression, has_no_items, is_private_key, referent_of}
use Rattle.es_steps.specs.Options.{leaves_out_fields}
use Rattle.es_steps.specs.Parts.{at, string_of, is_true, is_present}
use Rattle.es_steps.specs.PrivateNames.{is_class}
use Rattle.es_steps.specs.References.{has_number, resolve, varying, changes_free}
use Rattle.es_steps.specs.Scopes.{is_let}
use Rattle.es_steps.specs.Values.{String, Referent, Bound}
use Rattle.es_steps.specs.declared.options.Options.{Options}

-- ---- what is around a node

pub record Around : Type 0 where
  -- the identifiers of the classes around: inside, such a name means the class, also where it is written (15.7.14)
  pub class_names : List ℕ
  -- `arguments` is that of a function, of the value of a field or of a static block
  pub has_arguments : Bool
  -- a function that is declared here stands in a block
  pub in_block : Bool

abbrev pub nothing_around : Around
nothing_around = record { class_names = []; has_arguments = false; in_block = false }

abbrev pub id_number : Part → List ℕ
id_number (child (Node kind b span semantic_id ps)) = b ∷ []
id_number p = []

abbrev pub class_name : Kind → Parts → List ℕ
class_name kind ps = cond (is_class kind) (id_number (at 0 ps)) []

abbrev pub gives_arguments : Kind → ℕ → Bool
gives_arguments Kind.FunctionDeclaration i = true
gives_arguments Kind.FunctionExpression i = true
gives_arguments Kind.PropertyDefinition i = nat_eq i 1
gives_arguments Kind.StaticBlock i = true
gives_arguments kind i = false

abbrev pub is_block : Kind → Bool
is_block Kind.BlockStatement = true
is_block kind = false

-- around the i-th part of a node
abbrev pub inside : Around → Kind → Parts → ℕ → Around
inside a kind ps i = record { class_names = class_name kind ps ++ a.class_names; has_arguments = gives_arguments kind i || a.has_arguments; in_block = is_block kind }

-- ---- what a node does by itself, whatever its parts do

-- `new.target`
abbrev pub is_new : Part → Bool
is_new (child (Node Kind.IdentifierName m span semantic_id ps)) = bytes_eq (string_of (at 0 ps)) (codes "new")
is_new p = false

abbrev pub is_this : Part → Bool
is_this (child (Node Kind.ThisExpression m span semantic_id ps)) = true
is_this p = false

-- `delete this`, which is true (13.5.1.2)
abbrev pub deletes_this : Parts → Bool
deletes_this ps = bytes_eq (string_of (at 0 ps)) (codes "delete") && is_this (at 1 ps)

-- a literal but a regular expression, or `delete this`
abbrev pub is_constant : Part → Bool
is_constant (child (Node Kind.Literal m span semantic_id ps)) = not (is_regular_expression (at 0 ps))
is_constant (child (Node Kind.UnaryExpression m span semantic_id ps)) = deletes_this ps
is_constant p = false

-- `void 0`
abbrev pub voids_constant : Parts → Bool
voids_constant ps = bytes_eq (string_of (at 0 ps)) (codes "void") && is_constant (at 1 ps)

-- a template of one string
abbrev pub has_one_item : Part → Bool
has_one_item (list (more p end)) = true
has_one_item p = false

abbrev pub is_identifier : Part → Bool
is_identifier (child (Node Kind.BindingIdentifier m span semantic_id ps)) = true
is_identifier p = false

-- a static field defines or sets its property, unless it is left out
abbrev pub leaves_out_field : Options → Parts → Bool
leaves_out_field o ps = leaves_out_fields o && not (is_private_key (at 0 ps) || is_present (at 1 ps))

-- a name: a binding that does not vary, or the name of a class around; or an `arguments` that no program part writes
abbrev pub reads_name : List ℕ → Bool → Around → String → Option Referent → Bool
reads_name varying writes_arguments a s (Some (Bound b)) = has_number b varying && not (has_number b a.class_names)
reads_name varying writes_arguments a s r = not (is_arguments s && (a.has_arguments && not writes_arguments))

module _ (o : Options) (program : Tree) where
  -- whether a node of this kind has an event by itself, or may have: a form that is not named here has
  abbrev pub acts : Around → Kind → ℕ → Parts → Bool
  acts a Kind.Literal m ps = is_regular_expression (at 0 ps)
  acts a Kind.ThisExpression m ps = false
  acts a Kind.MetaProperty m ps = not (is_new (at 0 ps))
  acts a Kind.IdentifierReference m ps = reads_name (varying program) (changes_free (codes "arguments") program) a (string_of (at 0 ps)) (referent_of m (resolve program))
  acts a Kind.UnaryExpression m ps = not (voids_constant ps || deletes_this ps)
  acts a Kind.TemplateLiteral m ps = not (has_one_item (at 0 ps) && has_no_items (at 1 ps))
  acts a Kind.SequenceExpression m ps = false
  acts a Kind.FunctionExpression m ps = false
  acts a Kind.ArrowFunctionExpression m ps = false
  -- where a class expression gets its name is told, if its heritage or a key reads it
  acts a Kind.ClassExpression m ps = names_itself m ps
  acts a Kind.ClassBody m ps = false
  acts a Kind.MethodDefinition m ps = false
  acts a Kind.PropertyDefinition m ps = is_true (at 3 ps) && not (leaves_out_field o ps)
  acts a Kind.StaticBlock m ps = false
  -- a class that is declared is given to its name
  acts a Kind.ClassDeclaration m ps = is_present (at 0 ps)
  -- a function in a block is given to a `var` of its name, too (B.3.2)
  acts a Kind.FunctionDeclaration m ps = a.in_block
  -- a name of a `let` is given a value, or undefined
  acts a Kind.VariableDeclaration m ps = is_let ps
  acts a Kind.VariableDeclarator m ps = is_present (at 1 ps) || not (is_identifier (at 0 ps))
  acts a Kind.ExpressionStatement m ps = false
  acts a Kind.BlockStatement m ps = false
  acts a Kind.EmptyStatement m ps = false
  acts a kind m ps = true

-- whether the i-th part of such a node is evaluated where the node is
abbrev pub is_evaluated : Kind → Parts → ℕ → Bool
is_evaluated Kind.SequenceExpression ps i = true
is_evaluated Kind.ClassExpression ps i = not (nat_eq i 0)
is_evaluated Kind.ClassDeclaration ps i = not (nat_eq i 0)
is_evaluated Kind.ClassBody ps i = true
is_evaluated Kind.MethodDefinition ps i = is_true (at 3 ps) && nat_eq i 0
is_evaluated Kind.PropertyDefinition ps i = is_true (at 2 ps) && nat_eq i 0
is_evaluated Kind.StaticBlock ps i = true
is_evaluated Kind.VariableDeclaration ps i = true
is_evaluated Kind.ExpressionStatement ps i = true
is_evaluated Kind.BlockStatement ps i = true
is_evaluated kind ps i = false

-- ---- what has events

module _ (o : Options) (program : Tree) where
  abbrev mutual
    pub has_events : Around → Tree → Bool
    has_events a (Node kind m span semantic_id ps) = acts o program a kind m ps || has_events_in (inside a kind ps) (is_evaluated kind ps) ps

    -- of the parts that are evaluated
    pub has_events_in : (ℕ → Around) → (ℕ → Bool) → Parts → Bool
    has_events_in a evaluated end = false
    has_events_in a evaluated (more p ps) = (evaluated 0 && has_events_at (a 0) p) || has_events_in (λ i. a (suc i)) (λ i. evaluated (suc i)) ps

    pub has_events_at : Around → Part → Bool
    has_events_at a (child t) = has_events a t
    has_events_at a (list ps) = has_events_of a ps
    has_events_at a p = false

    pub has_events_of : Around → Parts → Bool
    has_events_of a end = false
    has_events_of a (more p ps) = has_events_at a p || has_events_of a ps
