-- Classes with a scope for names, where static blocks alone are lowered: what gives a name to a function or class moves with
-- the blocks there. (Our own.)
use Rattle.std.specs.Prelude.{List, [], ◌∷◌, Bool, true, false, cond, not, ◌&&◌, ◌||◌}
use Rattle.es_base.specs.Tree.{Tree, Part, Parts, Node, end, more, child, list, literal}
use Rattle.es_base.specs.declared.kind.Kind.{Kind}
use Rattle.es_base.specs.declared.literal.LiteralValue.TheVariants as literal_value
use Rattle.es_steps.specs.LoweredClasses.{Element, any_element, elements_of}
use Rattle.es_steps.specs.Parts.{at, is_present}
use Rattle.es_steps.specs.PrivateNames.{is_class}

-- a function, an arrow or a class without an own name
abbrev pub is_anonymous : Part → Bool
is_anonymous (child (Node Kind.ArrowFunctionExpression m span semantic_id ps)) = true
is_anonymous (child (Node Kind.FunctionExpression m span semantic_id ps)) = not (is_present (at 0 ps))
is_anonymous (child (Node Kind.ClassExpression m span semantic_id ps)) = not (is_present (at 0 ps))
is_anonymous p = false

abbrev pub is_string_key : Part → Bool
is_string_key (child (Node Kind.Literal m span semantic_id (more (literal (literal_value.String s raw)) end))) = true
is_string_key p = false

abbrev pub is_identifier_key : Part → Bool
is_identifier_key (child (Node Kind.IdentifierName m span semantic_id ps)) = true
is_identifier_key p = false

-- a field gives its key as a name that has to be kept
abbrev pub names_its_value : Element → Bool
names_its_value e = e.is_field && (is_anonymous e.value && not (e.is_private || (is_string_key e.key || is_identifier_key e.key)))

abbrev pub is_static_field : Element → Bool
is_static_field e = e.is_field && e.is_static

-- blocks stand behind all static fields
abbrev pub ends_in_blocks : List Element → Bool
ends_in_blocks es = any_element (λ e. e.is_block) es && not (any_element is_static_field es)

abbrev pub has_trailing_blocks : List Element → Bool
has_trailing_blocks [] = false
has_trailing_blocks (e ∷ es) = ends_in_blocks (e ∷ es) || has_trailing_blocks es

-- a static field that takes blocks, in front of its value or behind it, gives its key as a name
abbrev pub has_static_name_scope : Bool → List Element → Bool
has_static_name_scope blocks [] = false
has_static_name_scope blocks (e ∷ es) = cond e.is_block (has_static_name_scope true es) (cond (is_static_field e) (((blocks || ends_in_blocks es) && names_its_value e) || has_static_name_scope false es) (has_static_name_scope blocks es))

abbrev pub is_any_function : Kind → Bool
is_any_function Kind.FunctionDeclaration = true
is_any_function Kind.FunctionExpression = true
is_any_function Kind.ArrowFunctionExpression = true
is_any_function kind = false

abbrev pub is_suspension : Kind → Bool
is_suspension Kind.AwaitExpression = true
is_suspension Kind.YieldExpression = true
is_suspension kind = false

abbrev pub has_moving_blocks : Kind → Parts → Bool
has_moving_blocks kind ps = is_class kind && (has_trailing_blocks (elements_of ps) || has_static_name_scope false (elements_of ps))

abbrev pub suspends : Kind → Parts → Bool
suspends kind ps = is_suspension kind

-- whether a node that passes the test is or stands in a tree, outside functions
module _ (test : Kind → Parts → Bool) where
  abbrev mutual
    pub holds : Tree → Bool
    holds (Node kind m span semantic_id ps) = test kind ps || (not (is_any_function kind) && holds_in ps)

    pub holds_at : Part → Bool
    holds_at (child t) = holds t
    holds_at (list ps) = holds_in ps
    holds_at p = false

    pub holds_in : Parts → Bool
    holds_in end = false
    holds_in (more p ps) = holds_at p || holds_in ps

abbrev pub has_name_scope : List Element → Bool
has_name_scope es = has_static_name_scope false es || any_element (λ e. not e.is_static && (names_its_value e && holds_at has_moving_blocks e.value)) es

-- a class declaration of these parts becomes a `let` though nothing in it is lowered
abbrev pub is_suspended_scope : Kind → Parts → Bool
is_suspended_scope Kind.ClassDeclaration ps = has_name_scope (elements_of ps) && holds_in suspends ps
is_suspended_scope kind ps = false
