-- Programs of the first form, which is all that is lowered yet: scripts of class declarations whose elements are instance
-- fields with a name, and with a literal, a name or nothing as value. (Our own. Such a program has no early error of
-- ECMA-262 but that it may be too large.)
use Rattle.std.specs.Prelude.{ℕ, List, [], ◌∷◌, ◌++◌, Bool, true, false, cond, not, ◌&&◌, ◌||◌, nat_le, bytes_eq, codes, Option, Some, None}
use Rattle.es_base.specs.Conforms.{is_among}
use Rattle.es_base.specs.Preorder.{nodes}
use Rattle.es_base.specs.Tree.{Tree, Part, Parts, Node, end, more, child, absent, string, boolean, literal}
use Rattle.es_base.specs.declared.kind.Kind.{Kind}
use Rattle.es_base.specs.declared.literal.LiteralValue.{LiteralValue}
use Rattle.es_base.specs.declared.literal.LiteralValue.TheVariants as literal_value
use Rattle.es_steps.specs.Parts.{at, items, string_of, is_present}
use Rattle.es_steps.specs.Values.{String}

-- a program has at most this many nodes
abbrev pub most_nodes : ℕ
most_nodes = 1048576

-- names that a lowered program uses
abbrev pub helper_names : List String
helper_names = codes "babelHelpers" ∷ codes "WeakMap" ∷ codes "WeakSet" ∷ codes "Object" ∷ []

-- ---- a field: names are those of all classes of the program

abbrev pub is_plain_literal : LiteralValue → Bool
is_plain_literal (literal_value.String s raw) = true
is_plain_literal (literal_value.Number raw) = true
is_plain_literal (literal_value.Boolean b) = true
is_plain_literal literal_value.Null = true
is_plain_literal v = false

abbrev pub is_plain_name : List String → String → Bool
is_plain_name names s = not (is_among s names || bytes_eq s (codes "arguments"))

abbrev pub is_plain_value : List String → Part → Bool
is_plain_value names absent = true
is_plain_value names (child (Node Kind.Literal m span semantic_id (more (literal v) end))) = is_plain_literal v
is_plain_value names (child (Node Kind.IdentifierReference m span semantic_id (more (string s) end))) = is_plain_name names s
is_plain_value names p = false

abbrev pub is_plain_key : Part → Bool
is_plain_key (child (Node Kind.IdentifierName m span semantic_id (more (string s) end))) = not (bytes_eq s (codes "constructor"))
is_plain_key p = false

-- the members of a field: its key, its value, whether it is computed, whether it is static
abbrev pub is_plain_field : List String → Parts → Bool
is_plain_field names (more key (more v (more (boolean false) (more (boolean false) end)))) = is_plain_key key && is_plain_value names v
is_plain_field names ps = false

abbrev pub is_field : List String → Kind → Parts → Bool
is_field names Kind.PropertyDefinition ps = is_plain_field names ps
is_field names kind ps = false

-- ---- breaches: the nodes that are not as the form asks, by number

abbrev pub unless : Bool → ℕ → List ℕ
unless true m = []
unless false m = m ∷ []

abbrev pub element_breaches : List String → Part → List ℕ
element_breaches names (child (Node kind m span semantic_id ps)) = unless (is_field names kind ps) m
element_breaches names p = []

abbrev pub elements_breaches : List String → Parts → List ℕ
elements_breaches names end = []
elements_breaches names (more p ps) = element_breaches names p ++ elements_breaches names ps

abbrev pub body_breaches : List String → Part → List ℕ
body_breaches names (child (Node kind m span semantic_id (more p ps))) = elements_breaches names (items p)
body_breaches names p = []

abbrev pub is_new_name : List String → Part → Bool
is_new_name earlier (child (Node Kind.BindingIdentifier m span semantic_id (more (string s) end))) = not (is_among s earlier || is_among s helper_names)
is_new_name earlier p = false

abbrev pub name_in : Part → List String
name_in (child (Node kind m span semantic_id (more (string s) ps))) = s ∷ []
name_in p = []

-- the names of classes that stand in a list of statements
abbrev pub class_names : Parts → List String
class_names end = []
class_names (more (child (Node Kind.ClassDeclaration n span semantic_id (more id ps))) rest) = name_in id ++ class_names rest
class_names (more p rest) = class_names rest

-- of a class with these earlier ones in front, and of any other statement
abbrev pub statement_breaches : List String → List String → Part → List ℕ
statement_breaches earlier names (child (Node Kind.ClassDeclaration n span semantic_id (more id (more heritage (more body end))))) = unless (is_new_name earlier id && not (is_present heritage)) n ++ body_breaches names body
statement_breaches earlier names (child (Node kind n span semantic_id ps)) = n ∷ []
statement_breaches earlier names p = []

abbrev pub statements_breaches : List String → List String → Parts → List ℕ
statements_breaches earlier names end = []
statements_breaches earlier names (more p ps) = statement_breaches earlier names p ++ statements_breaches (class_names (more p end) ++ earlier) names ps

abbrev pub breaches : Tree → List ℕ
breaches (Node kind m span semantic_id ps) = unless (bytes_eq (string_of (at 0 ps)) (codes "script") && nat_le (nodes (Node kind m span semantic_id ps)) most_nodes) m ++ statements_breaches [] (class_names (items (at 1 ps))) (items (at 1 ps))

-- ---- the form

abbrev pub no_numbers : List ℕ → Bool
no_numbers [] = true
no_numbers (n ∷ ns) = false

abbrev pub least_of : ℕ → List ℕ → ℕ
least_of n [] = n
least_of n (k ∷ ks) = least_of (cond (nat_le n k) n k) ks

abbrev pub least : List ℕ → Option ℕ
least [] = None
least (n ∷ ns) = Some (least_of n ns)

-- a program, and the numbers of its nodes that have members outside the table
abbrev pub is_first_form : Tree → List ℕ → Bool
is_first_form t foreign = no_numbers (breaches t ++ foreign)

-- the least number of a node that is not as the form asks
abbrev pub not_yet : Tree → List ℕ → Option ℕ
not_yet t foreign = least (breaches t ++ foreign)
