-- Which classes the options lower, and their elements.
use Rattle.std.specs.Prelude.{ℕ, List, [], ◌∷◌, ◌++◌, Bool, true, false, cond, not, ◌&&◌, ◌||◌, nat_eq, Option, Some, None}
use Rattle.es_base.specs.Preorder.{preorder}
use Rattle.es_base.specs.Tree.{Tree, Part, Parts, Node, end, more, child, absent, list, literal}
use Rattle.es_base.specs.declared.kind.Kind.{Kind}
use Rattle.es_base.specs.declared.literal.LiteralValue.TheVariants as literal_value
use Rattle.es_steps.specs.Context.{is_constructor}
use Rattle.es_steps.specs.Options.{lowers_fields, lowers_blocks, leaves_out_fields}
use Rattle.es_steps.specs.Parts.{at, items, string_of, is_true, is_present}
use Rattle.es_steps.specs.PrivateNames.{is_class}
use Rattle.es_steps.specs.References.{Reference, has_number}
use Rattle.es_steps.specs.Values.{Referent, Bound}
use Rattle.es_steps.specs.declared.options.Options.{Options}

-- ---- the elements of a class

abbrev pub is_private_key : Part → Bool
is_private_key (child (Node Kind.PrivateIdentifier m span semantic_id ps)) = true
is_private_key p = false

pub record Element : Type 0 where
  pub number : ℕ
  pub is_static : Bool
  pub is_field : Bool
  pub is_block : Bool
  pub is_private : Bool
  pub computed : Bool
  pub key : Part
  pub value : Part

-- the value of a method is its function
abbrev pub element_of : Part → List Element
element_of (child (Node Kind.PropertyDefinition m span semantic_id ps)) = record { number = m; is_static = is_true (at 3 ps); is_field = true; is_block = false; is_private = is_private_key (at 0 ps); computed = is_true (at 2 ps); key = at 0 ps; value = at 1 ps } ∷ []
element_of (child (Node Kind.MethodDefinition m span semantic_id ps)) = record { number = m; is_static = is_true (at 4 ps); is_field = false; is_block = false; is_private = is_private_key (at 0 ps); computed = is_true (at 3 ps); key = at 0 ps; value = at 1 ps } ∷ []
element_of (child (Node Kind.StaticBlock m span semantic_id ps)) = record { number = m; is_static = true; is_field = false; is_block = true; is_private = false; computed = false; key = absent; value = absent } ∷ []
element_of p = []

abbrev pub elements_in : Parts → List Element
elements_in end = []
elements_in (more p ps) = element_of p ++ elements_in ps

abbrev pub body_elements : Part → List Element
body_elements (child (Node Kind.ClassBody m span semantic_id ps)) = elements_in (items (at 0 ps))
body_elements p = []

-- of a class by its parts
abbrev pub elements_of : Parts → List Element
elements_of ps = body_elements (at 2 ps)

-- ---- which are lowered: fields and private members with class properties on, static blocks with their option on

abbrev pub is_lowered_element : Options → Element → Bool
is_lowered_element o e = (lowers_fields o && (e.is_field || e.is_private)) || (lowers_blocks o && e.is_block)

abbrev pub any_element : (Element → Bool) → List Element → Bool
any_element test [] = false
any_element test (e ∷ es) = test e || any_element test es

abbrev pub is_lowered_class : Options → Kind → Parts → Bool
is_lowered_class o kind ps = is_class kind && any_element (is_lowered_element o) (elements_of ps)

abbrev pub holds_lowered : Options → List Tree → Bool
holds_lowered o [] = false
holds_lowered o (Node kind m span semantic_id ps ∷ ts) = is_lowered_class o kind ps || holds_lowered o ts

-- whether a program has a class that is lowered
abbrev pub has_lowered_class : Options → Tree → Bool
has_lowered_class o t = holds_lowered o (preorder t)

-- ---- the function of the constructor, as a part

abbrev pub constructor_function : Parts → Part
constructor_function end = absent
constructor_function (more (child (Node Kind.MethodDefinition m span semantic_id ps)) rest) = cond (is_constructor (string_of (at 2 ps))) (at 1 ps) (constructor_function rest)
constructor_function (more p rest) = constructor_function rest

abbrev pub constructor_in : Part → Part
constructor_in (child (Node Kind.ClassBody m span semantic_id ps)) = constructor_function (items (at 0 ps))
constructor_in p = absent

-- ---- keys that need a temporary: all but literals, templates without expressions and bound names that are not written

abbrev pub referent_of : ℕ → List Reference → Option Referent
referent_of m [] = None
referent_of m (r ∷ rs) = cond (nat_eq m r.number) (Some r.to) (referent_of m rs)

abbrev pub is_fixed : List ℕ → Option Referent → Bool
is_fixed written (Some (Bound b)) = not (has_number b written)
is_fixed written r = false

abbrev pub is_written_binding : List ℕ → Option Referent → Bool
is_written_binding written (Some (Bound b)) = has_number b written
is_written_binding written r = false

abbrev pub has_no_items : Part → Bool
has_no_items (list end) = true
has_no_items p = false

-- a regular expression is an object that is made (13.2.7)
abbrev pub is_regular_expression : Part → Bool
is_regular_expression (literal (literal_value.RegExp source flags)) = true
is_regular_expression p = false

-- a key that is evaluated once, with the class, and kept
abbrev pub needs_temporary : List ℕ → List Reference → Part → Bool
needs_temporary written references (child (Node Kind.Literal m span semantic_id ps)) = is_regular_expression (at 0 ps)
needs_temporary written references (child (Node Kind.TemplateLiteral m span semantic_id ps)) = not (has_no_items (at 1 ps))
needs_temporary written references (child (Node Kind.IdentifierReference m span semantic_id ps)) = not (is_fixed written (referent_of m references))
needs_temporary written references p = true

-- of an element of a lowered class, with class properties on
abbrev pub is_hoisted_key : List ℕ → List Reference → Element → Bool
is_hoisted_key written references e = e.computed && needs_temporary written references e.key

-- a field without any event but its key's
abbrev pub is_left_out : Options → Element → Bool
is_left_out o e = leaves_out_fields o && (e.is_field && (not e.is_private && not (is_present e.value)))

-- ---- nothing that the options lower is left

abbrev pub is_lowered_kind : Options → Kind → Bool
is_lowered_kind o Kind.PropertyDefinition = lowers_fields o
is_lowered_kind o Kind.PrivateIdentifier = lowers_fields o
is_lowered_kind o Kind.PrivateIn = lowers_fields o
is_lowered_kind o Kind.StaticBlock = lowers_blocks o
is_lowered_kind o kind = false

abbrev pub kind_of : Tree → Kind
kind_of (Node kind m span semantic_id ps) = kind

abbrev pub none_lowered : Options → List Tree → Bool
none_lowered o [] = true
none_lowered o (t ∷ ts) = not (is_lowered_kind o (kind_of t)) && none_lowered o ts

abbrev pub nothing_left : Options → Tree → Bool
nothing_left o q = none_lowered o (preorder q)
