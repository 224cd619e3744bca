-- Names that are reserved words where they stand. (ECMA-262, 12.7.2, 13.1.1, 15.7.1.)
use Rattle.std.specs.Prelude.{ℕ, zero, suc, List, [], ◌∷◌, Bool, true, false, ◌&&◌, ◌||◌, bytes_eq, codes}
use Rattle.es_base.specs.Conforms.{is_among}
use Rattle.es_base.specs.Tree.{Tree, Part, Parts, Node, end, more, child, list}
use Rattle.es_base.specs.declared.kind.Kind.{Kind}
use Rattle.es_steps.specs.Parts.{at, string_of, is_true}
use Rattle.es_steps.specs.Strict.{makes_strict}
use Rattle.es_steps.specs.Values.{String}

-- what reserves words around a name
pub record Words : Type 0 where
  pub in_strict : Bool
  pub in_module : Bool
  -- in a static block, or in the parameters of an arrow there
  pub in_block : Bool
  -- in the value of a field, too, where no `arguments` is
  pub in_element : Bool
  -- in an async function, too
  pub in_async : Bool
  pub in_generator : Bool

abbrev pub no_words : Words
no_words = record { in_strict = false; in_module = false; in_block = false; in_element = false; in_async = false; in_generator = false }

abbrev pub strict_words : List String
strict_words = codes "implements" ∷ codes "interface" ∷ codes "let" ∷ codes "package" ∷ codes "private" ∷ codes "protected" ∷ codes "public" ∷ codes "static" ∷ codes "yield" ∷ []

abbrev pub is_reserved_word : Words → String → Bool
is_reserved_word w s = (w.in_strict && is_among s strict_words) || (((w.in_module || (w.in_block || w.in_async)) && bytes_eq s (codes "await")) || (w.in_generator && bytes_eq s (codes "yield")))

abbrev pub is_reserved : Words → Kind → Parts → Bool
is_reserved w Kind.IdentifierReference ps = is_reserved_word w (string_of (at 0 ps)) || (w.in_element && bytes_eq (string_of (at 0 ps)) (codes "arguments"))
is_reserved w Kind.BindingIdentifier ps = is_reserved_word w (string_of (at 0 ps)) || (w.in_strict && is_among (string_of (at 0 ps)) (codes "eval" ∷ codes "arguments" ∷ []))
is_reserved w kind ps = false

-- the name of a declaration stands around its function
abbrev pub function_words : Words → Parts → Words
function_words w ps = record w { in_block = false; in_element = false; in_async = is_true (at 3 ps); in_generator = is_true (at 4 ps) }

abbrev pub declaration_words : Words → Parts → ℕ → Words
declaration_words w ps zero = w
declaration_words w ps (suc i) = function_words w ps

-- the parameters of an arrow stand around its body
abbrev pub arrow_words : Words → Parts → ℕ → Words
arrow_words w ps zero = record w { in_async = w.in_async || is_true (at 2 ps) }
arrow_words w ps (suc i) = record w { in_block = false; in_async = is_true (at 2 ps); in_generator = false }

abbrev pub field_words : Words → ℕ → Words
field_words w zero = w
field_words w (suc i) = record w { in_block = false; in_element = true; in_async = false; in_generator = false }

abbrev pub words_inside : Words → Kind → Parts → ℕ → Words
words_inside w Kind.Program ps i = record w { in_module = bytes_eq (string_of (at 0 ps)) (codes "module") }
words_inside w Kind.FunctionDeclaration ps i = declaration_words w ps i
words_inside w Kind.FunctionExpression ps i = function_words w ps
words_inside w Kind.ArrowFunctionExpression ps i = arrow_words w ps i
words_inside w Kind.PropertyDefinition ps i = field_words w i
words_inside w Kind.StaticBlock ps i = record w { in_block = true; in_element = true; in_async = false; in_generator = false }
words_inside w kind ps i = w

abbrev pub strict_if : Bool → Words → Words
strict_if strict w = record w { in_strict = strict || w.in_strict }

abbrev mutual
  pub has_reserved : Words → Tree → Bool
  has_reserved w (Node kind m span semantic_id ps) = is_reserved w kind ps || reserved_in (words_inside (strict_if (makes_strict kind ps) w) kind ps) ps

  pub reserved_in : (ℕ → Words) → Parts → Bool
  reserved_in words end = false
  reserved_in words (more p ps) = reserved_at (words 0) p || reserved_in (λ i. words (suc i)) ps

  pub reserved_at : Words → Part → Bool
  reserved_at w (child t) = has_reserved w t
  reserved_at w (list ps) = reserved_in (λ i. w) ps
  reserved_at w p = false
