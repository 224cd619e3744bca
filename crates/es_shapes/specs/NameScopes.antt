-- Blocks that move, element by element.
use Rattle.std.specs.Prelude.{List, Bool, true, false, not, ◌&&◌, ◌||◌, Option, Some, None}
use Rattle.es_base.specs.declared.literal.LiteralValue.{LiteralValue}
use Rattle.es_base.specs.declared.literal.LiteralValue.TheVariants as literal_value
use Rattle.es_steps.specs.LoweredClasses.{Element, any_element}
use Rattle.es_steps.specs.NameScopes.{is_static_field, names_its_value, has_moving_blocks, has_static_name_scope, has_trailing_blocks, holds_at}

-- a field of instances gives its key as a name to a value with blocks that move
abbrev pub names_in_instance : Element → Bool
names_in_instance e = not e.is_static && (names_its_value e && holds_at has_moving_blocks e.value)

abbrev pub is_string : LiteralValue → Bool
is_string (literal_value.String s raw) = true
is_string v = false

-- a static field that takes blocks was met that gives its key as a name, or one stands among these, with blocks in front
-- or not
abbrev pub named_or : Option Bool → List Element → Bool
named_or None es = true
named_or (Some blocks) es = has_static_name_scope blocks es

-- blocks were met or stand among these, and no static field does
abbrev pub ends_with : Bool → List Element → Bool
ends_with blocks es = (blocks || any_element (λ e. e.is_block) es) && not (any_element is_static_field es)

-- .. where a static field was met or not
abbrev pub ended : Option Bool → List Element → Bool
ended None es = false
ended (Some blocks) es = ends_with blocks es

-- blocks stand behind all static fields, where some were met or not
abbrev pub trails_with : Bool → List Element → Bool
trails_with blocks es = has_trailing_blocks es || ends_with blocks es

abbrev pub or_false : Option Bool → Bool
or_false None = false
or_false (Some b) = b
