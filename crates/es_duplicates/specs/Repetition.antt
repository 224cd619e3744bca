-- How an expression is read more than once: written again, or held by a temporary.
use Rattle.std.specs.Prelude.{ℕ, Bool, true, false, cond, ◌||◌, ◌&&◌, not, Option, Some, None, is_some, option_and_then, slice_get}
use Rattle.std.specs.FinSet as set
use Rattle.std.specs.List.{list_any}
use Rattle.std.specs.Option.{option_map_or}
use Rattle.es_base.specs.Tree.{Tree, Node}
use Rattle.es_base.specs.declared.ids.SymbolId.{SymbolId}
use Rattle.es_base.specs.declared.kind.Kind.{Kind}
use Rattle.es_duplicates.specs.declared.repetition.Repetition.{Repetition}
use Rattle.es_scopes.specs.References.{writes}
use Rattle.es_scopes.specs.Row.{target_of}
use Rattle.es_scopes.specs.Table.{Table, reference_at, symbol_at}
use Rattle.es_steps.specs.LoweredClasses.{has_no_items, is_regular_expression}
use Rattle.es_steps.specs.Parts.{at}

-- ---- the symbol of a name

-- it is marked, or a reference on its list writes
abbrev pub is_mutated : Table → SymbolId → Bool
is_mutated t y = option_map_or (λ x. x.is_marked || list_any (λ r. writes (slice_get t.references r)) (set.items x.references)) (symbol_at t y) false

-- each reference means a symbol of the table, or none
abbrev pub if_there : Table → SymbolId → Option SymbolId
if_there t y = cond (is_some (symbol_at t y)) (Some y) None

-- what the reference of this number means
abbrev pub meant_symbol : Table → Option ℕ → Option SymbolId
meant_symbol t None = None
meant_symbol t (Some r) = option_and_then (if_there t) (option_and_then target_of (reference_at t (record { 0 = r })))

-- ---- the rule

-- a bound name is written again, unless it is mutated and that counts; a free one is held
abbrev pub name_repetition : Table → Bool → Option SymbolId → Repetition
name_repetition t mutated_counts None = Repetition.Held
name_repetition t mutated_counts (Some y) = cond (mutated_counts && is_mutated t y) Repetition.Held (Repetition.Name y)

abbrev pub constant_repetition : Bool → Repetition
constant_repetition true = Repetition.Copied
constant_repetition false = Repetition.Held

-- `this`, `super`, literals but regular expressions, and templates without expressions are copied; all that is none of these and
-- no name is held
abbrev pub repetition : Table → Bool → Tree → Repetition
repetition t mutated_counts (Node Kind.ThisExpression m span id ps) = Repetition.Copied
repetition t mutated_counts (Node Kind.Super m span id ps) = Repetition.Copied
repetition t mutated_counts (Node Kind.Literal m span id ps) = constant_repetition (not (is_regular_expression (at 0 ps)))
repetition t mutated_counts (Node Kind.TemplateLiteral m span id ps) = constant_repetition (has_no_items (at 1 ps))
repetition t mutated_counts (Node Kind.IdentifierReference m span id ps) = name_repetition t mutated_counts (meant_symbol t id)
repetition t mutated_counts e = Repetition.Held

-- ---- keys

abbrev pub is_held : Repetition → Bool
is_held Repetition.Held = true
is_held r = false

-- a key that is evaluated once and kept: what is held where a mutated name is, and `this`, which is another one inside the class
abbrev pub key_needs_temporary : Table → Tree → Bool
key_needs_temporary t (Node Kind.ThisExpression m span id ps) = true
key_needs_temporary t (Node Kind.Super m span id ps) = true
key_needs_temporary t e = is_held (repetition t true e)
