-- The laws of what is written again, as the contracts of src/law.rt name them.
use Rattle.std.specs.Prelude.{◌≡◌, ◌↔◌, ℕ, List, [], ◌∷◌, Bool, true, false, Option}
use Rattle.es_base.specs.Tree.{Tree, child, literal as literal_part}
use Rattle.es_base.specs.declared.ids.SymbolId.{SymbolId}
use Rattle.es_base.specs.declared.kind.Kind.{Kind}
use Rattle.es_base.specs.declared.literal.LiteralValue.{LiteralValue}
use Rattle.es_duplicates.specs.Repetition.{is_mutated, key_needs_temporary}
use Rattle.es_expression.specs.Expression.{template_element, template_literal}
use Rattle.es_expression.specs.Literal.{literal}
use Rattle.es_node.specs.View.{kind_of}
use Rattle.es_scopes.specs.Table.{Table, IsMutated}
use Rattle.es_steps.specs.Code.{Opened}
use Rattle.es_steps.specs.Context.{Context}
use Rattle.es_steps.specs.Evaluation.{Evaluation, ev, gives}
use Rattle.es_steps.specs.LoweredClasses.{is_regular_expression, needs_temporary}
use Rattle.es_steps.specs.Reading.{read}
use Rattle.es_steps.specs.References.{Reference}
use Rattle.es_steps.specs.Values.{Value}

abbrev pub Span : Type 0
Span = Option (ℕ × ℕ)

-- a literal gives one value, whatever its number and the place
abbrev pub LiteralLaw : Type 0
LiteralLaw = (value : LiteralValue) → is_regular_expression (literal_part value) ≡ false
    → (v : Value) × ((opens : Opened → Evaluation) (c : Context) (n : ℕ) (span : Span) → ev opens (read c (literal n span value)) ≡ gives v)

-- and so does a template of one string
abbrev pub TemplateLaw : Type 0
TemplateLaw = (raw : List ℕ) (cooked : Option (List ℕ)) (tail : Bool)
    → (v : Value) × ((opens : Opened → Evaluation) (c : Context) (n k : ℕ) (span string_span : Span) → ev opens (read c (template_literal n span (template_element k string_span raw cooked tail ∷ []) [])) ≡ gives v)

abbrev pub MutatedLaw : Type 0
MutatedLaw = (t : Table) (y : SymbolId) → (is_mutated t y ≡ true) ↔ IsMutated t y

abbrev pub KeyLaw : Type 0
KeyLaw = (t : Table) (written : List ℕ) (references : List Reference) (key : Tree) → (kind_of key ≡ Kind.IdentifierReference → ⊥) → key_needs_temporary t key ≡ needs_temporary written references (child key)
