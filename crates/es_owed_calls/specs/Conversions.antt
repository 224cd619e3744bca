-- What is known of a lowered program in code, as definitions see it, node by node.
use Rattle.std.specs.Prelude.{ℕ, List, [], ◌∷◌, Bool, true, false, cond, ◌&&◌}
use Rattle.es_base.specs.Numbered.{is_new}
use Rattle.es_base.specs.Tree.{Tree, Node}
use Rattle.es_base.specs.declared.kind.Kind.{Kind}
use Rattle.es_base.specs.declared.ledger.LedgerEntry.{LedgerEntry}
use Rattle.es_base.specs.declared.literal.LiteralValue.{LiteralValue}
use Rattle.es_base.specs.declared.literal.LiteralValue.TheVariants as literal_value
use Rattle.es_lowered.specs.HelperCalls.{Conversions, is_new_private, private_spelling}
use Rattle.es_owed_calls.specs.Strings.{strings}
use Rattle.es_owed_calls.specs.declared.conversions.Conversions as code
use Rattle.es_steps.specs.Parts.{at, is_true}
use Rattle.es_steps.specs.Printable.{name_of_part}
use Rattle.es_steps.specs.Values.{String}

abbrev pub conversions_view : code.Conversions → Conversions
conversions_view x = record { naming = x.naming; converted = strings x.converted.items; privates = strings x.privates.items }

abbrev pub new_private_name : ℕ → List LedgerEntry → Tree → List String
new_private_name first ledger (Node Kind.PropertyDefinition m span semantic_id ps) = cond (is_new_private first ledger (at 0 ps)) (name_of_part (at 0 ps) ∷ []) []
new_private_name first ledger t = []

abbrev pub private_key : ℕ → List LedgerEntry → Tree → List String
private_key first ledger (Node Kind.Property m span semantic_id ps) = cond (is_new first m && is_true (at 5 ps)) (private_spelling first ledger (at 0 ps)) []
private_key first ledger t = []

abbrev pub is_string_value : LiteralValue → Bool
is_string_value (literal_value.String s raw) = true
is_string_value v = false
