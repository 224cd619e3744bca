-- Functions that are called where they stand.
use Rattle.std.specs.Prelude.{ℕ, List, [], ◌∷◌, false, Option, Some, None, bit_or}
use Rattle.es_base.specs.Numbered.{unnumbered}
use Rattle.es_base.specs.Tree.{Tree}
use Rattle.es_declaration.specs.Function.{arrow_function_expression}
use Rattle.es_expression.specs.Expression.{call_expression}
use Rattle.es_scopes.specs.declared.flags.ScopeFlags.{ScopeFlags}
use Rattle.es_scopes.specs.declared.flags.TheConstants.ScopeFlags as flag
use Rattle.es_statement.specs.Statement.{block_statement, return_statement}

abbrev pub arrow_flags : ScopeFlags
arrow_flags = record { 0 = bit_or flag.FUNCTION.0 flag.ARROW.0 }

-- the numbers and spans of the call, the arrow and its body, and the scope of the arrow
pub record Numbers : Type 0 where
  pub call : ℕ
  pub arrow : ℕ
  pub body : ℕ
  pub scope : Option ℕ
  pub call_span : Option (ℕ × ℕ)
  pub arrow_span : Option (ℕ × ℕ)
  pub body_span : Option (ℕ × ℕ)

abbrev pub body_of : Numbers → List Tree → Tree
body_of n statements = block_statement n.body n.body_span None statements

abbrev pub arrow_of : Numbers → List Tree → Tree
arrow_of n statements = arrow_function_expression n.arrow n.arrow_span n.scope [] (body_of n statements) false

-- `(() => { statements })()`
abbrev pub called : Numbers → List Tree → Tree
called n statements = call_expression n.call n.call_span (arrow_of n statements) [] false

-- as they are made: without numbers and spans, where the arrow has scope s
abbrev pub made : ℕ → Numbers
made s = record { call = unnumbered; arrow = unnumbered; body = unnumbered; scope = Some s; call_span = None; arrow_span = None; body_span = None }

-- `(() => { return e; })()`
abbrev pub called_with_value : ℕ → Tree → Tree
called_with_value s e = called (made s) (return_statement unnumbered None (Some e) ∷ [])
