use Rattle.std.proofs.Common.{Some, sym, ap, ◌∙◌, arith}
use Rattle.borrowed_json.specs.Grammar.{alone, value_in}
use Rattle.borrowed_json.specs.View.{view}
use Rattle.borrowed_json.proofs.Agreement.{text_agrees}
use Rattle.borrowed_json.proofs.parse.parse_text.Goals as goal

pub returns-in_err-value-clause-err : goal.returns-in_err-value-clause-err
returns-in_err-value-clause-err c refused = text_agrees c.args.text.now ∙ ap alone (ap (value_in 127) (sym c.in_ok-reader.ensures.ok) ∙ c.next_value.ensures.err (grind arith))

pub returns-in-None-clause-ok : goal.returns-in-None-clause-ok
returns-in-None-clause-ok c =
    text_agrees c.args.text.now
    ∙ ap alone (ap (value_in 127) (sym c.in_ok-reader.ensures.ok) ∙ c.in_ok-value.ensures.ok ∙ ap (λ r. Some (view c.in_ok-value.value, r)) c.in-None.ensures.value.0)

pub returns-clause-err : goal.returns-clause-err
returns-clause-err c refused =
    text_agrees c.args.text.now
    ∙ ap alone (ap (value_in 127) (sym c.in_ok-reader.ensures.ok) ∙ c.in_ok-value.ensures.ok ∙ ap (λ r. Some (view c.in_ok-value.value, r)) c.in-Some.ensures.value)
