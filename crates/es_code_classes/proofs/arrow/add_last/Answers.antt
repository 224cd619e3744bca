use Rattle.std.proofs.Common.{sym, ap, ◌∙◌}
use Rattle.std.proofs.lemmas.Result.{on_ok_weaker}
use Rattle.es_codes.specs.CodeView.{codes_of}
use Rattle.es_steps.specs.Code.{joined}
use Rattle.es_code_classes.proofs.Returns.{last_other, last_return}
use Rattle.es_code_classes.proofs.arrow.add_last.Goals as goal

pub returns-in-NewReturn : goal.returns-in-NewReturn
returns-in-NewReturn c = on_ok_weaker c.add_returned.result (λ e. e ∙ ap (joined (codes_of c.args.to.now)) (sym (last_return c.args.last c.in-NewReturn.argument c.in-NewReturn.is))) c.add_returned.ensures

pub returns-in_default : goal.returns-in_default
returns-in_default c = on_ok_weaker c.add_statement.result (λ e. e ∙ ap (joined (codes_of c.args.to.now)) (sym (last_other c.args.last c.in_default.not-NewReturn))) c.add_statement.ensures
