use Rattle.std.proofs.Common.{sym, ◌∙◌}
use Rattle.es_code_classes.proofs.Returns.{ends_last}
use Rattle.es_code_classes.proofs.arrow.ends_with_return.Goals as goal

pub returns-in-Some : goal.returns-in-Some
returns-in-Some c = c.is_new_return.ensures ∙ sym (ends_last c.args.codes.now c.in-Some.last.now (sym c.in-Some.ensures.value))
