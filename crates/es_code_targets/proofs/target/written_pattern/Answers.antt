use Rattle.std.proofs.Common.{ap, sym, ◌∙◌}
use Rattle.es_code_targets.proofs.Written.{of_pattern, of_setter}
use Rattle.es_codes.specs.CodeView.{target_of}
use Rattle.es_code_targets.proofs.target.written_pattern.Goals as goal

pub returns-in-Setter : goal.returns-in-Setter
returns-in-Setter c = c.to_setter.ensures ∙ sym (of_setter c.args.code c.in-Setter.node c.in-Setter.key c.in-Setter.object c.in-Setter.is)

pub returns-in-Pattern : goal.returns-in-Pattern
returns-in-Pattern c = ap target_of c.into_inner.ensures ∙ sym (of_pattern c.args.code c.in-Pattern.node c.in-Pattern.to c.in-Pattern.is)
