use Rattle.std.proofs.Common.{◌∙◌, sym, ap}
use Rattle.std.specs.Str.{chars}
use Rattle.es_binding_faults.proofs.RepeatNames.{repeat_of_all, repeat_of_lexical}
use Rattle.es_binding_faults.specs.Named.{declaration_of}
use Rattle.es_binding_faults.specs.Repeats.{is_below}
use Rattle.es_binding_faults.proofs.repeats.is_repeat.Goals as goal

pub returns-then-has : goal.returns-then-has
returns-then-has c = λ ds all lets.
    let d = c.args.declared.now in
    c.is_below.ensures ∙ ap (λ o. is_below o d.node.0) (c.get.ensures ∙ all (chars d.name.now)) ∙ repeat_of_all c.args.lexical.now ds (declaration_of d) (sym c.if-has.ensures)

pub returns-else-has : goal.returns-else-has
returns-else-has c = λ ds all lets.
    let d = c.args.declared.now in
    c.is_below-else-has.ensures ∙ ap (λ o. is_below o d.node.0) (c.get-else-has.ensures ∙ lets (chars d.name.now)) ∙ repeat_of_lexical c.args.lexical.now ds (declaration_of d) (sym c.if-has.ensures)
