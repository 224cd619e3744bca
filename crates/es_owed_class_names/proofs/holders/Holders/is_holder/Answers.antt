use Rattle.std.proofs.Common.{ap, sym, ◌∙◌}
use Rattle.es_lowered.specs.ClassNames.{holds_class}
use Rattle.es_steps.specs.References.{has_number}
use Rattle.es_owed_class_names.proofs.holders.Holders.is_holder.Goals as goal

pub returns-then-has : goal.returns-then-has
returns-then-has c =
    let holders = c.args.self.now in
    let k = c.args.function in
    let n = c.args.class in
    c.has_number.ensures
    ∙ ap (has_number k) c.get.ensures
    ∙ holders.are_its k n c.requires (sym c.has.ensures ∙ c.if-has.true)
    ∙ ap (holds_class k n) holders.lowered.now.in_preorder
