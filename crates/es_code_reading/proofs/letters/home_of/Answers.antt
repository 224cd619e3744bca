use Rattle.std.proofs.Common.{◌∙◌, sym, ap, cond, None}
use Rattle.std.specs.Prelude.{codes}
use Rattle.es_codes.specs.CodeView.{code_of}
use Rattle.es_steps.specs.GeneratedForms.{is_string, prototype_home, class_named}
use Rattle.es_code_reading.proofs.Homes.{a_member}
use Rattle.es_code_reading.proofs.letters.home_of.Goals as goal

pub returns-in-Member : goal.returns-in-Member
returns-in-Member c =
    c.member_home.ensures
    ∙ ap (λ o. cond (is_string (codes "prototype") (code_of c.get-in-Member.result.now)) (prototype_home (class_named (code_of o))) None) c.get.ensures
    ∙ ap (λ k. cond (is_string (codes "prototype") (code_of k)) (prototype_home (class_named (code_of c.in-Member.object))) None) c.get-in-Member.ensures
    ∙ sym (a_member c.args.code.now c.in-Member.node c.in-Member.object c.in-Member.key c.in-Member.is)
