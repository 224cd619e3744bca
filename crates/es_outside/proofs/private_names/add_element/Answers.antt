use Rattle.std.proofs.Common.{◌∙◌}
use Rattle.std.specs.Str.{chars}
use Rattle.es_base.specs.Tree.{child}
use Rattle.es_binding_faults.proofs.Appending.{OnOk-map}
use Rattle.es_steps.specs.PrivateNames.{element_members}
use Rattle.es_outside.proofs.PrivateSets.{one_written}
use Rattle.es_outside.proofs.private_names.add_element.Goals as goal

pub returns-in_ok-insert-in-Some-clause-written : goal.returns-in_ok-insert-in-Some-clause-written
returns-in_ok-insert-in-Some-clause-written c = OnOk-map c.add_if_written.result _ _ (λ h s. h s ∙ one_written s (chars c.in-Some.member.name.now) c.in-Some.member.is_written c.args.written.now (element_members 0 (child c.args.element.now)) c.in-Some.ensures) c.add_if_written.ensures
