use Rattle.std.proofs.Common.{sym, ap, ◌∙◌}
use Rattle.es_binding_faults.specs.Seen.{seen}
use Rattle.es_owed_initialized.specs.Fronts.{first_of}
use Rattle.es_owed_initialized.proofs.Fronts.{front_kept}
use Rattle.es_owed_initialized.proofs.private_classes.PrivateClasses.front.Goals as goal

pub returns-in-Some : goal.returns-in-Some
returns-in-Some c =
    let source = seen c.args.source.now.nodes.items in
    let lowered = seen c.args.names.now.lowered.now.nodes.items in
    front_kept source lowered c.args.self.now.classes.items c.args.self.now.fronts c.args.class c.in-Some.front c.requires
    (sym (c.first_of.ensures ∙ ap first_of c.get.ensures) ∙ c.in-Some.is)
