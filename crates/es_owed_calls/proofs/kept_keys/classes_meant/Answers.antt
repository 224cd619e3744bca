use Rattle.std.proofs.Common.{◌∙◌, ap}
use Rattle.es_base.specs.Preorder.{preorder}
use Rattle.es_lowered.specs.Definitions.{class_identifiers}
use Rattle.es_referents.specs.Meanings.{referent_in}
use Rattle.es_steps.specs.LoweredClasses.{referent_of}
use Rattle.es_steps.specs.References.{has_number, resolve}
use Rattle.es_owed_calls.proofs.SourceClasses.{classes_meant}
use Rattle.es_owed_calls.proofs.kept_keys.classes_meant.Goals as goal

pub returns : goal.returns
returns c =
    let x = c.args.lowering.now in
    let p = x.source.now.program.now in
    λ n. ap (has_number n) c.declared_by.ensures ∙ classes_meant x.source_classes n (class_identifiers x.first n (preorder p)) (referent_in c.at.result) (referent_of c.args.number (resolve p)) (λ b. x.source_classes_are b n) (c.at.ensures ∙ ap (referent_of c.args.number) x.source.now.are_resolved)
