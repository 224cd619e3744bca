use Rattle.std.proofs.Common.{◌∙◌, ap}
use Rattle.es_owed.specs.Listed.{numbered}
use Rattle.es_owed_calls.proofs.SourceClasses.{class_numbered}
use Rattle.es_owed_calls.specs.KeptKeys.{any_class}
use Rattle.es_base.specs.Preorder.{preorder}
use Rattle.es_owed_calls.proofs.kept_keys.is_source_class.Goals as goal

pub returns : goal.returns
returns c =
    let x = c.args.lowering.now.source.now in
    c.any_class.ensures ∙ ap any_class (c.numbered.ensures ∙ ap (numbered c.args.class) x.in_preorder) ∙ class_numbered c.args.class (preorder x.program.now)
