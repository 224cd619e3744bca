use Rattle.std.proofs.Common.{◌≡◌, ◌∙◌, ap}
use Rattle.std.specs.Str.{chars}
use Rattle.es_binding_faults.proofs.Appending.{IfOk-map}
use Rattle.es_binding_faults.specs.Seen.{seen}
use Rattle.es_lowered.specs.Lowered.{keys_in}
use Rattle.es_owed_names.proofs.Declarations.{keys_numbered}
use Rattle.es_owed_names.proofs.declared.keys_in_class.Goals as goal

pub returns : goal.returns
returns c =
    let nodes = seen c.args.lowered.now.nodes.items in
    let keys = keys_in c.args.first c.args.class (chars c.args.name.now) in
    IfOk-map c.keys_in.result
    (λ r. r.items ≡ keys (seen c.numbered.result.now))
    (λ r. r.items ≡ keys nodes)
    (λ r h. h ∙ ap keys c.numbered.ensures ∙ keys_numbered c.args.first c.args.class (chars c.args.name.now) nodes)
    c.keys_in.ensures
