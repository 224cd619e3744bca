use Rattle.std.proofs.Common.{◌∙◌, ap}
use Rattle.std.specs.Str.{chars}
use Rattle.es_scopes.specs.Bindings.{lookup}
use Rattle.es_scopes.proofs.BindingLemmas.{lookup-names_of}
use Rattle.es_scopes.proofs.bindings.Bindings.get.Goals as goal

pub returns : goal.returns
returns c =
    c.copied.ensures ∙ c.get.ensures.value
    ∙ lookup-names_of c.args.name.now c.utf8.name c.self.inside.symbols.entries
    ∙ ap (lookup (chars c.args.name.now)) c.self.view_is
