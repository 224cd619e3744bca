use Rattle.std.proofs.Common.{◌∙◌, ap}
use Rattle.std.specs.Str.{chars}
use Rattle.es_seen_names.specs.Firsts.{first_of}
use Rattle.es_seen_names.proofs.FirstNames.{looked_up}
use Rattle.es_seen_names.proofs.firsts.Firsts.get.Goals as goal

pub returns : goal.returns
returns c = c.copied.ensures ∙ c.get.ensures.value ∙ looked_up c.args.name.now c.self.inside.declarations.entries c.utf8.name c.self.invariant ∙ ap (first_of (chars c.args.name.now)) c.self.view_is
