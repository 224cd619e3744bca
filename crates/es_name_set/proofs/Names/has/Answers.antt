use Rattle.std.proofs.Common.{◌∙◌, ap}
use Rattle.es_base.specs.Conforms.{is_among}
use Rattle.std.specs.Str.{chars}
use Rattle.es_name_set.proofs.NameSets.{looked_up}
use Rattle.es_name_set.proofs.Names.has.Goals as goal

pub returns : goal.returns
returns c = c.contains.ensures ∙ looked_up c.args.string.now c.self.inside.strings.keys c.utf8.string c.self.invariant ∙ ap (is_among (chars c.args.string.now)) c.self.view_is
