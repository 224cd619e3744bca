use Rattle.std.proofs.Common.{◌∙◌, ap}
use Rattle.std.specs.Str.{chars}
use Rattle.es_base.specs.Conforms.{is_among}
use Rattle.es_names.proofs.Keyed.{among-strings_of}
use Rattle.es_names.proofs.spellings.Spellings.contains.Goals as goal

pub returns : goal.returns
returns c =
    c.contains.ensures
    ∙ among-strings_of c.args.string.now c.utf8.string c.self.inside.strings.keys
    ∙ ap (is_among (chars c.args.string.now)) c.self.view_is
