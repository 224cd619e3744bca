use Rattle.std.proofs.Common.{◌∙◌, ap}
use Rattle.std.specs.Str.{chars}
use Rattle.es_names.specs.Taken.{number_of}
use Rattle.es_names.proofs.Keyed.{number-numbers_of}
use Rattle.es_names.proofs.numbers.Numbers.get.Goals as goal

pub returns : goal.returns
returns c =
    c.copied.ensures ∙ c.get.ensures.value
    ∙ number-numbers_of c.args.base.now c.utf8.base c.self.inside.numbers.entries
    ∙ ap (number_of (chars c.args.base.now)) c.self.view_is
