use Rattle.std.proofs.Common.{◌∙◌, ap}
use Rattle.std.specs.Str.{chars}
use Rattle.std.specs.String.{string_bytes}
use Rattle.es_names.specs.Taken.{strings_of, with_string}
use Rattle.es_names.proofs.Keyed.{strings_of-insert}
use Rattle.es_names.proofs.spellings.Spellings.insert.Goals as goal

pub returns-clause-ok : goal.returns-clause-ok
returns-clause-ok c =
    ap strings_of c.in_ok-insert.ensures.keys
    ∙ strings_of-insert c.self.inside.strings.keys c.args.string
    ∙ ap (λ all. with_string all (chars (string_bytes c.args.string))) c.self.view_is
