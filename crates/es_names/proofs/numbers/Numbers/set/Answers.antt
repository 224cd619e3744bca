use Rattle.std.proofs.Common.{◌∙◌, ap, Some, cond}
use Rattle.std.specs.Prelude.{bytes_eq}
use Rattle.std.specs.Str.{chars}
use Rattle.es_names.specs.Taken.{number_of, numbers_of}
use Rattle.es_names.proofs.Keyed.{number-insert}
use Rattle.es_names.proofs.numbers.Numbers.set.Goals as goal

pub returns-clause-ok : goal.returns-clause-ok
returns-clause-ok c other =
    ap (λ es. number_of other (numbers_of es)) c.in_ok-insert.ensures.entries
    ∙ number-insert c.args.base.now c.utf8.base c.self.inside.numbers.entries c.in_ok-key.key c.args.number c.in_ok-key.ensures.ok other
    ∙ ap (λ all. cond (bytes_eq other (chars c.args.base.now)) (Some c.args.number) (number_of other all)) c.self.view_is
