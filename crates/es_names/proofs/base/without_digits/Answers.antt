use Rattle.std.proofs.Common.{rules}
use Rattle.std.proofs.lemmas.Fn.{always_returns_same}
use Rattle.es_names.proofs.Bases.{trimmed_end}
use Rattle.es_names.proofs.base.without_digits.Goals as goal

pub returns : goal.returns
returns c = trimmed_end _ c.args.string.now c.utf8.string c.trim_end_matches.result.now c.trim_end_matches.ensures.matches (always_returns_same _ _ _ (λ a r f k. search rules))
