use Rattle.std.proofs.Common.{◌≡◌, cond, drop, map, string_bytes}
use Rattle.lower_io.specs.Settings.{no_words, words_from, assuming}
use Rattle.lower_io.proofs.settings.words_of.Given as goal

abbrev pub invariant-loop-argument : goal.invariant-loop-argument
invariant-loop-argument l =
    cond l.is_assuming (assuming l.words (map string_bytes (drop l.argument-index l.arguments))) (words_from l.words (map string_bytes (drop l.argument-index l.arguments)))
    ≡ words_from no_words (map string_bytes l.arguments)
