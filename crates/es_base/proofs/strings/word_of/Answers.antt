use Rattle.std.proofs.Common.{◌≡◌, get_or, rules}
use Rattle.es_base.specs.Words.{word_string}
use Rattle.es_base.proofs.Spelling.{chars_of_word}
use Rattle.es_base.specs.declared.operator.Word.TheVariants as word
use Rattle.es_base.specs.declared.operator.SourceType.TheVariants as source_type
use Rattle.es_base.proofs.strings.word_of.Goals as goal

pub returns-then-is_word-clause-chars : goal.returns-then-is_word-clause-chars
returns-then-is_word-clause-chars c =
    let spelled : word_string (get_or c.all_of_set-word-items.result.now c.loop-word.word-index (word.SourceType source_type.Script)) ≡ c.args.string.now = search rules in
    chars_of_word _ _ spelled
