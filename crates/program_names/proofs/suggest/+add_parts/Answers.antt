use Rattle.std.proofs.Common.{refl}
use Rattle.std.specs.Prelude.{codes}
use Rattle.std.specs.String.{string_bytes}
use Rattle.std.proofs.lemmas.Result.{on_ok_weaker}
use Rattle.es_base.proofs.Ascii.{chars_ascii}
use Rattle.program_names.proofs.Names.{this_parts, super_parts, word_added}
use Rattle.program_names.proofs.suggest.+add_parts.Goals as goal

pub returns-in-ThisExpression : goal.returns-in-ThisExpression
returns-in-ThisExpression t c =
    on_ok_weaker c.add_part-in-ThisExpression.result (word_added (string_bytes c.args.name.now) (codes "this") (string_bytes c.add_part-in-ThisExpression.new.name) c.args.node.now (chars_ascii (codes "this") refl) (this_parts c.args.node.now c.in-ThisExpression.ensures)) c.add_part-in-ThisExpression.ensures

pub returns-in-Super : goal.returns-in-Super
returns-in-Super t c =
    on_ok_weaker c.add_part-in-Super.result (word_added (string_bytes c.args.name.now) (codes "super") (string_bytes c.add_part-in-Super.new.name) c.args.node.now (chars_ascii (codes "super") refl) (super_parts c.args.node.now c.in-Super.ensures)) c.add_part-in-Super.ensures
