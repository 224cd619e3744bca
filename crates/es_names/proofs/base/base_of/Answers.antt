use Rattle.std.proofs.Common.{◌≡◌, ◌∙◌, sym, ap, length, arith}
use Rattle.std.proofs.lemmas.Bool.Decides.{nat_tests}
use Rattle.es_names.specs.Candidates.{without_digits, or_temp}
use Rattle.es_names.proofs.Bases.{or_temp-empty, or_temp-kept, temp_chars}
use Rattle.es_names.proofs.base.base_of.Goals as goal

pub returns-then-is_empty : goal.returns-then-is_empty
returns-then-is_empty c =
    let rest = c.without_digits-base.result.now in
    let none : length rest ≡ 0 = let t = sym c.if-is_empty.true ∙ c.is_empty.ensures in grind (arith, nat_tests, t) in
    temp_chars ∙ or_temp-empty rest c.without_digits-base.utf8 none ∙ ap or_temp (c.without_digits-base.ensures ∙ ap without_digits c.without_underscores.ensures)

pub returns-else-is_empty : goal.returns-else-is_empty
returns-else-is_empty c =
    let rest = c.without_digits-base.result.now in
    let some : ¬ (length rest ≡ 0) = λ e. (let t = sym c.if-is_empty.false ∙ c.is_empty.ensures in grind (arith, nat_tests, t, e)) in
    or_temp-kept rest c.without_digits-base.utf8 some ∙ ap or_temp (c.without_digits-base.ensures ∙ ap without_digits c.without_underscores.ensures)
