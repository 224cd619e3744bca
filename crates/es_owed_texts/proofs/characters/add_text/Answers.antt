use Rattle.std.proofs.Common.{◌≡◌, [], rules, tests}
use Rattle.std.specs.Str.{chars}
use Rattle.es_steps.specs.References.{has_number}
use Rattle.es_owed_texts.proofs.NameCharacters.{all_characters, next_character}
use Rattle.es_owed_texts.proofs.characters.add_text.Goals as goal

pub loop-first-preserved : goal.loop-first-preserved
loop-first-preserved c = (c.in-Some.ensures.utf8, λ k. next_character k c.in-Some.first (has_number k c.loop-first.characters) (has_number k c.insert.new.self) _ (chars c.in-Some.behind.now) (chars c.loop-first.rest.now) (c.in_ok-insert.ensures k) c.in-Some.ensures.some (c.loop-first.invariant.1 k))

pub returns : goal.returns
returns c = λ k.
    let none = c.split_first.ensures.none in
    let default = c.in_default in
    let over : chars c.loop-first.rest.now ≡ [] = search (tests, rules) in
    all_characters k (has_number k c.loop-first.characters) _ (chars c.loop-first.rest.now) over (c.loop-first.invariant.1 k)
