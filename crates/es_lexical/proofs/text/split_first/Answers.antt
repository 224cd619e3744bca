use Rattle.std.proofs.Common.{sym, ap, ◌∙◌, subst, ◌∷◌, drop, length, rules, tests}
use lib.Utf8.{encode}
use Rattle.std.specs.Str.{chars, IsCharBoundary}
use Rattle.std.proofs.lemmas.Str.{IsCharBoundary-at_seam, IsUtf8-past_char, chars_past_char}
use Rattle.es_lexical.proofs.Scanning.{behind_first, no_characters}
use Rattle.es_lexical.proofs.text.split_first.Goals as goal

pub len_utf8-requires : goal.len_utf8-requires
len_utf8-requires c = search (tests, rules)

pub range_from-requires : goal.range_from-requires
range_from-requires c = let x = c.in-Some.first in let e = sym c.chars.ensures.rest ∙ c.in-Some.ensures.steps.0 in let cut = IsCharBoundary-at_seam c.args.text.now (encode x) _ e (IsUtf8-past_char c.args.text.now _ x c.utf8.text e) in λ _. subst (IsCharBoundary c.args.text.now) (sym c.len_utf8.ensures.len) cut

pub returns-in-Some-clause-some : goal.returns-in-Some-clause-some
returns-in-Some-clause-some c =
    let e = sym c.chars.ensures.rest ∙ c.in-Some.ensures.steps.0 in
    chars_past_char c.args.text.now _ c.in-Some.first c.utf8.text e
    ∙ ap (λ r. c.in-Some.first ∷ chars r) (sym (c.range_from.ensures.value ∙ ap (λ n. drop n c.args.text.now) c.len_utf8.ensures.value ∙ behind_first c.args.text.now _ c.in-Some.first e))

pub returns-in-None-clause-none : goal.returns-in-None-clause-none
returns-in-None-clause-none c = no_characters c.args.text.now (ap (λ bs. length bs) (sym c.chars.ensures.rest) ∙ c.in-None.ensures.steps.0.0)
