use Rattle.std.proofs.Common.{◌≡◌, ◌∙◌, sym, ap, length, arith}
use Rattle.std.specs.String.{string_bytes}
use Rattle.std.proofs.lemmas.Bool.Decides.{nat_tests}
use Rattle.std.proofs.lemmas.Str.{IsUtf8-string_bytes}
use Rattle.program_names.proofs.Names.{part_first, part_next}
use Rattle.program_names.proofs.suggest.add_part.Goals as goal

pub returns-in_ok-push_str : goal.returns-in_ok-push_str
returns-in_ok-push_str c =
    let none : length c.as_str.result.now ≡ 0 = let t = sym c.if-is_empty.true ∙ c.is_empty.ensures in grind (arith, nat_tests, t) in
    part_first (string_bytes c.args.name.now) c.args.part.now (string_bytes c.push_str.new.self) (ap length (sym c.as_str.ensures.value) ∙ none) c.in_ok-push_str.ensures.bytes

pub returns-in_ok-push_str-2 : goal.returns-in_ok-push_str-2
returns-in_ok-push_str-2 c =
    let some : ¬ (length c.as_str.result.now ≡ 0) = λ e. (let t = sym c.if-is_empty.false ∙ c.is_empty.ensures in grind (arith, nat_tests, t, e)) in
    part_next (string_bytes c.args.name.now) c.args.part.now (string_bytes c.push.new.self) (string_bytes c.push_str-else-is_empty.new.self)
    (IsUtf8-string_bytes c.args.name.now) (IsUtf8-string_bytes c.push.new.self) (λ e. some (ap length c.as_str.ensures.value ∙ e)) c.in_ok-push.ensures.bytes c.in_ok-push_str-2.ensures.bytes
