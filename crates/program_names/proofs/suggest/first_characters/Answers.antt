use Rattle.std.proofs.Common.{◌≡◌, ◌∙◌, ◌<◌, ◌≤◌, ℕ, sym, ap, get_or, length, arith}
use Rattle.std.specs.Str.{chars}
use Rattle.std.specs.String.{string_bytes}
use Rattle.std.proofs.lemmas.Iterator.{YieldsList-from_chars}
use Rattle.std.proofs.lemmas.Iterator.Consumers.{YieldsList-turn, YieldsList-end}
use Rattle.std.proofs.lemmas.List.{length_push}
use Rattle.program_names.proofs.Names.{first_more, first_all, first_cut}
use Rattle.program_names.proofs.suggest.first_characters.Goals as goal

pub returns-then-count-eq20 : goal.returns-then-count-eq20
returns-then-count-eq20 c = first_cut c.args.string.now (string_bytes c.loop-c.first) c.loop-c.count c.utf8.string c.loop-c.invariant.2 c.if-count-eq20.true

pub loop-c-preserved : goal.loop-c-preserved
loop-c-preserved c =
    let t = YieldsList-turn (YieldsList-from_chars c.args.string.now c.utf8.string cc) c.loop-c.yielded _ c.loop-c.yielded_by _ _ c.in-Some.c c.in-Some.is c.next.ensures.steps in
    let n = length_push c.loop-c.yielded c.in-Some.c in
    let fewer : c.loop-c.count < 20 = omega (arith, c.loop-c.invariant.1, c.if-count-eq20.false) in (
      omega (arith, c.loop-c.invariant.0, n),
      omega (arith, fewer),
      first_more (chars c.args.string.now) (string_bytes c.loop-c.first) (string_bytes c.push.new.self) c.loop-c.count c.in-Some.c (omega (arith, t.0, c.loop-c.invariant.0), t.1 ∙ ap (λ (n : ℕ). get_or (chars c.args.string.now) n c.in-Some.c) (sym c.loop-c.invariant.0)) c.loop-c.invariant.2 c.in_ok-push.ensures.bytes,
    )

pub returns : goal.returns
returns c =
    let t = YieldsList-end (YieldsList-from_chars c.args.string.now c.utf8.string cc) c.loop-c.yielded _ c.loop-c.yielded_by _ _ c.in-None.is c.next.ensures.steps in
    first_all c.args.string.now (string_bytes c.loop-c.first) c.loop-c.count c.utf8.string c.loop-c.invariant.2 (omega (arith, t.1, c.loop-c.invariant.0)) c.loop-c.invariant.1
