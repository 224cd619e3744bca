use Rattle.std.proofs.Common.{◌∙◌, sym, true≢false}
use Rattle.lower_run.proofs.Owed.{unchanged-owed}
use Rattle.lower_run.specs.Lowering.{IsPlain}
use Rattle.lower_with.proofs.judged.lower_judged.Goals as goal

pub returns-then-nothing_left-clause-made : goal.returns-then-nothing_left-clause-made
returns-then-nothing_left-clause-made g c =
    let same = c.in_ok-unchanged.ensures in
    let o = c.args.options.now in
    let none = c.if-nothing_left.ensures in
    record {
      owed = unchanged-owed (IsPlain o c.args.source) o c.args.source c.in_ok-unchanged.field-0.program c.in_ok-unchanged.field-0.names.entries c.requires.preorder (sym none) same.program same.unnamed;
      made = λ some. absurd (true≢false (none ∙ some));
    }
