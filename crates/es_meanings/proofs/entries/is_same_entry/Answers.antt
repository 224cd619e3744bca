use Rattle.std.proofs.Common.{◌≡◌, sym, subst}
use Rattle.std.specs.Prelude.{◌↔◌, IsTrue}
use Rattle.es_meanings.proofs.Pairs.{entries_alike}
use Rattle.es_meanings.proofs.entries.is_same_entry.Goals as goal

pub returns : goal.returns
returns c = λ e g en ex gn gy.
    let x = c.args.left.now in
    let y = c.args.right.now in
    subst (λ t. IsTrue t ↔ (e ≡ g)) (sym c.has_same.ensures) (entries_alike x.number y.number x.value y.value c.is_same-values.result c.is_same-values.ensures e g en ex gn gy)
