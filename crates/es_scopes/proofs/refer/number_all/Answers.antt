use Rattle.std.proofs.Common.{subst, sym, []}
use Rattle.es_scopes.specs.Tables.{declared, none_declared}
use Rattle.es_scopes.specs.declared.refer.Numbering.{Numbering}
use Rattle.es_scopes.proofs.TableSteps.{Numbers, numbers-start, numbers-more}
use Rattle.es_scopes.proofs.refer.number_all.Goals as goal

pub loop-entry-init : goal.loop-entry-init
loop-entry-init c =
    let start : Numbering = record { declarations = declared none_declared c.args.entries.now; ids = []; next_scope = 0 } in
    subst (λ (n : Numbering). Numbers c.args.entries.now start 0 n) (λ i. record { declarations = sym c.in_ok-declare_all.ensures i; ids = sym c.new.ensures i; next_scope = 0 }) (numbers-start c.args.entries.now c.requires.ordered)

pub loop-entry-preserved : goal.loop-entry-preserved
loop-entry-preserved c = numbers-more c.args.entries.now _ c.loop-entry.entry-index c.loop-entry.numbering c.number.new.self c.entry-item.result c.loop-entry-test.true c.entry-item.is c.in_ok-number.ensures c.loop-entry.invariant
