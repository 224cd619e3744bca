use Rattle.std.proofs.Common.{◌≡◌, ap, sym, ◌∙◌, List, true, false}
use Rattle.std.specs.Prelude.{◌&&◌}
use Rattle.es_base.specs.Preorder.{preorder}
use Rattle.es_base.specs.Tree.{Tree}
use Rattle.es_binding_faults.specs.Seen.{seen}
use Rattle.es_lowered.specs.ClassLets.{class_lets_fit}
use Rattle.es_clauses.specs.References.{zones_stay}
use Rattle.es_clauses.proofs.references.lets_stay.Goals as goal

pub returns-in_ok-zones_stay : goal.returns-in_ok-zones_stay
returns-in_ok-zones_stay c =
    let pair = c.args.pair.now in
    let p = pair.source.program.now in
    let q = pair.lowered.program.now in
    let nodes : seen c.as_slice-nodes.result.now ≡ preorder p = ap seen c.as_slice-nodes.ensures.value ∙ pair.source.in_preorder in
    let fits : class_lets_fit pair.first (preorder p) q ≡ true = ap (λ (ns : List Tree). class_lets_fit pair.first ns q) (sym nodes) ∙ sym c.in_ok-class_lets_fit.ensures ∙ c.if-branch.true in
    c.in_ok-zones_stay.ensures ∙ sym (ap (λ b. b && zones_stay pair.first pair.options.now pair.ledger.now p q) fits)

pub returns-else-branch : goal.returns-else-branch
returns-else-branch c =
    let pair = c.args.pair.now in
    let p = pair.source.program.now in
    let q = pair.lowered.program.now in
    let nodes : seen c.as_slice-nodes.result.now ≡ preorder p = ap seen c.as_slice-nodes.ensures.value ∙ pair.source.in_preorder in
    let fails : class_lets_fit pair.first (preorder p) q ≡ false = ap (λ (ns : List Tree). class_lets_fit pair.first ns q) (sym nodes) ∙ sym c.in_ok-class_lets_fit.ensures ∙ c.if-branch.false in
    c.if-branch.false ∙ sym (ap (λ b. b && zones_stay pair.first pair.options.now pair.ledger.now p q) fails)
