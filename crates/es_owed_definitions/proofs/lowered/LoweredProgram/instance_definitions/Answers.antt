use Rattle.std.proofs.Common.{◌≡◌, ◌∙◌, ◌++◌, ap}
use Rattle.es_base.specs.Preorder.{preorder}
use Rattle.es_binding_faults.proofs.Appending.{IfOk-map}
use Rattle.es_binding_faults.specs.Seen.{seen}
use Rattle.es_lowered.specs.Definitions as spec
use Rattle.es_owed.specs.Listed.{numbered}
use Rattle.es_owed_definitions.proofs.FoundDefinitions.{constructors_numbered}
use Rattle.es_owed_definitions.proofs.SuperNodes.{super_definitions_of}
use Rattle.es_owed_definitions.specs.Views.{definition_views}
use Rattle.es_owed_definitions.proofs.lowered.LoweredProgram.instance_definitions.Goals as goal

pub returns : goal.returns
returns c =
    let x = c.args.self.now.terms in
    let first = x.first in
    let n = c.args.class in
    let q = c.args.self.now.listed.now.program.now in
    let of_super = spec.super_definitions first x.options.now x.ledger.now n in
    let of_class = spec.constructor_definitions first x.options.now x.ledger.now n in
    let ts = seen c.supers_of.result.now in
    let us = seen c.numbered.result.now in
    let supers : of_super ts ≡ of_super (preorder q) = ap of_super c.supers_of.ensures ∙ super_definitions_of first x.options.now x.ledger.now n (preorder q) in
    let constructors : of_class us ≡ of_class (preorder q) = ap of_class (c.numbered.ensures ∙ ap (numbered n) c.args.self.now.listed.now.in_preorder) ∙ constructors_numbered first x.options.now x.ledger.now n (preorder q) in
    IfOk-map c.definitions_on_this.result
    (λ r. definition_views r.items ≡ spec.on_this first (of_super ts ++ of_class us))
    (λ r. definition_views r.items ≡ spec.on_this first (of_super (preorder q) ++ of_class (preorder q)))
    (λ r e. e ∙ ap (λ ds. spec.on_this first (ds ++ of_class us)) supers ∙ ap (λ ds. spec.on_this first (of_super (preorder q) ++ ds)) constructors)
    c.definitions_on_this.ensures
