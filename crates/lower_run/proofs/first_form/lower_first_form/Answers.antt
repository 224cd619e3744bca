use Rattle.std.proofs.Common.{sym, ◌∙◌}
use Rattle.es_reading.specs.Told.{ids}
use Rattle.lower_run.proofs.Forms.{none-of_form}
use Rattle.lower_run.proofs.Owed.{formed-conforms, formed-made, formed-shapes, unchanged-made}
use Rattle.lower_run.proofs.first_form.lower_first_form.Goals as goal

pub lower-requires-clause-form : goal.lower-requires-clause-form
lower-requires-clause-form c =
    let none = none-of_form c.args.options.now c.args.source (ids c.args.foreign.now) c.in_ok-node.field-0 (sym c.if-nothing_left.ensures) c.in-None.is c.in_ok-node.ensures in
    none.2

pub returns-then-nothing_left-clause-made : goal.returns-then-nothing_left-clause-made
returns-then-nothing_left-clause-made c =
    let same = c.in_ok-unchanged.ensures in
    unchanged-made c.args.options.now c.args.source c.in_ok-unchanged.field-0.program (ids c.args.foreign.now) c.in_ok-unchanged.field-0.names.entries c.requires.preorder (sym c.if-nothing_left.ensures) same.program same.unnamed

pub returns-in_ok-lower-in-None-clause-program : goal.returns-in_ok-lower-in-None-clause-program
returns-in_ok-lower-in-None-clause-program c =
    let form = none-of_form c.args.options.now c.args.source (ids c.args.foreign.now) c.in_ok-node.field-0 (sym c.if-nothing_left.ensures) c.in-None.is c.in_ok-node.ensures in
    formed-conforms c.args.options.now c.args.source c.in_ok-lower-in-None.field-0 (ids c.args.foreign.now) c.requires.conforms c.requires.preorder form c.in_ok-lower-in-None.ensures.lowered

pub returns-in_ok-lower-in-None-clause-made : goal.returns-in_ok-lower-in-None-clause-made
returns-in_ok-lower-in-None-clause-made c =
    let form = none-of_form c.args.options.now c.args.source (ids c.args.foreign.now) c.in_ok-node.field-0 (sym c.if-nothing_left.ensures) c.in-None.is c.in_ok-node.ensures in
    formed-made c.args.options.now c.args.source c.in_ok-lower-in-None.field-0 (ids c.args.foreign.now) c.requires.conforms c.requires.preorder form c.no_names.result.entries c.in_ok-lower-in-None.ensures.lowered c.no_names.ensures

pub returns-in_ok-lower-in-None-clause-shaped : goal.returns-in_ok-lower-in-None-clause-shaped
returns-in_ok-lower-in-None-clause-shaped c =
    let form = none-of_form c.args.options.now c.args.source (ids c.args.foreign.now) c.in_ok-node.field-0 (sym c.if-nothing_left.ensures) c.in-None.is c.in_ok-node.ensures in
    formed-shapes c.args.options.now c.args.source c.in_ok-lower-in-None.field-0 (ids c.args.foreign.now) c.requires.conforms c.requires.preorder form c.new.result.items c.new.ensures.items
