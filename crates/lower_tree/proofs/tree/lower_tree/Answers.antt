use Rattle.es_reading.specs.Told.{ids}
use Rattle.lower_tree.proofs.BuiltProgram.{built_few, made_few}
use Rattle.lower_tree.proofs.tree.lower_tree.Goals as goal

pub build-requires : goal.build-requires
build-requires c =
    let r = c.in_ok-lowered.field-0.lowered in
    made_few c.args.options.now c.args.source r.program (ids c.args.foreign.now) r.names.entries c.in_ok-lowered.ensures.valid c.in_ok-lowered.ensures.made

pub returns-clause-few : goal.returns-clause-few
returns-clause-few c =
    let r = c.in_ok-lowered.field-0.lowered in
    let few = made_few c.args.options.now c.args.source r.program (ids c.args.foreign.now) r.names.entries c.in_ok-lowered.ensures.valid c.in_ok-lowered.ensures.made in
    built_few r.program c.build.new.program c.in_ok-scoping.ensures.stripped few
