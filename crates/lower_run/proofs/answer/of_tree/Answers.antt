use Rattle.es_reading.specs.Told.{ids}
use Rattle.lower_run.proofs.Trees.{lowered-text, program-kind}
use Rattle.lower_run.proofs.answer.of_tree.Goals as goal

pub text_of-requires : goal.text_of-requires
text_of-requires g c = program-kind c.in-Ok.told.lowered.program c.in-Ok.ensures.program

pub returns-in_ok-text_of-in-Ok : goal.returns-in_ok-text_of-in-Ok
returns-in_ok-text_of-in-Ok g c =
    let e = c.in-Ok.ensures in
    (e.valid, lowered-text _ _ c.args.tree (ids c.args.foreign.now) _ _ _ _ _ c.requires.preorder e.warned e.shaped e.program e.made c.in_ok-text_of-in-Ok.ensures.kept c.in_ok-text_of-in-Ok.ensures.text)
