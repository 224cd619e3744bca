use Rattle.std.proofs.Common.{◌∙◌, ap}
use Rattle.es_steps.specs.KeptNodes.{stands_at_home}
use Rattle.es_owed.specs.Homes.{homed_all, homed_here}
use Rattle.es_owed.proofs.HomesKept.{stands_numbered}
use Rattle.es_owed.proofs.homes.stands_at_home.Goals as goal

pub returns : goal.returns
returns c =
    let x = homed_here c.args.homed in
    c.any_fits.ensures
    ∙ ap (stands_at_home c.args.first c.args.blocks.now x) c.numbered.ensures
    ∙ stands_numbered c.args.first c.args.blocks.now x (homed_all c.args.found.now.list.items)
