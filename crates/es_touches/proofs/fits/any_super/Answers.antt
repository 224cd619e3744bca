use Rattle.std.proofs.Common.{◌∙◌, sym}
use Rattle.es_touches.proofs.SuperCalls.{called_behind}
use Rattle.es_touches.specs.Touches.{touch_of, touches_of}
use Rattle.es_touches.proofs.fits.any_super.Goals as goal

pub returns-then-any_super_call : goal.returns-then-any_super_call
returns-then-any_super_call c = sym (called_behind c.args.source.now (touch_of c.args.touch) (touches_of c.args.others.now) (sym c.any_super_call.ensures ∙ c.if-any_super_call.true))
