use Rattle.std.proofs.Common.{[], sym, subst}
use Rattle.std.specs.Str.{chars}
use Rattle.std.specs.String.{string_bytes}
use Rattle.es_names.specs.Taken.{AreTakenBefore}
use Rattle.es_names.proofs.Places.{before-with}
use Rattle.es_names.proofs.keys.Keys.reserve.Goals as goal

pub invariant_of-self : goal.invariant_of-self
invariant_of-self c = (c.self.invariant.0, subst (λ s. AreTakenBefore s [] c.self.inside.next) (sym c.in_err-insert.ensures.err) c.self.invariant.1)

pub invariant_of-self-2 : goal.invariant_of-self-2
invariant_of-self-2 c = (c.self.invariant.0, before-with c.self.inside.taken c.insert.new.self (chars (string_bytes c.in_ok-key.key)) [] c.self.inside.next c.in_ok-insert.ensures.ok c.self.invariant.1)
