use Rattle.std.specs.Prelude.{refl}
use Rattle.es_common.proofs.law.what_does_not_vary_is_read_again.Goals as goal

pub returns-clause-binding : goal.returns-clause-binding
returns-clause-binding c = λ opens d n b span reference name fixed. rw fixed refl

pub returns-clause-this : goal.returns-clause-this
returns-clause-this c = λ opens d n span. refl
