use Rattle.std.proofs.Common.{sym, ◌∙◌, rules}
use denote.Enum.Bare.{same_true, true_same}
use Rattle.es_base.specs.contracts.kind.Kind.{the_type}
use Rattle.es_codes.proofs.same.same_kind.Goals as goal

pub returns : goal.returns
returns c = (λ is. same_true the_type (search rules) _ _ (sym c.eq.ensures ∙ is), λ e. c.eq.ensures ∙ true_same the_type _ _ e)
