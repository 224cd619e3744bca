use Rattle.std.proofs.Common.{subst}
use Rattle.es_entries.proofs.entry.Entry.is_same.Goals as goal
use Rattle.es_entries.specs.Entered.{IsEntry}

pub returns-in-Function-other : goal.returns-in-Function-other
returns-in-Function-other c = λ e g i j. c.same_function.ensures e g (subst (λ x. IsEntry x e) c.in-Function.is i) (subst (λ x. IsEntry x g) c.in-Function-other.is j)

pub returns-in-Class-other-2 : goal.returns-in-Class-other-2
returns-in-Class-other-2 c = λ e g i j. c.same_class.ensures e g (subst (λ x. IsEntry x e) c.in-Class.is i) (subst (λ x. IsEntry x g) c.in-Class-other-2.is j)
