use Rattle.std.proofs.Common.{◌∙◌, sym, ap, cond, [], ◌∷◌, ◌++◌, map}
use Rattle.es_validity.specs.Faults.{fault_at, first_with}
use Rattle.es_validity.specs.Found.{found}
use Rattle.es_validity.specs.declared.fault.Cause.{Cause}
use Rattle.es_validity.proofs.privates.add_member.Goals as goal

pub returns-then-is_duplicate : goal.returns-then-is_duplicate
returns-then-is_duplicate c = λ before holds. record {
  holds = c.in_ok-add.ensures before holds;
  faults = c.earlier.ensures ∙ ap (λ b. first_with (found c.args.first) (map (fault_at Cause.DuplicatePrivate) (cond b (c.args.member.now.node.0 ∷ []) [] ++ []))) (sym c.if-is_duplicate.true ∙ c.has_duplicate_of-is_duplicate.ensures before holds);
}

pub returns-else-is_duplicate : goal.returns-else-is_duplicate
returns-else-is_duplicate c = λ before holds. record {
  holds = c.in_ok-add.ensures before holds;
  faults = ap (λ b. first_with (found c.args.first) (map (fault_at Cause.DuplicatePrivate) (cond b (c.args.member.now.node.0 ∷ []) [] ++ []))) (sym c.if-is_duplicate.false ∙ c.has_duplicate_of-is_duplicate.ensures before holds);
}
