use Rattle.std.specs.Prelude.{refl}
use Rattle.es_rows.proofs.lists.lists_are_these.Goals as goal

pub returns-clause-two_fields : goal.returns-clause-two_fields
returns-clause-two_fields c = refl

pub returns-clause-exchanged : goal.returns-clause-exchanged
returns-clause-exchanged c = refl

pub returns-clause-one_field : goal.returns-clause-one_field
returns-clause-one_field c = refl

pub returns-clause-another_literal : goal.returns-clause-another_literal
returns-clause-another_literal c = refl

pub returns-clause-given_back : goal.returns-clause-given_back
returns-clause-given_back c = refl

pub returns-clause-lowered : goal.returns-clause-lowered
returns-clause-lowered c = refl

pub returns-clause-free_name : goal.returns-clause-free_name
returns-clause-free_name c = refl

pub returns-clause-compound : goal.returns-clause-compound
returns-clause-compound c = refl

pub returns-clause-arguments : goal.returns-clause-arguments
returns-clause-arguments c = refl
