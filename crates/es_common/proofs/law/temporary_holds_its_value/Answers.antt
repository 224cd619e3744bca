use Rattle.std.proofs.Common.{refl, ap, ◌∙◌}
use Rattle.es_expression.specs.Identifier.{identifier_reference}
use Rattle.es_steps.specs.Evaluation.{ev}
use Rattle.es_steps.specs.Reading.{read}
use Rattle.es_common.specs.Law.{in_right}
use Rattle.es_common.proofs.Holding.{assign_held, read_first, same_name}
use Rattle.es_common.proofs.law.temporary_holds_its_value.Goals as goal

pub returns : goal.returns
returns c = λ opens d m b n span bspan nspan sb sn name value env r generated runs quiet free. record {
  first = ap (λ code. ev opens code env) (read_first d m b span bspan sb name value generated) ∙ assign_held opens b name (read (in_right d m (identifier_reference b bspan sb name) value) value) env r runs quiet free;
  again = rw (generated, same_name name) refl;
}
