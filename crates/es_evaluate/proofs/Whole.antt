-- Where no definition is shut, all are opened, and evaluation is that of the definitions.
use Rattle.std.proofs.Common.{◌≡◌, refl, sym, ap, ap₂, ◌∙◌, suc, List, [], ◌∷◌, map, length, Bor}
use Rattle.es_steps.specs.Code.{Code}
use Rattle.es_steps.specs.Evaluation.{ev}
use Rattle.es_steps.specs.Opening as of
use Rattle.es_evaluation.specs.Agreement.{onto}
use Rattle.es_evaluation.specs.Direct as direct
use Rattle.es_evaluation.specs.Direct.{State}
use Rattle.es_evaluation.proofs.Opened.{evaluated_follows}
use Rattle.es_evaluator.specs.Steps.{Opens}
use Rattle.es_code_rules.specs.Elsewhere.{definition_of, definitions_behind, left, opens_of}
use Rattle.es_code_rules.specs.Steps.{value_at}
use Rattle.es_code_rules.specs.declared.definition.Definition.{Definition}
use Rattle.es_code_rules.specs.declared.definition.Opening.{Opening}

as_many : (ds : List Definition) → length (map definition_of ds) ≡ length ds
as_many [] = refl
as_many (d ∷ ds) = ap suc (as_many ds)

pub none_shut : (ds : List Definition) (o : Opening) → o.depth ≡ length ds → o.shut.items ≡ [] → opens_of ds o ≡ direct.opening (map definition_of ds)
unfolding opens_of
none_shut ds o d h =
    ap₂ direct.opening_in (d ∙ sym (as_many ds)) (ap (λ (l : List (Bor Definition)). left (map definition_of ds) (definitions_behind l)) h)

pub whole_value : (opens : Opens) (ds : List of.Definition) (c : Code) (s : State) → opens ≡ direct.opening ds → value_at opens c s ≡ onto s (ev (of.opening ds) c s.names)
unfolding value_at
whole_value opens ds c s h =
    ap (λ (o : Opens). direct.settled (direct.form o c) s) h
    ∙ (evaluated_follows ds c).same s
