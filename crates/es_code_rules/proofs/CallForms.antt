-- Callees in callees, and calls, as the steps that they put together.
use Rattle.std.proofs.Common.{◌≡◌, refl, ℕ, List}
use Rattle.es_steps.specs.Code as of
use Rattle.es_steps.specs.Code.{Code, Codes, Callee, TemplateString}
use Rattle.es_steps.specs.Evaluation.{tag_values}
use Rattle.es_steps.specs.Events.{Call, Short}
use Rattle.es_steps.specs.Values.{ResultOf}
use Rattle.es_evaluation.specs.Direct as direct
use Rattle.es_evaluation.specs.Direct.{State, and_then, gives, emit, test_with}
use Rattle.es_evaluation.specs.Flat.{single}
use Rattle.es_evaluator.specs.Steps.{Opens}
use Rattle.es_code_rules.specs.Steps.{form_at, value_at, all_at, callee_at, again_at}

pub checked_form : (opens : Opens) (g : Callee) (s : State) → callee_at opens (of.checked g) s ≡ (and_then (callee_at opens g) (λ c. and_then (emit (single (Short c.0)) c.0) (λ w. gives c))) s
unfolding callee_at
checked_form opens g s = refl

pub on_chain_form : (opens : Opens) (m : ℕ) (g : Callee) (s : State) → callee_at opens (of.on_chain m g) s ≡ (direct.held_callee m (callee_at opens g)) s
unfolding callee_at
on_chain_form opens m g s = refl

pub behind_test_form : (opens : Opens) (o : Code) (again : Codes) (g : Callee) (s : State) → callee_at opens (of.behind_test o again g) s ≡ (and_then (test_with (value_at opens o) (λ v. again_at opens v again)) (λ w. callee_at opens g)) s
unfolding value_at callee_at again_at
behind_test_form opens o again g s = refl

pub call_form : (opens : Opens) (m : ℕ) (f : Callee) (es : Codes) (s : State) → form_at opens (of.call m f es) s ≡ (and_then (callee_at opens f) (λ c. and_then (all_at opens es) (λ vs. emit (single (Call m c.0 c.1 vs)) (ResultOf m)))) s
unfolding form_at all_at callee_at
call_form opens m f es s = refl

pub tag_form : (opens : Opens) (m : ℕ) (f : Callee) (ts : List TemplateString) (es : Codes) (s : State) → form_at opens (of.tag m f ts es) s ≡ (and_then (callee_at opens f) (λ c. and_then (all_at opens es) (λ vs. emit (single (Call m c.0 c.1 (tag_values ts vs))) (ResultOf m)))) s
unfolding form_at all_at callee_at
tag_form opens m f ts es s = refl
