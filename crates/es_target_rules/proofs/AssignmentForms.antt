-- Assignments as the steps that they put together; a target is read in one way whatever stands elsewhere.
use Rattle.std.proofs.Common.{◌≡◌, refl, ℕ, [], ◌∷◌, Bool, Some}
use Rattle.es_steps.specs.Code as of
use Rattle.es_steps.specs.Code.{Code, Target}
use Rattle.es_steps.specs.Evaluation.{binary, new_or_former}
use Rattle.es_steps.specs.Events.{RightOf, Operate, Update}
use Rattle.es_steps.specs.Values.{String, Undefined, ResultOf}
use Rattle.es_evaluation.specs.Direct.{State, Operands, no_operand, one_operand, two_operands, and_then, gives, emit, held, settled}
use Rattle.es_evaluation.specs.Flat.{single}
use Rattle.es_evaluator.specs.Steps.{Opens, nowhere, read_at}
use Rattle.es_code_rules.specs.Steps.{form_at, value_at}
use Rattle.es_target_rules.specs.Steps.{operands_at, write_at}

pub assign_form : (opens : Opens) (to : Target) (e : Code) (s : State) → form_at opens (of.assign to e) s ≡ (and_then (operands_at opens to) (λ t. and_then (value_at opens e) (λ v. and_then (write_at opens to t v) (λ w. gives v)))) s
unfolding form_at value_at operands_at write_at
assign_form opens to e s = refl

pub compound_form : (opens : Opens) (m : ℕ) (op : String) (to : Target) (e : Code) (s : State) → form_at opens (of.compound m op to e) s ≡ (and_then (operands_at opens to) (λ t. and_then (settled (and_then (read_at opens to t) (λ a. and_then (value_at opens e) (λ b. emit (single (Operate m (binary op) (a ∷ b ∷ []))) (ResultOf m))))) (λ v. and_then (write_at opens to t v) (λ w. gives v)))) s
unfolding form_at value_at operands_at write_at read_at
compound_form opens m op to e s = refl

pub logical_assign_form : (opens : Opens) (m : ℕ) (op : String) (to : Target) (e : Code) (s : State) → form_at opens (of.logical_assign m op to e) s ≡ (and_then (operands_at opens to) (λ t. and_then (read_at opens to t) (λ a. held m (RightOf op) (Some a) (and_then (value_at opens e) (λ v. write_at opens to t v))))) s
unfolding form_at value_at operands_at write_at read_at
logical_assign_form opens m op to e s = refl

pub update_form : (opens : Opens) (m : ℕ) (op : String) (prefix : Bool) (to : Target) (s : State) → form_at opens (of.update m op prefix to) s ≡ (and_then (operands_at opens to) (λ t. and_then (settled (and_then (read_at opens to t) (λ a. emit (single (Update m op a)) (ResultOf m)))) (λ v. and_then (write_at opens to t v) (λ w. gives (new_or_former prefix m))))) s
unfolding form_at operands_at write_at read_at
update_form opens m op prefix to s = refl

pub gives_to_form : (opens : Opens) (m : ℕ) (to : Target) (s : State) → form_at opens (of.gives_to m to) s ≡ (and_then (operands_at opens to) (λ t. and_then (write_at opens to t (ResultOf m)) (λ w. gives Undefined))) s
unfolding form_at operands_at write_at
gives_to_form opens m to s = refl

pub read_anywhere : (opens : Opens) (to : Target) (t : Operands) (s : State) → read_at opens to t s ≡ read_at nowhere to t s
unfolding read_at
read_anywhere opens (of.to_name m x kind) t s = refl
read_anywhere opens (of.to_member m o k) no_operand s = refl
read_anywhere opens (of.to_member m o k) (one_operand a) s = refl
read_anywhere opens (of.to_member m o k) (two_operands a b) s = refl
read_anywhere opens (of.to_private m r o) no_operand s = refl
read_anywhere opens (of.to_private m r o) (one_operand a) s = refl
read_anywhere opens (of.to_private m r o) (two_operands a b) s = refl
read_anywhere opens (of.to_super m home k this) no_operand s = refl
read_anywhere opens (of.to_super m home k this) (one_operand a) s = refl
read_anywhere opens (of.to_super m home k this) (two_operands a b) s = refl
read_anywhere opens (of.to_setter m d o) t s = refl
read_anywhere opens (of.to_pattern m kind cs) t s = refl
read_anywhere opens (of.to_default m to e) t s = refl
read_anywhere opens of.no_target t s = refl
