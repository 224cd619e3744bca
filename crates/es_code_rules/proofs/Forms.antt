-- Each form as the steps that it puts together.
use Rattle.std.proofs.Common.{◌≡◌, refl, ℕ, List, Some, None}
use Rattle.es_steps.specs.Code as of
use Rattle.es_steps.specs.Code.{Code, Codes, TemplateString}
use Rattle.es_steps.specs.Evaluation.{default_key, last_of}
use Rattle.es_steps.specs.Events.{AddBrand, Operation, RightOf, Part, Get, Construct, Define, Operate, PrivateIn, PrivateInitialize, Short, SuperGet}
use Rattle.es_steps.specs.PrivateNames.{PrivateReference}
use Rattle.es_steps.specs.Values.{String, Value, Home, PrivateTest, Undefined, ResultOf, KeyOf, as_key}
use Rattle.es_evaluation.specs.Direct.{State, and_then, gives, emit, held, gives_class, stands_for, bind_parameters, ev_template, read_private, test_with}
use Rattle.es_evaluation.specs.Flat.{single}
use Rattle.es_evaluator.specs.Steps.{Opens}
use Rattle.es_code_rules.specs.Steps.{form_at, value_at, all_at, converted_at, parts_at, callee_at, again_at}

pub member_form : (opens : Opens) (m : ℕ) (o : Code) (k : Code) (s : State) → form_at opens (of.member m o k) s ≡ (and_then (value_at opens o) (λ a. and_then (value_at opens k) (λ b. emit (single (Get m a b)) (ResultOf m)))) s
unfolding form_at value_at
member_form opens m o k s = refl

pub private_member_form : (opens : Opens) (m : ℕ) (r : PrivateReference) (o : Code) (s : State) → form_at opens (of.private_member m r o) s ≡ (and_then (value_at opens o) (λ a. read_private m r.reads a)) s
unfolding form_at value_at
private_member_form opens m r o s = refl

pub super_member_form : (opens : Opens) (m : ℕ) (home : Home) (k : Code) (this : Value) (s : State) → form_at opens (of.super_member m home k this) s ≡ (and_then (value_at opens k) (λ b. emit (single (SuperGet m home b this)) (ResultOf m))) s
unfolding form_at value_at
super_member_form opens m home k this s = refl

pub private_in_form : (opens : Opens) (m : ℕ) (asks : PrivateTest) (o : Code) (s : State) → form_at opens (of.private_in m asks o) s ≡ (and_then (value_at opens o) (λ a. emit (single (PrivateIn m asks a)) (ResultOf m))) s
unfolding form_at value_at
private_in_form opens m asks o s = refl

pub key_of_form : (opens : Opens) (e : Code) (s : State) → form_at opens (of.key_of e) s ≡ (and_then (value_at opens e) (λ v. gives (KeyOf (as_key v)))) s
unfolding form_at value_at
key_of_form opens e s = refl

pub define_form : (opens : Opens) (m : ℕ) (o : Value) (k : Code) (e : Code) (s : State) → form_at opens (of.define m o k e) s ≡ (and_then (value_at opens k) (λ a. and_then (value_at opens e) (λ v. emit (single (Define o (as_key a) v)) (ResultOf m)))) s
unfolding form_at value_at
define_form opens m o k e s = refl

pub private_initialize_form : (opens : Opens) (m : ℕ) (d : ℕ) (o : Value) (e : Code) (s : State) → form_at opens (of.private_initialize m d o e) s ≡ (and_then (value_at opens e) (λ v. emit (single (PrivateInitialize d o v)) (ResultOf m))) s
unfolding form_at value_at
private_initialize_form opens m d o e s = refl

pub add_brand_form : (opens : Opens) (m : ℕ) (n : ℕ) (o : Value) (s : State) → form_at opens (of.add_brand m n o) s ≡ emit (single (AddBrand n o)) (ResultOf m) s
unfolding form_at
add_brand_form opens m n o s = refl

pub sequence_form : (opens : Opens) (es : Codes) (s : State) → form_at opens (of.sequence es) s ≡ (and_then (all_at opens es) (λ vs. gives (last_of Undefined vs))) s
unfolding form_at all_at
sequence_form opens es s = refl

pub steps_form : (opens : Opens) (es : Codes) (s : State) → form_at opens (of.steps es) s ≡ (and_then (all_at opens es) (λ vs. gives Undefined)) s
unfolding form_at all_at
steps_form opens es s = refl

pub template_form : (opens : Opens) (m : ℕ) (ts : List TemplateString) (es : Codes) (s : State) → form_at opens (of.template m ts es) s ≡ (and_then (converted_at opens m es) (λ vs. ev_template m ts vs)) s
unfolding form_at converted_at
template_form opens m ts es s = refl

pub operation_form : (opens : Opens) (m : ℕ) (op : Operation) (es : Codes) (ps : Codes) (s : State) → form_at opens (of.operation m op es ps) s ≡ (and_then (all_at opens es) (λ vs. and_then (parts_at opens m ps) (λ u. emit (single (Operate m op vs)) (ResultOf m)))) s
unfolding form_at all_at parts_at
operation_form opens m op es ps s = refl

pub construct_form : (opens : Opens) (m : ℕ) (f : Code) (es : Codes) (s : State) → form_at opens (of.construct m f es) s ≡ (and_then (value_at opens f) (λ c. and_then (all_at opens es) (λ vs. emit (single (Construct m c vs)) (ResultOf m)))) s
unfolding form_at value_at all_at
construct_form opens m f es s = refl

pub call_arrow_form : (opens : Opens) (xs : List String) (body : Code) (es : Codes) (s : State) → form_at opens (of.call_arrow xs body es) s ≡ (and_then (all_at opens es) (λ vs. and_then (bind_parameters xs vs) (λ u. value_at opens body))) s
unfolding form_at value_at all_at
call_arrow_form opens xs body es s = refl

pub logical_form : (opens : Opens) (m : ℕ) (op : String) (l : Code) (r : Code) (s : State) → form_at opens (of.logical m op l r) s ≡ (and_then (value_at opens l) (λ a. held m (RightOf op) (Some a) (value_at opens r))) s
unfolding form_at value_at
logical_form opens m op l r s = refl

pub chain_form : (opens : Opens) (m : ℕ) (e : Code) (s : State) → form_at opens (of.chain m e) s ≡ (held m (Part 0) None (value_at opens e)) s
unfolding form_at value_at
chain_form opens m e s = refl

pub short_form : (opens : Opens) (e : Code) (s : State) → form_at opens (of.short e) s ≡ (and_then (value_at opens e) (λ v. emit (single (Short v)) v)) s
unfolding form_at value_at
short_form opens e s = refl

pub tested_form : (opens : Opens) (o : Code) (again : Codes) (e : Code) (s : State) → form_at opens (of.tested o again e) s ≡ (and_then (test_with (value_at opens o) (λ v. again_at opens v again)) (λ w. value_at opens e)) s
unfolding form_at value_at again_at
tested_form opens o again e s = refl

pub export_default_form : (opens : Opens) (e : Code) (s : State) → form_at opens (of.export_default e) s ≡ (and_then (value_at opens e) (λ v. stands_for default_key v)) s
unfolding form_at value_at
export_default_form opens e s = refl

pub give_class_form : (opens : Opens) (n : ℕ) (e : Code) (s : State) → form_at opens (of.give_class n e) s ≡ (gives_class n (value_at opens e)) s
unfolding form_at value_at
give_class_form opens n e s = refl

pub plain_form : (opens : Opens) (e : Code) (s : State) → callee_at opens (of.plain e) s ≡ (and_then (value_at opens e) (λ v. gives (v, None))) s
unfolding value_at callee_at
plain_form opens e s = refl

pub on_member_form : (opens : Opens) (m : ℕ) (o : Code) (k : Code) (s : State) → callee_at opens (of.on_member m o k) s ≡ (and_then (value_at opens o) (λ a. and_then (value_at opens k) (λ b. and_then (emit (single (Get m a b)) (ResultOf m)) (λ v. gives (v, Some a))))) s
unfolding value_at callee_at
on_member_form opens m o k s = refl

pub on_private_form : (opens : Opens) (m : ℕ) (r : PrivateReference) (o : Code) (s : State) → callee_at opens (of.on_private m r o) s ≡ (and_then (value_at opens o) (λ a. and_then (read_private m r.reads a) (λ v. gives (v, Some a)))) s
unfolding value_at callee_at
on_private_form opens m r o s = refl

pub on_super_form : (opens : Opens) (m : ℕ) (home : Home) (k : Code) (this : Value) (s : State) → callee_at opens (of.on_super m home k this) s ≡ (and_then (value_at opens k) (λ b. and_then (emit (single (SuperGet m home b this)) (ResultOf m)) (λ v. gives (v, Some this)))) s
unfolding value_at callee_at
on_super_form opens m home k this s = refl

pub with_receiver_form : (opens : Opens) (e : Code) (o : Code) (s : State) → callee_at opens (of.with_receiver e o) s ≡ (and_then (value_at opens e) (λ v. and_then (value_at opens o) (λ a. gives (v, Some a)))) s
unfolding value_at callee_at
with_receiver_form opens e o s = refl
