-- Targets, form by form.
use Rattle.std.proofs.Common.{◌≡◌, refl, ℕ, List, [], ◌∷◌, Option, Some, None, ap, ◌∙◌, ◌+◌, ◌<◌, ◌≤◌, length, drop, get_or}
use Rattle.es_base.specs.declared.kind.Kind.{Kind}
use Rattle.es_steps.specs.Code as of
use Rattle.es_steps.specs.Code.{Code, Codes, Target}
use Rattle.es_steps.specs.Context.{NameKind}
use Rattle.es_steps.specs.Events.{Detail, Operation, OfKind, Take, Default, Operate}
use Rattle.es_steps.specs.PrivateNames.{PrivateReference}
use Rattle.es_steps.specs.Values.{String, Value, Home, Undefined, ResultOf}
use Rattle.es_evaluation.specs.Direct as direct
use Rattle.es_evaluation.specs.Direct.{State, next, Operands, no_operand, one_operand, two_operands, and_then, gives, emit, held, write_name}
use Rattle.es_evaluation.specs.Flat.{single}
use Rattle.es_evaluator.specs.Steps.{Opens, write_member_step, write_private_step, write_super_step}
use Rattle.es_code_rules.specs.Steps.{value_at, all_at}
use Rattle.es_target_rules.specs.Steps.{taken_at, take_at, operands_at, write_at}
use Rattle.es_codes.specs.declared.code.Code as code
use Rattle.es_codes.specs.CodeView.{code_of, codes_of}
use Rattle.std.proofs.lemmas.List.{drop_more, drop_all}

pub name_operands : (opens : Opens) (m : ℕ) (x : String) (kind : NameKind) (s : State) → operands_at opens (of.to_name m x kind) s ≡ Some (no_operand, s)
unfolding operands_at
name_operands opens m x kind s = refl

pub member_operands : (opens : Opens) (m : ℕ) (o : Code) (k : Code) (s : State) → operands_at opens (of.to_member m o k) s ≡ (and_then (value_at opens o) (λ a. and_then (value_at opens k) (λ b. gives (two_operands a b)))) s
unfolding value_at operands_at
member_operands opens m o k s = refl

pub private_operands : (opens : Opens) (m : ℕ) (r : PrivateReference) (o : Code) (s : State) → operands_at opens (of.to_private m r o) s ≡ (and_then (value_at opens o) (λ a. gives (one_operand a))) s
unfolding value_at operands_at
private_operands opens m r o s = refl

pub super_operands : (opens : Opens) (m : ℕ) (home : Home) (k : Code) (this : Value) (s : State) → operands_at opens (of.to_super m home k this) s ≡ (and_then (value_at opens k) (λ a. gives (one_operand a))) s
unfolding value_at operands_at
super_operands opens m home k this s = refl

pub setter_operands : (opens : Opens) (m : ℕ) (d : ℕ) (o : Code) (s : State) → operands_at opens (of.to_setter m d o) s ≡ (and_then (value_at opens o) (λ a. gives (one_operand a))) s
unfolding value_at operands_at
setter_operands opens m d o s = refl

pub pattern_operands : (opens : Opens) (m : ℕ) (kind : Kind) (cs : Codes) (s : State) → operands_at opens (of.to_pattern m kind cs) s ≡ Some (no_operand, s)
unfolding operands_at
pattern_operands opens m kind cs s = refl

pub default_operands : (opens : Opens) (m : ℕ) (to : Target) (e : Code) (s : State) → operands_at opens (of.to_default m to e) s ≡ operands_at opens to s
unfolding operands_at
default_operands opens m to e s = refl

pub no_operands : (opens : Opens) (s : State) → operands_at opens of.no_target s ≡ None
unfolding operands_at
no_operands opens s = refl

pub name_write : (opens : Opens) (m : ℕ) (x : String) (kind : NameKind) (t : Operands) (v : Value) (s : State) → write_at opens (of.to_name m x kind) t v s ≡ write_name m x kind v s
unfolding write_at
name_write opens m x kind t v s = refl

pub member_write : (opens : Opens) (m : ℕ) (o : Code) (k : Code) (t : Operands) (v : Value) (s : State) → write_at opens (of.to_member m o k) t v s ≡ write_member_step t v s
unfolding write_at
member_write opens m o k no_operand v s = refl
member_write opens m o k (one_operand a) v s = refl
member_write opens m o k (two_operands a b) v s = refl

pub private_write : (opens : Opens) (m : ℕ) (r : PrivateReference) (o : Code) (t : Operands) (v : Value) (s : State) → write_at opens (of.to_private m r o) t v s ≡ write_private_step r.writes t v s
unfolding write_at
private_write opens m r o no_operand v s = refl
private_write opens m r o (one_operand a) v s = refl
private_write opens m r o (two_operands a b) v s = refl

pub super_write : (opens : Opens) (m : ℕ) (home : Home) (k : Code) (this : Value) (t : Operands) (v : Value) (s : State) → write_at opens (of.to_super m home k this) t v s ≡ write_super_step home this t v s
unfolding write_at
super_write opens m home k this no_operand v s = refl
super_write opens m home k this (one_operand a) v s = refl
super_write opens m home k this (two_operands a b) v s = refl

pub setter_write : (opens : Opens) (m : ℕ) (d : ℕ) (o : Code) (t : Operands) (v : Value) (s : State) → write_at opens (of.to_setter m d o) t v s ≡ write_private_step (Some d) t v s
unfolding write_at
setter_write opens m d o no_operand v s = refl
setter_write opens m d o (one_operand a) v s = refl
setter_write opens m d o (two_operands a b) v s = refl

-- a pattern has no operands
pub pattern_write : (opens : Opens) (m : ℕ) (kind : Kind) (cs : Codes) (t : Operands) (v : Value) (s : State) → write_at opens (of.to_pattern m kind cs) t v s ≡ write_at opens (of.to_pattern m kind cs) no_operand v s
unfolding write_at
pattern_write opens m kind cs t v s = refl

pub pattern_steps : (opens : Opens) (m : ℕ) (kind : Kind) (cs : Codes) (t : Operands) (v : Value) (s : State) → write_at opens (of.to_pattern m kind cs) t v s ≡ (and_then (emit (single (Operate m (OfKind kind []) (v ∷ []))) v) (λ u. taken_at opens v cs)) s
unfolding taken_at write_at
pattern_steps opens m kind cs t v s = refl

pub default_write : (opens : Opens) (m : ℕ) (to : Target) (e : Code) (t : Operands) (v : Value) (s : State) → write_at opens (of.to_default m to e) t v s ≡ (and_then (held m Default (Some v) (value_at opens e)) (λ w. write_at opens to t w)) s
unfolding value_at write_at
default_write opens m to e t v s = refl

pub no_write : (opens : Opens) (t : Operands) (v : Value) (s : State) → write_at opens of.no_target t v s ≡ None
unfolding write_at
no_write opens t v s = refl

pub takes_take : (opens : Opens) (v : Value) (m : ℕ) (ds : List Detail) (k : Codes) (to : Target) (s : State) → take_at opens v (of.takes m ds k to) s ≡ (and_then (all_at opens k) (λ ks. and_then (operands_at opens to) (λ t. and_then (emit (single (Operate m (Take ds) (v ∷ ks))) (ResultOf m)) (λ w. write_at opens to t w)))) s
unfolding all_at take_at operands_at write_at
takes_take opens v m ds k to s = refl

-- ---- the members of a pattern

pub take_alone : (opens : Opens) (v : Value) (m : ℕ) (op : Operation) (es ps : List code.Code) (s : State) → es ≡ [] → ps ≡ [] → take_at opens v (of.operation m op (codes_of es) (codes_of ps)) s ≡ emit (single (Operate m op (v ∷ []))) Undefined s
unfolding take_at
take_alone opens v m op [] [] s h k = refl
take_alone opens v m op [] (p ∷ ps) s h k = absurd (cc)
take_alone opens v m op (e ∷ es) ps s h k = absurd (cc)

pub take_with : (opens : Opens) (v : Value) (m : ℕ) (op : Operation) (es ps : List code.Code) (s : State) → (es ≡ [] → ps ≡ [] → ⊥) → take_at opens v (of.operation m op (codes_of es) (codes_of ps)) s ≡ None
unfolding take_at
take_with opens v m op [] [] s h = absurd (h refl refl)
take_with opens v m op [] (p ∷ ps) s h = refl
take_with opens v m op (e ∷ es) [] s h = refl
take_with opens v m op (e ∷ es) (p ∷ ps) s h = refl

pub taken_more : (opens : Opens) (v : Value) (cs : List code.Code) (i : ℕ) (d : code.Code) (s t : State) (w : Value) → i < length cs → take_at opens v (code_of (get_or cs i d)) s ≡ Some (w, t) → taken_at opens v (codes_of (drop i cs)) s ≡ taken_at opens v (codes_of (drop (i + 1) cs)) t
unfolding take_at taken_at
taken_more opens v cs i d s t w h e =
    ap (λ (l : List code.Code). direct.taken opens v (codes_of l) s) (drop_more cs i d h)
    ∙ ap (λ (x : Option (Value × State)). next x (λ (u : Value). direct.taken opens v (codes_of (drop (i + 1) cs)))) e

pub taken_fails : (opens : Opens) (v : Value) (cs : List code.Code) (i : ℕ) (d : code.Code) (s : State) → i < length cs → take_at opens v (code_of (get_or cs i d)) s ≡ None → taken_at opens v (codes_of (drop i cs)) s ≡ None
unfolding take_at taken_at
taken_fails opens v cs i d s h e =
    ap (λ (l : List code.Code). direct.taken opens v (codes_of l) s) (drop_more cs i d h)
    ∙ ap (λ (x : Option (Value × State)). next x (λ (u : Value). direct.taken opens v (codes_of (drop (i + 1) cs)))) e

pub taken_ends : (opens : Opens) (v : Value) (cs : List code.Code) (i : ℕ) (s : State) → length cs ≤ i → taken_at opens v (codes_of (drop i cs)) s ≡ Some (Undefined, s)
unfolding taken_at
taken_ends opens v cs i s h = ap (λ (l : List code.Code). direct.taken opens v (codes_of l) s) (drop_all i cs h)
