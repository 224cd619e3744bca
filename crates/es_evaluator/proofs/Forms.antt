-- A target that is read is the step of its kind.
use Rattle.std.proofs.Common.{◌≡◌, refl, ℕ, None}
use Rattle.es_base.specs.declared.kind.Kind.{Kind}
use Rattle.es_steps.specs.Code as of
use Rattle.es_steps.specs.Code.{Code, Codes, Target}
use Rattle.es_steps.specs.Context.{NameKind}
use Rattle.es_steps.specs.PrivateNames.{PrivateReference}
use Rattle.es_steps.specs.Values.{String, Value, Home}
use Rattle.es_evaluation.specs.Direct.{State, Operands, no_operand, one_operand, two_operands, read_name}
use Rattle.es_evaluator.specs.Steps.{Opens, read_at, read_member_step, read_private_step, read_super_step}

pub name_read : (opens : Opens) (m : ℕ) (x : String) (kind : NameKind) (t : Operands) (s : State) → read_at opens (of.to_name m x kind) t s ≡ read_name m x kind s
unfolding read_at
name_read opens m x kind t s = refl

pub member_read : (opens : Opens) (m : ℕ) (o : Code) (k : Code) (t : Operands) (s : State) → read_at opens (of.to_member m o k) t s ≡ read_member_step m t s
unfolding read_at
member_read opens m o k no_operand s = refl
member_read opens m o k (one_operand a) s = refl
member_read opens m o k (two_operands a b) s = refl

pub private_read : (opens : Opens) (m : ℕ) (r : PrivateReference) (o : Code) (t : Operands) (s : State) → read_at opens (of.to_private m r o) t s ≡ read_private_step m r.reads t s
unfolding read_at
private_read opens m r o no_operand s = refl
private_read opens m r o (one_operand a) s = refl
private_read opens m r o (two_operands a b) s = refl

pub super_read : (opens : Opens) (m : ℕ) (home : Home) (k : Code) (this : Value) (t : Operands) (s : State) → read_at opens (of.to_super m home k this) t s ≡ read_super_step m home this t s
unfolding read_at
super_read opens m home k this no_operand s = refl
super_read opens m home k this (one_operand a) s = refl
super_read opens m home k this (two_operands a b) s = refl

pub setter_read : (opens : Opens) (m : ℕ) (d : ℕ) (o : Code) (t : Operands) (s : State) → read_at opens (of.to_setter m d o) t s ≡ None
unfolding read_at
setter_read opens m d o t s = refl

pub pattern_read : (opens : Opens) (m : ℕ) (kind : Kind) (cs : Codes) (t : Operands) (s : State) → read_at opens (of.to_pattern m kind cs) t s ≡ None
unfolding read_at
pattern_read opens m kind cs t s = refl

pub default_read : (opens : Opens) (m : ℕ) (to : Target) (e : Code) (t : Operands) (s : State) → read_at opens (of.to_default m to e) t s ≡ None
unfolding read_at
default_read opens m to e t s = refl

pub no_read : (opens : Opens) (t : Operands) (s : State) → read_at opens (of.no_target) t s ≡ None
unfolding read_at
no_read opens t s = refl
