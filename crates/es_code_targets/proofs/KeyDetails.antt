-- Keys of properties.
use Rattle.std.proofs.Common.{◌≡◌, refl, ap, ℕ, [], ◌∷◌, Bool, true, false, cond, Some, None}
use Rattle.std.specs.Prelude.{not, ◌&&◌, ◌||◌, bytes_eq, codes}
use Rattle.es_codes.specs.Keyed.{is_key}
use Rattle.es_steps.specs.Code.{Code, Target, spelled, value, takes, one, done}
use Rattle.es_steps.specs.Events.{Operand}
use Rattle.es_steps.specs.Expressions.{key_details}
use Rattle.es_steps.specs.Members.{Members, at, end, flag_of, word_of}
use Rattle.es_steps.specs.Values.{Constant, StringOf, Value, ConstantOf, KeyOf}
use Rattle.es_code_targets.specs.ConstantKeys.{constant_in, constant_key, detail_of_key, details_by, details_where, said_by_key, key_operands}

pub no_constant : (v : Value) → is_key v ≡ true → None ≡ constant_in v
no_constant (KeyOf v) e = refl
no_constant v e = cc

pub details_of_key : (b : Bool) (k : Code) (c : Constant) → Some c ≡ constant_key k → (detail_of_key b c ∷ []) ≡ details_where b k
details_of_key b k c is = ap (details_by b) is

pub details_of_none : (b : Bool) (k : Code) → None ≡ constant_key k → [] ≡ details_where b k
details_of_none b k is = ap (details_by b) is

pub object_key : (k : Code) (ps : Members) → details_where (bytes_eq (word_of (at 2 ps)) (codes "init") && not (flag_of (at 3 ps) || flag_of (at 4 ps))) k ≡ key_details k ps
object_key (spelled s) ps = refl
object_key (value (ConstantOf (StringOf s))) ps = refl
object_key (value (ConstantOf k)) ps = refl
object_key (value v) ps = refl
object_key k ps = refl

pub pattern_key : (k : Code) → details_where false k ≡ key_details k end
pattern_key (spelled s) = refl
pattern_key (value (ConstantOf (StringOf s))) = refl
pattern_key (value (ConstantOf k)) = refl
pattern_key (value v) = refl
pattern_key k = refl

pub pattern_property : (m : ℕ) (computed : Bool) (k : Code) (to : Target) → takes m (said_by_key computed false k) (key_operands computed k) to ≡ cond computed (takes m (Operand ∷ []) (one k) to) (takes m (key_details k end) done to)
pattern_property m true k to = refl
pattern_property m false k to = ap (λ ds. takes m ds done to) (pattern_key k)
