-- What targets and templates do when their operands have their values; `opens` is what stands elsewhere.
use Rattle.std.specs.Prelude.{ℕ, [], ◌∷◌, Option}
use Rattle.es_steps.specs.Code.{Target, Opened}
use Rattle.es_steps.specs.Events.{Take, Index, Get, Set, Operate, SuperGet, SuperSet}
use Rattle.es_steps.specs.Values.{Value, Home, ResultOf}
use Rattle.es_evaluation.specs.Direct as direct
use Rattle.es_evaluation.specs.Direct.{Step, Operands, one_operand, two_operands, no_meaning, emit, read_private, write_private}
use Rattle.es_evaluation.specs.Flat.{single}

abbrev pub Opens : Type 0
Opens = Opened → Step Value

-- where nothing is opened
unfoldable pub nowhere : Opens
nowhere o = direct.no_meaning

-- ---- what functions give, shut

unfoldable pub read_at : Opens → Target → Operands → Step Value
read_at opens to t = direct.read opens to t

-- what an expression of a template is made a string of
unfoldable pub convert_at : ℕ → ℕ → Value → Step Value
convert_at m i v = emit (single (Operate m (Take (Index i ∷ [])) (v ∷ []))) v

-- ---- targets

abbrev pub read_member_step : ℕ → Operands → Step Value
read_member_step m (two_operands a b) = emit (single (Get m a b)) (ResultOf m)
read_member_step m t = no_meaning

abbrev pub read_private_step : ℕ → Option ℕ → Operands → Step Value
read_private_step m reads (one_operand a) = read_private m reads a
read_private_step m reads t = no_meaning

abbrev pub read_super_step : ℕ → Home → Value → Operands → Step Value
read_super_step m home this (one_operand b) = emit (single (SuperGet m home b this)) (ResultOf m)
read_super_step m home this t = no_meaning

abbrev pub write_member_step : Operands → Value → Step Value
write_member_step (two_operands a b) v = emit (single (Set a b v)) v
write_member_step t v = no_meaning

abbrev pub write_private_step : Option ℕ → Operands → Value → Step Value
write_private_step writes (one_operand a) v = write_private writes a v
write_private_step writes t v = no_meaning

abbrev pub write_super_step : Home → Value → Operands → Value → Step Value
write_super_step home this (one_operand b) v = emit (single (SuperSet home b v this)) v
write_super_step home this t v = no_meaning
