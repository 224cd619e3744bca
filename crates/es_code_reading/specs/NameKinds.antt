-- What a name is that an identifier declares, if the binding does not vary.
use Rattle.std.specs.Prelude.{ℕ, Bool, true, false, cond}
use Rattle.es_base.specs.Numbered.{is_new}
use Rattle.es_steps.specs.Context.{NameKind, Fixed, MeansClass}
use Rattle.es_steps.specs.Scopes.{ClassName, no_class, declares, own_name, let_names}

abbrev pub steady_kind : ℕ → ℕ → ClassName → NameKind
steady_kind first b no_class = Fixed b
steady_kind first b (declares n) = MeansClass n b
steady_kind first b (own_name n) = MeansClass n b
steady_kind first b (let_names m n) = cond (is_new first m) (MeansClass n b) (Fixed b)

-- whether a class is named inside of it
abbrev pub is_own : ClassName → Bool
is_own (own_name n) = true
is_own name = false
