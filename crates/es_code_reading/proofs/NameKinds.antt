-- A binding that varies is known by itself, but inside its own class.
use Rattle.std.proofs.Common.{◌≡◌, refl, ap, ◌∙◌, ℕ, List, Bool, true, false, cond}
use Rattle.std.specs.Prelude.{◌||◌, not}
use Rattle.es_steps.specs.Context.{Changing, declared_kind}
use Rattle.es_steps.specs.References.{has_number}
use Rattle.es_steps.specs.Scopes.{ClassName, no_class, declares, own_name, let_names}
use Rattle.es_steps.specs.Values.{Bound}
use Rattle.es_code_reading.specs.NameKinds.{is_own, steady_kind}

declared-by : (first : ℕ) (varying : List ℕ) (b : ℕ) (name : ClassName) → declared_kind first varying b name ≡ cond (is_own name || not (has_number b varying)) (steady_kind first b name) (Changing (Bound b))
declared-by first varying b no_class = by (has_number b varying)
  where
    by : (v : Bool) → cond v (Changing (Bound b)) (steady_kind first b no_class) ≡ cond (not v) (steady_kind first b no_class) (Changing (Bound b))
    by true = refl
    by false = refl
declared-by first varying b (declares n) = by (has_number b varying)
  where
    by : (v : Bool) → cond v (Changing (Bound b)) (steady_kind first b (declares n)) ≡ cond (not v) (steady_kind first b (declares n)) (Changing (Bound b))
    by true = refl
    by false = refl
declared-by first varying b (own_name n) = refl
declared-by first varying b (let_names m n) = by (has_number b varying)
  where
    by : (v : Bool) → cond v (Changing (Bound b)) (steady_kind first b (let_names m n)) ≡ cond (not v) (steady_kind first b (let_names m n)) (Changing (Bound b))
    by true = refl
    by false = refl

pub own_kind : (first : ℕ) (varying : List ℕ) (b : ℕ) (name : ClassName) → (is_own name || not (has_number b varying)) ≡ true → declared_kind first varying b name ≡ steady_kind first b name
own_kind first varying b name e = declared-by first varying b name ∙ ap (λ v. cond v (steady_kind first b name) (Changing (Bound b))) e

pub other_kind : (first : ℕ) (varying : List ℕ) (b : ℕ) (name : ClassName) → (is_own name || not (has_number b varying)) ≡ false → declared_kind first varying b name ≡ Changing (Bound b)
other_kind first varying b name e = declared-by first varying b name ∙ ap (λ v. cond v (steady_kind first b name) (Changing (Bound b))) e
