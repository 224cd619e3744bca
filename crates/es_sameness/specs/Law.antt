-- A test by which parts of meanings are compared finds the same only what is one.
use Rattle.std.specs.Prelude.{◌≡◌, Bool, true}

abbrev pub Finds : {A : Type 0} → (A → A → Bool) → Type 0
Finds {A} test = (x y : A) → test x y ≡ true → x ≡ y
