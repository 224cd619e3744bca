-- What a call of the helper `defineProperty` on an object that is known does.
use Rattle.std.specs.Prelude.{refl}
use Rattle.es_steps.specs.Law.{DefineLaw}

pub define_law : DefineLaw
define_law opens c m m2 b n o k v w new free not_generated known = rw (not_generated, free, new, known) refl
