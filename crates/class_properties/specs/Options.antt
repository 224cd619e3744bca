-- Under which options fields are defined, as `babelHelpers.defineProperty` does it.
use Rattle.std.specs.Prelude.{Bool, ◌&&◌, not}
use Rattle.es_steps.specs.Options.{lowers_fields, sets_fields}
use Rattle.es_steps.specs.declared.options.Options.{Options}

-- class properties are on, and fields are not set
abbrev pub defines_fields : Options → Bool
defines_fields o = lowers_fields o && not (sets_fields o)
