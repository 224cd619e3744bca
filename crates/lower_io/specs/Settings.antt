-- The arguments of the command line, each by its bytes, and the options that they ask for.
use Rattle.std.specs.Prelude.{ℕ, List, [], ◌∷◌, true, false, ◌&&◌, not, cond, bytes_eq, codes, Option, Some, None, option_map, option_and_then, is_some}
use Rattle.std.specs.Result.{result_ok}
use Rattle.serde_json.specs.Read.{read}
use Rattle.es_options.specs.Assumptions.{from_value}
use Rattle.es_steps.specs.Options.{no_assumptions}
use Rattle.es_steps.specs.declared.options.CompilerAssumptions.{CompilerAssumptions}
use Rattle.es_steps.specs.declared.options.Options.{Options}
use Rattle.lower_io.specs.declared.settings.Words.{Words}

abbrev pub no_words : Words
no_words = record { class_properties = false; loose = false; static_block = false; await_warnings = false; remove_fields = false; assumptions = None }

-- what was asked, and a flag
abbrev pub with_flag : Words → List ℕ → Option Words
with_flag w argument =
    cond (bytes_eq (codes "--class-properties") argument) (Some (record w { class_properties = true }))
    (cond (bytes_eq (codes "--loose") argument) (Some (record w { loose = true }))
    (cond (bytes_eq (codes "--static-block") argument) (Some (record w { static_block = true }))
    (cond (bytes_eq (codes "--await-warnings") argument) (Some (record w { await_warnings = true }))
    (cond (bytes_eq (codes "--remove-fields") argument) (Some (record w { remove_fields = true }))
    None))))

-- the assumptions that a JSON text holds
abbrev pub assumptions_of : List ℕ → Option CompilerAssumptions
assumptions_of text = option_and_then (λ d. result_ok (from_value d)) (read text)

-- what was asked, and the argument behind `--assume`, of which there is one at most
abbrev pub with_assumptions : Words → List ℕ → Option Words
with_assumptions w text = cond (is_some w.assumptions) None (option_map (λ a. record w { assumptions = Some a }) (assumptions_of text))

-- what was asked, and all that these arguments ask
abbrev mutual
  pub words_from : Words → List (List ℕ) → Option Words
  words_from w [] = Some w
  words_from w (argument ∷ arguments) = cond (bytes_eq (codes "--assume") argument) (assuming w arguments) (option_and_then (λ v. words_from v arguments) (with_flag w argument))

  -- behind `--assume`
  pub assuming : Words → List (List ℕ) → Option Words
  assuming w [] = None
  assuming w (argument ∷ arguments) = option_and_then (λ v. words_from v arguments) (with_assumptions w argument)

abbrev pub assumed : Option CompilerAssumptions → CompilerAssumptions
assumed None = no_assumptions
assumed (Some a) = a

abbrev pub options_in : Words → Options
options_in w = record {
  es2022 = record {
    class_static_block = w.static_block;
    class_properties = cond w.class_properties (Some (record { loose = w.loose })) None;
    top_level_await = w.await_warnings;
  };
  assumptions = assumed w.assumptions;
  remove_class_fields_without_initializer = w.remove_fields;
}

-- `--loose` needs `--class-properties`
abbrev pub options_if : Words → Option Options
options_if w = cond (w.loose && not w.class_properties) None (Some (options_in w))

-- the options that arguments give, if they are in the grammar
abbrev pub settings_of : List (List ℕ) → Option Options
settings_of arguments = option_and_then options_if (words_from no_words arguments)
