-- That the example is one.
use Rattle.std.specs.Prelude.{◌≡◌, refl, [], ◌∷◌, Bool, true, false, ◌||◌, codes}
use Rattle.es_steps.specs.Entries.{is_string_among}
use Rattle.es_steps.specs.Values.{ResultOf}
use Rattle.es_replacement.specs.Example.{temporary, LogicalLaw, LogicalHasMeaning, PrivateLaw, PrivateHasMeaning}
use Rattle.es_replacement.specs.Replacing.{none}

twice : (b : Bool) → (b || false) ≡ (b || b)
twice true = refl
twice false = refl

pub logical_law : LogicalLaw
logical_law options = record {
  may = record {
    may = λ n. record {
      evaluates = λ opens there follow. record { same = λ s. refl; adds = λ s. record { more = (codes "_t", ResultOf 4) ∷ []; whole = refl } };
      defines = none;
      assigns = λ s. twice (is_string_among s temporary);
      functions = refl;
      enters = λ opens there first late s follow. refl;
    };
    plain_before = λ h n. refl;
    plain_after = λ h n. refl;
  };
  around = refl;
  admitted = refl;
  before = (refl, (refl, tt));
  after = (refl, (refl, tt));
  apart = refl;
  declared = record { source_type = refl; functions = refl; bindings = refl; globals = refl; shared = refl; places = refl; branches = refl; links = refl; exports = λ env. refl };
}

pub logical_has_meaning : LogicalHasMeaning
logical_has_meaning options = refl

pub private_law : PrivateLaw
private_law = record {
  may = record {
    may = λ n. record {
      evaluates = λ opens there follow. record { same = λ s. refl; adds = λ s. record { more = []; whole = refl } };
      defines = none;
      assigns = λ s. refl;
      functions = refl;
      enters = λ opens there first late s follow. refl;
    };
    plain_before = λ h n. refl;
    plain_after = λ h n. refl;
  };
  admitted = refl;
  started = refl;
  seen = (refl, (refl, (refl, (refl, (refl, (refl, (refl, tt)))))));
  stands = (refl, (refl, (refl, (refl, (refl, (refl, refl))))));
  before = refl;
  after = refl;
  apart = refl;
  declared = record { source_type = refl; functions = refl; bindings = refl; globals = refl; shared = refl; places = refl; branches = refl; links = refl; exports = λ env. refl };
}

pub private_has_meaning : PrivateHasMeaning
private_has_meaning = refl
