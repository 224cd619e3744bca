-- Touches in code, as definitions see them.
use Rattle.std.specs.Prelude.{ℕ, ◌+◌, List, [], ◌∷◌, ◌++◌, map, Bool, ◌&&◌, ◌||◌, not}
use Rattle.std.specs.Str.{chars}
use Rattle.es_base.specs.Table.{Field}
use Rattle.es_base.specs.Tree.{Tree, Parts, Node, end, more}
use Rattle.es_base.specs.declared.ledger.LedgerEntry.{LedgerEntry}
use Rattle.es_lowered.specs.Temporaries as spec
use Rattle.es_lowered.specs.Temporaries.{spot_in, touches_at}
use Rattle.es_steps.specs.References.{is_target}
use Rattle.es_steps.specs.Scopes.{binds}
use Rattle.es_places.specs.Placing.{surroundings_of}
use Rattle.es_owed_temporaries.specs.declared.touches.Spot.{Spot}
use Rattle.es_owed_temporaries.specs.declared.touches.Touch.{Touch}

abbrev pub touch_here : Touch → spec.Touch
touch_here x = record { name = chars x.name.now; declares = x.declares; gives = x.gives; hoists = x.hoists; place = x.place; declaration = x.declaration; home = x.home }

abbrev pub touches_all : List Touch → List spec.Touch
touches_all xs = map touch_here xs

abbrev pub spot_here : Spot → spec.Spot
spot_here x = record { around = surroundings_of x.around; is_function_name = x.is_function_name; declaration = x.declaration; home = x.home }

abbrev pub spot_within : ℕ → List LedgerEntry → spec.Spot → Tree → ℕ → spec.Spot
spot_within first ledger x (Node kind m span semantic_id ps) i = spot_in first ledger x kind m ps i

-- of the parts from the i-th on, which have these members
abbrev pub touches_from : ℕ → List LedgerEntry → (ℕ → spec.Spot) → Bool → ℕ → List Field → Parts → List spec.Touch
touches_from first ledger x bare i fs end = []
touches_from first ledger x bare i [] (more p ps) = []
touches_from first ledger x bare i (f ∷ fs) (more p ps) = touches_at first ledger (x i) (is_target f.sort || (binds f.sort && not bare)) p ++ touches_from first ledger x bare (i + 1) fs ps
