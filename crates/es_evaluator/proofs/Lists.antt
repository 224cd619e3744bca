-- Lists of values: the last one, and parameters that stand for them.
use Rattle.std.proofs.Common.{◌≡◌, ◌≢◌, refl, ap, ap₂, ℕ, suc, ◌+◌, ◌<◌, List, [], ◌∷◌, ◌++◌, length, drop, get_or, None}
use Rattle.std.proofs.lemmas.List.{drop_more}
use Rattle.es_steps.specs.Evaluation.{last_of}
use Rattle.es_steps.specs.Values.{String, Value}
use Rattle.es_evaluation.specs.Direct.{State, bind_parameters, with_name}

pub last_of_end : (v : Value) (vs : List Value) (w : Value) → last_of v (vs ++ w ∷ []) ≡ w
last_of_end v [] w = refl
last_of_end v (u ∷ us) w = last_of_end u us w

pub bound_none : (xs : List String) (vs : List Value) (s : State) → length xs ≢ length vs → bind_parameters xs vs s ≡ None
bound_none [] [] s h = absurd (h refl)
bound_none [] (v ∷ vs) s h = refl
bound_none (x ∷ xs) [] s h = refl
bound_none (x ∷ xs) (v ∷ vs) s h = bound_none xs vs (with_name x v s) (λ e. h (ap suc e))

pub bound_more : (xs : List String) (vs : List Value) (s : State) (i : ℕ) (x : String) (v : Value) → i < length xs → i < length vs → bind_parameters (drop i xs) (drop i vs) s ≡ bind_parameters (drop (i + 1) xs) (drop (i + 1) vs) (with_name (get_or xs i x) (get_or vs i v) s)
bound_more xs vs s i x v h k = ap₂ (λ (ys : List String) (ws : List Value). bind_parameters ys ws s) (drop_more xs i x h) (drop_more vs i v k)
