-- A list of events as a list of tokens.
use Rattle.std.specs.Prelude.{ℕ, List, [], ◌∷◌, Bool, true, false, ◌&&◌, nat_eq, Option}
use Rattle.es_steps.specs.Events.{Place, Event, Held, Events, none, then}
use Rattle.es_steps.specs.SameMeanings.{same_event, same_option, same_place, same_list}
use Rattle.es_steps.specs.SameValues.{same_value}
use Rattle.es_steps.specs.Values.{Value}

-- an event that holds no list, and where a list that is held begins and ends
pub data Token : Type 0 where
  single : (e : Event) → Token
  begin : Token
  ends : (m : ℕ) (place : Place) (tested : Option Value) (value : Value) → Token

-- the tokens of a list, in front of these
abbrev mutual
  pub flat_event : Event → List Token → List Token
  flat_event (Held m place tested l v) ts = begin ∷ flat l (ends m place tested v ∷ ts)
  flat_event e ts = single e ∷ ts

  pub flat : Events → List Token → List Token
  flat none ts = ts
  flat (then e es) ts = flat_event e (flat es ts)

abbrev pub tokens : Events → List Token
tokens l = flat l []

abbrev pub same_token : Token → Token → Bool
same_token (single e) (single f) = same_event e f
same_token begin begin = true
same_token (ends m p t v) (ends n q u w) = nat_eq m n && (same_place p q && (same_option same_value t u && same_value v w))
same_token a b = false

abbrev pub same_tokens : List Token → List Token → Bool
same_tokens = same_list same_token
