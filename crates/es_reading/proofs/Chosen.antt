-- What the kind and the number of a node that is read say of its value.
use Rattle.std.proofs.Common.{◌≡◌, refl, ap, subst, ℕ, List, [], ◌∷◌, Bool, true, false, Option, Some, None, Result, Ok, Err, if◌then◌else◌}
use Rattle.std.specs.Prelude.{codes}
use Rattle.serde_json.specs.Data.{Data}
use Rattle.es_base.specs.Table.{members_of, kinds}
use Rattle.es_base.specs.declared.kind.Kind.{Kind}
use Rattle.es_reading.specs.Fault.{Fault, bind, refused, float_at}
use Rattle.es_reading.specs.Kinds.{is_named, may_stand, kind_among, kind_in}
use Rattle.es_reading.specs.Look.{string_at}
use Rattle.es_reading.specs.Members.{are_good}
use Rattle.es_reading.specs.Reading.{kind_of, kind_by, told, number_of, number_in, known}
use Rattle.es_reading.specs.Unlisted.{floats_of}
use Rattle.es_reading.specs.declared.fault.What.{What}
use Rattle.es_reading.specs.declared.numbers.Numbers.{Numbers}
use Rattle.es_reading.specs.declared.spot.Spot.{Spot}

-- the first step of what succeeds
pub bound : {S T : Type 0} (r : Result S Fault) (next : S → Result T Fault) (y : T) → bind r next ≡ Ok y → (x : S) × (r ≡ Ok x) × (next x ≡ Ok y)
bound (Ok x) next y e = (x, refl, e)
bound (Err f) next y e = absurd (cc)

pub record IsChosen (spot : Spot) (d : Data) (k : Kind) : Type 0 where
  pub name : List ℕ
  pub typed : string_at (codes "type") d ≡ Some name
  pub named : is_named name k ≡ true
  pub stands : may_stand spot d k ≡ true

abbrev IsFound : List ℕ → Spot → Data → Kind → Type 0
IsFound name spot d k = (is_named name k ≡ true) × (may_stand spot d k ≡ true)

no_kind : (known : Bool) (k : Kind) → (if known then Err What.WrongPlace else Err What.UnknownKind) ≡ Ok k → ⊥
no_kind true k e = cc
no_kind false k e = cc

by_tests : (b c known : Bool) (name : List ℕ) (spot : Spot) (d : Data) (j k : Kind) (js : List Kind) → is_named name j ≡ b → may_stand spot d j ≡ c
    → (if b then (if c then Ok j else kind_among name spot d true js) else kind_among name spot d known js) ≡ Ok k
    → ((known : Bool) → kind_among name spot d known js ≡ Ok k → IsFound name spot d k) → IsFound name spot d k
by_tests true true known name spot d j k js n s e next = let same : j ≡ k = cc in subst (λ (z : Kind). IsFound name spot d z) same (n, s)
by_tests true false known name spot d j k js n s e next = next true e
by_tests false c known name spot d j k js n s e next = next known e

among : (name : List ℕ) (spot : Spot) (d : Data) (known : Bool) (ks : List Kind) (k : Kind) → kind_among name spot d known ks ≡ Ok k → IsFound name spot d k
among name spot d known [] k e = absurd (no_kind known k e)
among name spot d known (j ∷ js) k e = by_tests (is_named name j) (may_stand spot d j) known name spot d j k js refl refl e (λ c h. among name spot d c js k h)

by_told : (n : ℕ) (r : Result Kind What) (k : Kind) → told n r ≡ Ok k → r ≡ Ok k
by_told n (Ok j) k e = let same : j ≡ k = cc in ap Ok same
by_told n (Err what) k e = absurd (cc)

by_name : (o : Option (List ℕ)) (d : Data) (spot : Spot) (n : ℕ) (k : Kind) → string_at (codes "type") d ≡ o → kind_by o d spot n ≡ Ok k → IsChosen spot d k
by_name None d spot n k is e = absurd (cc)
by_name (Some name) d spot n k is e =
    let found = among name spot d false kinds k (by_told n (kind_in name spot d) k e) in
    record { name = name; typed = is; named = found.0; stands = found.1 }

pub chosen : (d : Data) (spot : Spot) (n : ℕ) (k : Kind) → kind_of d spot n ≡ Ok k → IsChosen spot d k
chosen d spot n k e = by_name (string_at (codes "type") d) d spot n k refl e

by_known : (n : ℕ) (o : Option ℕ) (id : ℕ) → known n o ≡ Ok id → o ≡ Some id
by_known n None id e = absurd (cc)
by_known n (Some m) id e = let same : m ≡ id = cc in ap Some same

by_floats : (b c : Bool) (n id : ℕ) (o : Option ℕ) → (if b then Err (float_at n) else (if c then known n o else refused n What.BadMember)) ≡ Ok id → (c ≡ true) × (o ≡ Some id)
by_floats true c n id o e = absurd (cc)
by_floats false true n id o e = (refl, by_known n o id e)
by_floats false false n id o e = absurd (cc)

pub numbered : (numbers : Numbers) (d : Data) (k : Kind) (n id : ℕ) → number_of numbers d k n ≡ Ok id → (are_good k d ≡ true) × (number_in numbers d n ≡ Some id)
numbered numbers d k n id e = by_floats (floats_of (members_of k) d) (are_good k d) n id (number_in numbers d n) e
