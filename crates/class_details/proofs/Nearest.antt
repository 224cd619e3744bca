-- What is found is in the innermost class.
use Rattle.std.proofs.Common.{◌≡◌, refl, sym, ap, ◌∙◌, ℕ, zero, suc, ◌+◌, ◌<◌, List, [], ◌∷◌, Option, Some, None, option_map, arith}
use Rattle.std.specs.Prelude.{option_and_then, position, slice_get, bytes_eq}
use Rattle.std.specs.Map.{keys_of}
use Rattle.std.specs.Str.{encode_utf8_all}
use Rattle.class_details.specs.Law.{NearestLaw}
use Rattle.class_details.specs.Stack.{found_from, found_in, found_member, or_outer}
use Rattle.class_details.specs.declared.class_details.ClassDetails.{ClassDetails}
use Rattle.class_details.specs.declared.class_details.PrivateProp.{PrivateProp}
use Rattle.class_details.specs.declared.found.Found.{Found}

-- what a class has is known by its place
placed : (k : ℕ) (c : ClassDetails) (i : ℕ) (o : Option (List ℕ × PrivateProp)) (f : Found) → option_map (λ e. found_member k c.is_declaration i e.1) o ≡ Some f → f.class ≡ k
placed k c i None f h = cc
placed k c i (Some e) f h = cc

place_in : (k : ℕ) (c : ClassDetails) (p : Option ℕ) (f : Found) → option_and_then (λ i. option_map (λ e. found_member k c.is_declaration i e.1) (slice_get c.private_props.entries i)) p ≡ Some f → f.class ≡ k
place_in k c None f h = cc
place_in k c (Some i) f h = placed k c i (slice_get c.private_props.entries i) f h

found_in-class : (name : List ℕ) (k : ℕ) (c : ClassDetails) (f : Found) → found_in name k c ≡ Some f → f.class ≡ k
found_in-class name k c f h = place_in k c (position (λ key. bytes_eq (encode_utf8_all name) (encode_utf8_all key)) (keys_of c.private_props.entries)) f h

-- where nothing is found no class has the name
outer_none : (o here : Option Found) → or_outer o here ≡ None → (o ≡ None) × (here ≡ None)
outer_none None here h = (refl, h)
outer_none (Some f) here h = cc

none_from : (name : List ℕ) (k : ℕ) (cs : List ClassDetails) → found_from name k cs ≡ None → (j n : ℕ) (c : ClassDetails) → n ≡ k + j → slice_get cs j ≡ Some c → found_in name n c ≡ None
none_from name k [] h j n c at is = cc
none_from name k (d ∷ cs) h zero n c at is =
    let same : d ≡ c = cc in
    let place : n ≡ k = omega (arith, at) in
    ap (λ m. found_in name m c) place ∙ ap (found_in name k) (sym same) ∙ (outer_none (found_from name (suc k) cs) (found_in name k d) h).1
none_from name k (d ∷ cs) h (suc j) n c at is =
    let next : n ≡ suc k + j = omega (arith, at) in
    none_from name (suc k) cs (outer_none (found_from name (suc k) cs) (found_in name k d) h).0 j n c next is

-- what is found from place k on: at which place behind k it is
record At (name : List ℕ) (k : ℕ) (cs : List ClassDetails) (f : Found) : Type 0 where
  behind : ℕ
  class : f.class ≡ k + behind
  here : option_and_then (found_in name f.class) (slice_get cs behind) ≡ Some f
  none_behind : (j n : ℕ) (c : ClassDetails) → behind < j → n ≡ k + j → slice_get cs j ≡ Some c → found_in name n c ≡ None

at_first : (name : List ℕ) (k : ℕ) (d : ClassDetails) (cs : List ClassDetails) (f : Found) → found_from name (suc k) cs ≡ None → found_in name k d ≡ Some f → At name k (d ∷ cs) f
at_first name k d cs f none is =
    let place : f.class ≡ k = found_in-class name k d f is in record {
      behind = 0;
      class = omega (arith, place);
      here = ap (λ m. found_in name m d) place ∙ is;
      none_behind = later;
    }
  where
    later : (j n : ℕ) (c : ClassDetails) → 0 < j → n ≡ k + j → slice_get (d ∷ cs) j ≡ Some c → found_in name n c ≡ None
    later zero n c lt at is' = absurd (omega (arith, lt))
    later (suc j) n c lt at is' = let next : n ≡ suc k + j = omega (arith, at) in none_from name (suc k) cs none j n c next is'

at_later : (name : List ℕ) (k : ℕ) (d : ClassDetails) (cs : List ClassDetails) (f : Found) → At name (suc k) cs f → At name k (d ∷ cs) f
at_later name k d cs f inner = record {
  behind = suc inner.behind;
  class = omega (arith, inner.class);
  here = inner.here;
  none_behind = later;
}
  where
    later : (j n : ℕ) (c : ClassDetails) → suc inner.behind < j → n ≡ k + j → slice_get (d ∷ cs) j ≡ Some c → found_in name n c ≡ None
    later zero n c lt at is = absurd (omega (arith, lt))
    later (suc j) n c lt at is =
        let next : n ≡ suc k + j = omega (arith, at) in
        let less : inner.behind < j = omega (arith, lt) in
        inner.none_behind j n c less next is

either : (name : List ℕ) (k : ℕ) (d : ClassDetails) (cs : List ClassDetails) (f : Found) (o : Option Found) → found_from name (suc k) cs ≡ o → or_outer o (found_in name k d) ≡ Some f
    → (found_from name (suc k) cs ≡ Some f → At name (suc k) cs f) → At name k (d ∷ cs) f
either name k d cs f None none is inner = at_first name k d cs f none is
either name k d cs f (Some g) some is inner = at_later name k d cs f (inner (some ∙ is))

at_from : (name : List ℕ) (k : ℕ) (cs : List ClassDetails) (f : Found) → found_from name k cs ≡ Some f → At name k cs f
at_from name k [] f h = cc
at_from name k (d ∷ cs) f h = either name k d cs f (found_from name (suc k) cs) refl h (at_from name (suc k) cs f)

pub nearest_law : NearestLaw
nearest_law name cs f h =
    let at : At name 0 cs f = at_from name 0 cs f h in
    let place : at.behind ≡ f.class = omega (arith, at.class) in record {
      here = ap (λ m. option_and_then (found_in name f.class) (slice_get cs m)) (sym place) ∙ at.here;
      none_behind = λ j c lt is. at.none_behind j j c (omega (arith, lt, place)) (omega arith) is;
    }
