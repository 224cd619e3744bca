-- Which class of a stack declares a private name: the innermost, which is the last.
use Rattle.std.specs.Prelude.{ℕ, suc, List, [], ◌∷◌, Bool, Option, Some, None, bytes_eq, is_some, option_map, option_and_then, position, slice_get}
use Rattle.std.specs.Map.{keys_of}
use Rattle.std.specs.Str.{encode_utf8_all}
use Rattle.class_details.specs.declared.class_details.ClassDetails.{ClassDetails}
use Rattle.class_details.specs.declared.class_details.PrivateProp.{PrivateProp}
use Rattle.class_details.specs.declared.found.Found.{Found}

-- the member at place i of the class at place k
abbrev pub found_member : ℕ → Bool → ℕ → PrivateProp → Found
found_member k is_declaration i p = record { class = k; member = i; is_static = p.is_static; method_kind = p.method_kind; has_second = is_some p.binding2; is_declaration = is_declaration }

-- the member of this name of the class at place k
abbrev pub found_in : List ℕ → ℕ → ClassDetails → Option Found
found_in name k c = option_and_then (λ i. option_map (λ e. found_member k c.is_declaration i e.1) (slice_get c.private_props.entries i)) (position (λ key. bytes_eq (encode_utf8_all name) (encode_utf8_all key)) (keys_of c.private_props.entries))

abbrev pub or_outer : Option Found → Option Found → Option Found
or_outer (Some f) outer = Some f
or_outer None outer = outer

-- that of the last of these classes that has one; the first of them has place k
abbrev pub found_from : List ℕ → ℕ → List ClassDetails → Option Found
found_from name k [] = None
found_from name k (c ∷ cs) = or_outer (found_from name (suc k) cs) (found_in name k c)

abbrev pub found : List ℕ → List ClassDetails → Option Found
found name cs = found_from name 0 cs
