-- The names that references read, as a set.
use Rattle.std.proofs.Common.{◌≡◌, refl, sym, ap, ◌∙◌, ℕ, ◌+◌, ◌<◌, List, [], length, drop, get_or, Bool, true, false, ◌||◌, None}
use Rattle.std.proofs.lemmas.List.{at_drop_more}
use Rattle.es_base.specs.Conforms.{is_among}
use Rattle.es_lowered.specs.Definitions.{any_reads}
use Rattle.es_owed_definitions.specs.Supers.{reads_name}
use Rattle.es_references.specs.References.{reference_of, references_of}
use Rattle.es_references.specs.declared.references.Reference as code
use Rattle.es_steps.specs.Values.{String}

turned : (a b c : Bool) → ((a || b) || c) ≡ (b || (a || c))
turned true true c = refl
turned true false c = refl
turned false b c = refl

abbrev pub no_reference : code.Reference
no_reference = record { node = record { 0 = 0 }; name = record { ref_ptr = (0, 0); now = [] }; binding = None; writes = false }

-- one reference more
pub next_read : (s : String) (old new : List String) (rs : List code.Reference) (i : ℕ) (d : code.Reference) → i < length rs → is_among s new ≡ (reads_name s (reference_of (get_or rs i d)) || is_among s old)
    → (is_among s new || any_reads s (references_of (drop (i + 1) rs))) ≡ (is_among s old || any_reads s (references_of (drop i rs)))
next_read s old new rs i d below added =
    let rest = any_reads s (references_of (drop (i + 1) rs)) in
    ap (λ b. b || rest) added
    ∙ turned (reads_name s (reference_of (get_or rs i d))) (is_among s old) rest
    ∙ ap (λ b. is_among s old || b) (sym (at_drop_more (λ (ys : List code.Reference). any_reads s (references_of ys)) rs i d below))
