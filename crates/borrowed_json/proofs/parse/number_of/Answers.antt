use Rattle.std.proofs.Common.{◌≡◌, ℕ, List, drop, true, false, slice_index, ◌==◌, sym, ap, ◌∙◌, arith, take_all, length-drop}
use Rattle.fast_float.specs.Text.{scan}
use Rattle.serde_json.specs.Read.{number_of, number_from}
use Rattle.borrowed_json.proofs.parse.number_of.Goals as goal

signed : (s : List ℕ) → (slice_index s 0 == 45) ≡ true → number_from true (scan (drop 1 s)) ≡ number_of s
unfolding number_of
signed s e = rw e

unsigned : (s : List ℕ) → (slice_index s 0 == 45) ≡ false → number_from false (scan s) ≡ number_of s
unfolding number_of
unsigned s e = rw e

pub returns-then-is_signed : goal.returns-then-is_signed
returns-then-is_signed c =
    let bytes = c.as_bytes-bytes.result.now in
    let behind = take_all _ (drop 1 bytes) (omega (arith, length-drop 1 bytes)) in
    c.number_below.ensures
    ∙ ap (number_from true) (c.scan.ensures.parts ∙ ap scan behind)
    ∙ signed bytes (sym c.is_signed.ensures.value ∙ c.if-is_signed.true)
    ∙ ap number_of c.as_bytes-bytes.ensures.value

pub returns-else-is_signed : goal.returns-else-is_signed
returns-else-is_signed c =
    let bytes = c.as_bytes-bytes.result.now in
    c.number_above.ensures
    ∙ ap (number_from false) c.scan-else-is_signed.ensures.parts
    ∙ unsigned bytes (sym c.is_signed.ensures.value ∙ c.if-is_signed.false)
    ∙ ap number_of c.as_bytes-bytes.ensures.value
