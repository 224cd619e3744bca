-- Lemmas on what calls append to the bytes that a sink tells of.
use Rattle.std.proofs.Common.{◌≡◌, ℕ, ◌+◌, List, [], ◌++◌, length, take, drop, Option, None, Some, refl, sym, ap, ◌∙◌, subst, append_assoc, append-nil}
use Rattle.std.proofs.Math.Seq.{take-add}
use Rattle.std.proofs.lemmas.List.{take_rest}
use Rattle.std.specs.List.{between}
use Rattle.lower_io.specs.Held.{Extends}

pub Extends-nil : (old : Option (List ℕ)) → Extends old old []
Extends-nil None = tt
Extends-nil (Some xs) = sym (append-nil xs)

pub Extends-trans : (old mid new : Option (List ℕ)) (bs cs : List ℕ) → Extends old mid bs → Extends mid new cs → Extends old new (bs ++ cs)
Extends-trans old mid None bs cs first second = tt
Extends-trans old None (Some zs) bs cs first second = absurd second
Extends-trans None (Some ys) (Some zs) bs cs first second = absurd first
Extends-trans (Some xs) (Some ys) (Some zs) bs cs first second =
    second ∙ ap (λ l. l ++ cs) first ∙ append_assoc xs bs cs

-- after the first n bytes, the first m of what follows
pub Extends-more : (old mid new : Option (List ℕ)) (bytes : List ℕ) (n m : ℕ) → Extends old mid (take n bytes) → Extends mid new (take m (between n (length bytes) bytes)) → Extends old new (take (n + m) bytes)
Extends-more old mid new bytes n m first second =
    let whole : between n (length bytes) bytes ≡ drop n bytes = take_rest bytes n in
    let joined : take n bytes ++ take m (between n (length bytes) bytes) ≡ take (n + m) bytes = ap (λ l. take n bytes ++ take m l) whole ∙ sym (take-add n m bytes) in
    subst (Extends old new) joined (Extends-trans old mid new (take n bytes) (take m (between n (length bytes) bytes)) first second)

-- what `Extends` says of the bytes that are told of afterwards
pub Extends-told : (old : Option (List ℕ)) (after bs : List ℕ) → Extends old (Some after) bs → (before : List ℕ) × (old ≡ Some before) × (after ≡ before ++ bs)
Extends-told None after bs extends = absurd extends
Extends-told (Some xs) after bs extends = (xs, refl, extends)
