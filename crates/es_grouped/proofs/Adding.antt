-- A value more of one number.
use Rattle.std.proofs.Common.{◌≡◌, refl, sym, ap, ◌∙◌, [], ◌∷◌, ◌++◌, Bool, true, false, cond, Option, None, Some}
use Rattle.std.proofs.lemmas.List.{append-nil}
use Rattle.std.specs.Prelude.{unwrap_or}
use Rattle.std.specs.Global.{Vec}
use Rattle.es_grouped.specs.Groups.{if_any}

-- what a number has, after what one of them has was taken out and put back with a value more
pub added : {T : Type 0} (b : Bool) (v : Vec T) (x : T) (old between new : Option (Vec T)) → between ≡ cond b None old → new ≡ cond b (Some v) between → (b ≡ true → v.items ≡ if_any old ++ x ∷ [])
    → if_any new ≡ if_any old ++ cond b (x ∷ []) []
added true v x old between new taken put more = ap if_any put ∙ more refl
added false v x old between new taken put more = ap if_any (put ∙ taken) ∙ sym (append-nil (if_any old))

-- the list of a number that may have one
pub listed : {T : Type 0} (found : Option (Vec T)) (none : Vec T) → none.items ≡ [] → (unwrap_or found none).items ≡ if_any found
listed None none empty = empty
listed (Some v) none empty = refl
