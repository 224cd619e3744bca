-- The last of a list.
use Rattle.std.specs.Prelude.{◌≡◌, List, [], ◌∷◌, ◌++◌, true, refl}
use Rattle.std.proofs.Common.{ap}
use Rattle.es_base.specs.Tree.{Part}
use Rattle.es_ctx.specs.Stores.{front, placed, filled}
use Rattle.es_ctx.specs.declared.stores.OpenList.{OpenList}

pub front-push : {X : Type 0} (xs : List X) (x : X) → front (xs ++ x ∷ []) ≡ xs
front-push [] x = refl
front-push (y ∷ []) x = refl
front-push (y ∷ z ∷ xs) x = ap (λ ws. y ∷ ws) (front-push (z ∷ xs) x)

pub filled-push : (ls : List OpenList) (l : OpenList) (p : Part) → filled true (ls ++ l ∷ []) p ≡ placed l p
filled-push [] l p = refl
filled-push (k ∷ []) l p = refl
filled-push (k ∷ m ∷ ls) l p = filled-push (m ∷ ls) l p
