-- A loop that lowers each item of a list and keeps what it gives.
use Rattle.std.proofs.Common.{◌≡◌, sym, ap, ◌∙◌, subst, List, [], ◌∷◌, ◌++◌, map, append_assoc}
use Rattle.std.specs.List.{All}
use Rattle.std.proofs.lemmas.List.Elements.{All-tail}
use Rattle.es_base.specs.Tree.{Tree}

-- the items of `whole` but for `rest` were lowered to `done`, and P holds of those that are left
pub record IsLoweredUpTo (f : Tree → Tree) (P : Tree → Type 0) (whole rest done : List Tree) : Type 0 where
  pub same : done ++ map f rest ≡ map f whole
  pub left : All P rest

pub lowered_next : (f : Tree → Tree) (P : Tree → Type 0) (whole rest later done after : List Tree) (x y : Tree) → IsLoweredUpTo f P whole rest done
    → rest ≡ x ∷ later → after ≡ done ++ y ∷ [] → y ≡ f x → IsLoweredUpTo f P whole later after
lowered_next f P whole rest later done after x y was is put e = record {
  same = ap (λ ts. ts ++ map f later) put ∙ append_assoc done (y ∷ []) (map f later) ∙ ap (λ t. done ++ t ∷ map f later) e ∙ sym (ap (λ ts. done ++ map f ts) is) ∙ was.same;
  left = All-tail P x later (subst (All P) is was.left);
}
