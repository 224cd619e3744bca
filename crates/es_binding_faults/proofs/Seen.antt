-- The nodes that a walk has met.
use Rattle.std.proofs.Common.{◌≡◌, refl, sym, ap, ◌∙◌, List, [], ◌∷◌, ◌++◌, append_assoc, Bor}
use Rattle.es_base.specs.Preorder.{preorder, preorder_of}
use Rattle.es_base.specs.Tree.{Tree, Node}
use Rattle.es_node.specs.View.{parts_in}
use Rattle.es_binding_faults.specs.Seen.{seen}

seen-push : (ns : List (Bor Tree)) (n : Bor Tree) → seen (ns ++ n ∷ []) ≡ seen ns ++ n.now ∷ []
seen-push [] n = refl
seen-push (m ∷ ns) n = ap (λ (ts : List Tree). m.now ∷ ts) (seen-push ns n)

preorder_node : (t : Tree) → preorder t ≡ t ∷ preorder_of (parts_in t)
preorder_node (Node kind m span semantic_id ps) = refl

pub node_seen : (ns ms ks : List (Bor Tree)) (n : Bor Tree) → ms ≡ ns ++ n ∷ [] → seen ks ≡ seen ms ++ preorder_of (parts_in n.now) → seen ks ≡ seen ns ++ preorder n.now
node_seen ns ms ks n put rest =
    rest
    ∙ ap (λ (xs : List (Bor Tree)). seen xs ++ preorder_of (parts_in n.now)) put
    ∙ ap (λ (ts : List Tree). ts ++ preorder_of (parts_in n.now)) (seen-push ns n)
    ∙ append_assoc (seen ns) (n.now ∷ []) (preorder_of (parts_in n.now))
    ∙ ap (λ (ts : List Tree). seen ns ++ ts) (sym (preorder_node n.now))
