-- Private names in classes, node by node.
use Rattle.std.proofs.Common.{◌≡◌, refl, ap, ℕ, List, ◌∷◌, Bool, true, false, ◌&&◌, ◌||◌, nat_eq, bytes_eq}
use Rattle.std.specs.Prelude.{not}
use Rattle.es_base.specs.Tree.{Tree, Part, Node, child, absent, list, string, no_string, boolean, literal}
use Rattle.es_base.specs.declared.kind.Kind.{Kind}
use Rattle.es_node.specs.View.{kind_of, number_in, parts_in}
use Rattle.es_lowered.specs.Temporaries.{holds_class, reads_private}
use Rattle.es_steps.specs.Context.{name_in}
use Rattle.es_steps.specs.Parts.{at}
use Rattle.es_steps.specs.Printable as printable
use Rattle.es_steps.specs.PrivateNames.{is_class}
use Rattle.es_steps.specs.Values.{String}
use Rattle.es_owed_temporaries.specs.Apart.{private_read}

pub class_more : (n : ℕ) (t : Tree) (ts : List Tree) → holds_class n (t ∷ ts) ≡ ((is_class (kind_of t) && nat_eq n (number_in t)) || holds_class n ts)
class_more n (Node kind m span semantic_id ps) ts = refl

pub read_more : (s : String) (t : Tree) (ts : List Tree) → reads_private s (t ∷ ts) ≡ (private_read s t || reads_private s ts)
read_more s (Node Kind.PrivateField m span semantic_id ps) ts = refl
read_more s (Node kind m span semantic_id ps) ts = refl

pub read_by_field : (s : String) (t : Tree) → kind_of t ≡ Kind.PrivateField → private_read s t ≡ bytes_eq s (printable.name_of_part (at 1 (parts_in t)))
read_by_field s (Node kind m span semantic_id ps) is = ap (λ k. private_read s (Node k m span semantic_id ps)) is

pub read_by_none : (s : String) (t : Tree) → (kind_of t ≡ Kind.PrivateField → ⊥) → private_read s t ≡ false
read_by_none s (Node Kind.PrivateField m span semantic_id ps) other = absurd (other refl)
read_by_none s (Node kind m span semantic_id ps) other = refl

-- ---- names that are read, and names around

pub apart_unread : (a b : Bool) → b ≡ false → not (a && b) ≡ true
apart_unread true b is = ap not is
apart_unread false b is = refl

pub apart_read : (a b : Bool) → b ≡ true → not (a && b) ≡ not a
apart_read true b is = ap not is
apart_read false b is = refl

pub name_of_part : (p : Part) → printable.name_of_part p ≡ name_in p
name_of_part (child (Node kind m span semantic_id ps)) = refl
name_of_part absent = refl
name_of_part (list ps) = refl
name_of_part (string s) = refl
name_of_part no_string = refl
name_of_part (boolean b) = refl
name_of_part (literal v) = refl
