-- A tree as a list of tokens in preorder, from which it can be read back: what tells trees apart.
use Rattle.std.specs.Prelude.{◌≡◌, refl, ℕ, List, [], ◌∷◌, Bool, Option, None}
use Rattle.std.specs.Coded.{Coded, code_by, coded_list}
use Rattle.std.proofs.Common.{ap, ◌∙◌}
use Rattle.es_base.specs.Tree.{Tree, Part, Parts, Node, end, more, child, absent, list, string, no_string, boolean, literal}
use Rattle.es_base.specs.declared.kind.Kind.{Kind}
use Rattle.es_base.specs.declared.literal.LiteralValue.{LiteralValue}

pub data Token : Type 0 where
  closes : Token
  opens_node : (kind : Kind) (id : ℕ) (span : Option (ℕ × ℕ)) (semantic_id : Option ℕ) → Token
  opens_list : Token
  absent_token : Token
  string_token : (s : List ℕ) → Token
  no_string_token : Token
  boolean_token : (b : Bool) → Token
  literal_token : (v : LiteralValue) → Token

abbrev mutual
  pub part_tokens : Part → List Token → List Token
  part_tokens (child (Node kind id span semantic_id ps)) k = opens_node kind id span semantic_id ∷ parts_tokens ps k
  part_tokens absent k = absent_token ∷ k
  part_tokens (list ps) k = opens_list ∷ parts_tokens ps k
  part_tokens (string s) k = string_token s ∷ k
  part_tokens no_string k = no_string_token ∷ k
  part_tokens (boolean b) k = boolean_token b ∷ k
  part_tokens (literal v) k = literal_token v ∷ k

  pub parts_tokens : Parts → List Token → List Token
  parts_tokens end k = closes ∷ k
  parts_tokens (more p ps) k = part_tokens p (parts_tokens ps k)

abbrev pub put : Part → List Parts → List Parts
put p [] = []
put p (ps ∷ k) = more p ps ∷ k

abbrev pub put_list : List Parts → List Parts
put_list [] = []
put_list (ps ∷ k) = put (list ps) k

abbrev pub put_node : Kind → ℕ → Option (ℕ × ℕ) → Option ℕ → List Parts → List Parts
put_node kind id span semantic_id [] = []
put_node kind id span semantic_id (ps ∷ k) = put (child (Node kind id span semantic_id ps)) k

-- the parts that tokens stand for, read from their end
abbrev pub parsed : List Token → List Parts
parsed [] = []
parsed (closes ∷ k) = end ∷ parsed k
parsed (opens_node kind id span semantic_id ∷ k) = put_node kind id span semantic_id (parsed k)
parsed (opens_list ∷ k) = put_list (parsed k)
parsed (absent_token ∷ k) = put absent (parsed k)
parsed (string_token s ∷ k) = put (string s) (parsed k)
parsed (no_string_token ∷ k) = put no_string (parsed k)
parsed (boolean_token b ∷ k) = put (boolean b) (parsed k)
parsed (literal_token v ∷ k) = put (literal v) (parsed k)

mutual
  pub parsed-part_tokens : (p : Part) (k : List Token) → parsed (part_tokens p k) ≡ put p (parsed k)
  parsed-part_tokens (child (Node kind id span semantic_id ps)) k = ap (put_node kind id span semantic_id) (parsed-parts_tokens ps k)
  parsed-part_tokens absent k = refl
  parsed-part_tokens (list ps) k = ap put_list (parsed-parts_tokens ps k)
  parsed-part_tokens (string s) k = refl
  parsed-part_tokens no_string k = refl
  parsed-part_tokens (boolean b) k = refl
  parsed-part_tokens (literal v) k = refl

  pub parsed-parts_tokens : (ps : Parts) (k : List Token) → parsed (parts_tokens ps k) ≡ ps ∷ parsed k
  parsed-parts_tokens end k = refl
  parsed-parts_tokens (more p ps) k = parsed-part_tokens p (parts_tokens ps k) ∙ ap (put p) (parsed-parts_tokens ps k)

abbrev pub first_tree : List Parts → Tree
first_tree (more (child t) ps ∷ k) = t
first_tree k = Node Kind.Program 0 None None end

abbrev pub tokens : Tree → List Token
tokens t = part_tokens (child t) (closes ∷ [])

abbrev pub tree_of : List Token → Tree
tree_of ts = first_tree (parsed ts)

pub tree_of-tokens : (t : Tree) → tree_of (tokens t) ≡ t
tree_of-tokens t = ap first_tree (parsed-part_tokens (child t) (closes ∷ []))

abbrev pub tree_code : Coded Token → Coded Tree
tree_code c = code_by (List Token) (coded_list c) tokens tree_of tree_of-tokens
