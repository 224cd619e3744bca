-- The syntax tree as data (ESTree; this form is our own): what each node is, its number, its
-- span, its semantic id, and its parts in the order of the table of kinds.
use Rattle.std.specs.Prelude.{ℕ, List, [], ◌∷◌, Bool, Option, Some, None}
use Rattle.es_base.specs.declared.kind.Kind.{Kind}
use Rattle.es_base.specs.declared.literal.LiteralValue.{LiteralValue}

mutual
  -- The semantic id is the number of the scope, symbol or reference. Only the agreement of a scope table
  -- with a tree reads it.
  pub data Tree : Type 0 where
    Node : (kind : Kind) (id : ℕ) (span : Option (ℕ × ℕ)) (semantic_id : Option ℕ) (parts : Parts) → Tree

  -- what stands at a member
  pub data Part : Type 0 where
    child : (tree : Tree) → Part
    absent : Part
    list : (all : Parts) → Part
    string : (chars : List ℕ) → Part
    no_string : Part
    boolean : (value : Bool) → Part
    literal : (value : LiteralValue) → Part

  pub data Parts : Type 0 where
    end : Parts
    more : (first : Part) (rest : Parts) → Parts

-- a child that may be absent
abbrev pub nullable : Option Tree → Part
nullable None = absent
nullable (Some t) = child t

-- a string that may be absent
abbrev pub nullable_string : Option (List ℕ) → Part
nullable_string None = no_string
nullable_string (Some t) = string t

-- a list of children
abbrev pub trees : List Tree → Parts
trees [] = end
trees (t ∷ ts) = more (child t) (trees ts)

-- a list of children, some of which may be absent
abbrev pub nullable_trees : List (Option Tree) → Parts
nullable_trees [] = end
nullable_trees (t ∷ ts) = more (nullable t) (nullable_trees ts)

-- the same node as another kind: a function or a class stands as a declaration or as an expression
abbrev pub of_kind : Kind → Tree → Tree
of_kind kind (Node _ id span semantic_id parts) = Node kind id span semantic_id parts
