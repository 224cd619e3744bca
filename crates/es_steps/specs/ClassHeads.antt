-- Class expressions whose heritage or keys read their name. A function that is given away there may read it later: so where such a
-- class gets its name is told, as it is of a class that is declared, with or without a name. (ECMA-262, 15.7.14: the name is
-- initialized behind the heritage and the keys, and before the static elements.)
use Rattle.std.specs.Prelude.{ℕ, List, [], ◌∷◌, ◌++◌, Bool, true, false, cond, ◌||◌, nat_eq, bytes_eq, Option, Some, None}
use Rattle.es_base.specs.Preorder.{preorder, preorder_of_part}
use Rattle.es_base.specs.Tree.{Tree, Part, Parts, Node, end, more, child, absent, string}
use Rattle.es_base.specs.declared.kind.Kind.{Kind}
use Rattle.es_steps.specs.Parts.{at, items, string_of}
use Rattle.es_steps.specs.PrivateNames.{is_element}
use Rattle.es_steps.specs.Values.{String}

-- the nodes of the keys of a class
abbrev pub key_nodes : Parts → List Tree
key_nodes end = []
key_nodes (more (child (Node kind m span semantic_id (more key ps))) es) = cond (is_element kind) (preorder_of_part key) [] ++ key_nodes es
key_nodes (more p es) = key_nodes es

abbrev pub body_keys : Part → List Tree
body_keys (child (Node Kind.ClassBody m span semantic_id ps)) = key_nodes (items (at 0 ps))
body_keys p = []

abbrev pub head_nodes : Parts → List Tree
head_nodes ps = preorder_of_part (at 1 ps) ++ body_keys (at 2 ps)

abbrev pub reads_spelling : String → List Tree → Bool
reads_spelling s [] = false
reads_spelling s (Node Kind.IdentifierReference m span semantic_id ps ∷ ts) = bytes_eq s (string_of (at 0 ps)) || reads_spelling s ts
reads_spelling s (t ∷ ts) = reads_spelling s ts

-- class n with its identifier
abbrev pub named_by : ℕ → Part → List Tree → List (ℕ × ℕ)
named_by n (child (Node Kind.BindingIdentifier b span semantic_id (more (string s) end))) heads = cond (reads_spelling s heads) ((n, b) ∷ []) []
named_by n p heads = []

-- whether a class expression with these parts reads its name there
abbrev pub is_named_pair : List (ℕ × ℕ) → Bool
is_named_pair [] = false
is_named_pair (p ∷ ps) = true

abbrev pub names_itself : ℕ → Parts → Bool
names_itself n ps = is_named_pair (named_by n (at 0 ps) (head_nodes ps))

-- a class declaration without a name is a default export, which has its value where the class is (16.2.3.7)
abbrev pub unnamed_class : ℕ → Part → List (ℕ × ℕ)
unnamed_class n absent = (n, n) ∷ []
unnamed_class n p = []

abbrev pub named_among : List Tree → List (ℕ × ℕ)
named_among [] = []
named_among (Node Kind.ClassDeclaration n span semantic_id ps ∷ ts) = unnamed_class n (at 0 ps) ++ named_among ts
named_among (Node Kind.ClassExpression n span semantic_id ps ∷ ts) = named_by n (at 0 ps) (head_nodes ps) ++ named_among ts
named_among (t ∷ ts) = named_among ts

abbrev pub named_classes : Tree → List (ℕ × ℕ)
named_classes t = named_among (preorder t)

-- the identifier of class n
abbrev pub named_as : ℕ → List (ℕ × ℕ) → Option ℕ
named_as n [] = None
named_as n (p ∷ ps) = cond (nat_eq n p.0) (Some p.1) (named_as n ps)

-- the identifier that declares class n, or what names it where none does
abbrev pub declared_or_named : ℕ → List (ℕ × ℕ) → Option ℕ → Option ℕ
declared_or_named n named None = named_as n named
declared_or_named n named (Some b) = Some b
