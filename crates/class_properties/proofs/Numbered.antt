-- What a program of the first form is lowered to, with the numbers of new nodes written out one by one. No contract speaks
-- of it: proofs/Renumbered.antt shows that it is the lowered program of specs/Lowering.antt.
use Rattle.std.specs.Prelude.{ℕ, ◌+◌, List, [], ◌∷◌}
use Rattle.es_base.specs.Preorder.{nodes}
use Rattle.es_base.specs.Tree.{Tree, Part, Parts, Node, end, more, child, list}
use Rattle.es_steps.specs.Generated.{constructor_at, define_at, void_at}
use Rattle.es_steps.specs.Parts.{at, items, string_of}
use Rattle.es_steps.specs.Values.{String}

-- the string of a key
abbrev pub key_string : Part → String
key_string (child (Node kind m span semantic_id ps)) = string_of (at 0 ps)
key_string p = []

-- the value of a field, or `void 0` where it has none
abbrev pub value_from : ℕ → Part → Tree
value_from n (child t) = t
value_from n p = void_at n

-- how many new nodes the value has, and the definition of a field
abbrev pub value_size : Part → ℕ
value_size (child t) = 0
value_size p = 2

abbrev pub field_size : Parts → ℕ
field_size ps = 7 + value_size (at 1 ps)

-- the definitions of the fields, with numbers from n on
abbrev pub definitions_from : ℕ → Parts → List Tree
definitions_from n end = []
definitions_from n (more (child (Node kind m span semantic_id ps)) rest) = define_at n (key_string (at 0 ps)) (value_from (n + 7) (at 1 ps)) ∷ definitions_from (n + field_size ps) rest
definitions_from n (more p rest) = definitions_from n rest

abbrev pub fields_size : Parts → ℕ
fields_size end = 0
fields_size (more (child (Node kind m span semantic_id ps)) rest) = field_size ps + fields_size rest
fields_size (more p rest) = fields_size rest

-- the elements of a class: a constructor where there were fields
abbrev pub lowered_elements : ℕ → Parts → Parts
lowered_elements n end = end
lowered_elements n (more p ps) = more (child (constructor_at n (definitions_from (n + 4) (more p ps)))) end

abbrev pub elements_size : Parts → ℕ
elements_size end = 0
elements_size (more p ps) = 4 + fields_size (more p ps)

abbrev pub lowered_body : ℕ → Part → Part
lowered_body n (child (Node kind m span semantic_id (more p ps))) = child (Node kind m span semantic_id (more (list (lowered_elements n (items p))) ps))
lowered_body n p = p

abbrev pub body_size : Part → ℕ
body_size (child (Node kind m span semantic_id (more p ps))) = elements_size (items p)
body_size p = 0

-- a statement, which is a class
abbrev pub lowered_statement : ℕ → Part → Part
lowered_statement n (child (Node kind m span semantic_id (more id (more heritage (more body ps))))) = child (Node kind m span semantic_id (more id (more heritage (more (lowered_body n body) ps))))
lowered_statement n p = p

abbrev pub statement_size : Part → ℕ
statement_size (child (Node kind m span semantic_id (more id (more heritage (more body ps))))) = body_size body
statement_size p = 0

abbrev pub lowered_statements : ℕ → Parts → Parts
lowered_statements n end = end
lowered_statements n (more p ps) = more (lowered_statement n p) (lowered_statements (n + statement_size p) ps)

-- the program, whose first new node has the number n
abbrev pub lowered_from : ℕ → Tree → Tree
lowered_from n (Node kind m span semantic_id (more source_type (more body ps))) = Node kind m span semantic_id (more source_type (more (list (lowered_statements n (items body))) ps))
lowered_from n t = t

abbrev pub lowered : Tree → Tree
lowered t = lowered_from (nodes t) t
