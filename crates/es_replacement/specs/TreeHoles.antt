-- Trees with a hole, and what is read around it.
use Rattle.std.specs.Prelude.{◌≡◌, ℕ, zero, suc, Bool, true, false, ◌&&◌, Option, Some, None}
use Rattle.es_base.specs.Tree.{Tree, Part, Parts, Node, end, more, child, list}
use Rattle.es_base.specs.declared.kind.Kind.{Kind}
use Rattle.es_steps.specs.Code.{Code, initializers}
use Rattle.es_steps.specs.Context.{Context, inside}
use Rattle.es_steps.specs.Members.{Member, Members}
use Rattle.es_steps.specs.Members as members
use Rattle.es_steps.specs.Parts.{at, string_of}
use Rattle.es_steps.specs.Reading.{code_of, read_parts, read_items}
use Rattle.es_replacement.specs.Holes.{filled}
use Rattle.es_replacement.specs.Unasked.{head_open, asked_part}

-- the hole is a child, or an item of a list
pub data PartHole : Type 0 where
  the_child : PartHole
  an_item : (before after : Parts) → PartHole

-- the nodes around the hole, the outermost first, each with the parts before and after that of the hole
pub data TreeHole : Type 0 where
  top : TreeHole
  within : (kind : Kind) (id : ℕ) (span : Option (ℕ × ℕ)) (semantic_id : Option ℕ) (before : Parts) (place : PartHole) (after : Parts) (hole : TreeHole) → TreeHole

abbrev pub joined : Parts → Parts → Parts
joined end qs = qs
joined (more p ps) qs = more p (joined ps qs)

abbrev pub put_part : PartHole → Tree → Part
put_part the_child t = child t
put_part (an_item before after) t = list (joined before (more (child t) after))

abbrev pub with_part : Parts → PartHole → Parts → Tree → Parts
with_part before place after t = joined before (more (put_part place t) after)

-- the tree with t in the hole
abbrev pub put : TreeHole → Tree → Tree
put top t = t
put (within kind m span semantic_id before place after hole) t = Node kind m span semantic_id (with_part before place after (put hole t))

-- ---- reading

-- the context of the part that stands behind these, and those of the parts behind that
abbrev pub behind : Parts → (ℕ → Context) → Context
behind end c = c 0
behind (more p ps) c = behind ps (λ i. c (suc i))

abbrev pub further : Parts → (ℕ → Context) → ℕ → Context
further end c = λ i. c (suc i)
further (more p ps) c = further ps (λ i. c (suc i))

-- the contexts of the parts of a node with t in the hole below
abbrev pub inside_with : Context → Kind → ℕ → Parts → PartHole → Parts → TreeHole → Tree → ℕ → Context
inside_with c kind m before place after hole t = inside c kind m (with_part before place after (put hole t))

-- the context of the hole, where t stands in it
abbrev pub context_at : Context → TreeHole → Tree → Context
context_at c top t = c
context_at c (within kind m span semantic_id before place after hole) t = context_at (behind before (inside_with c kind m before place after hole t)) hole t

abbrev pub joined_members : Members → Members → Members
joined_members members.end qs = qs
joined_members (members.more p ps) qs = members.more p (joined_members ps qs)

abbrev pub read_place : Context → PartHole → Code → Member
read_place c the_child e = members.code e
read_place c (an_item before after) e = members.list (joined_members (read_items c before) (members.more (members.code e) (read_items c after)))

-- the members of a node, e being the code of the part with the hole
abbrev pub read_with : (ℕ → Context) → Parts → PartHole → Parts → Code → Members
read_with c before place after e = joined_members (read_parts c before) (members.more (read_place (behind before c) place e) (read_parts (further before c) after))

-- the code of the nodes around, with a hole; t stands in the hole
abbrev pub code_around : Context → TreeHole → Tree → Code
code_around c top t = initializers 0
code_around c (within kind m span semantic_id before place after hole) t =
    let d : ℕ → Context = inside_with c kind m before place after hole t in
    code_of c kind m (read_with d before place after (code_around (behind before d) hole t))

-- ---- two trees for one hole

-- at each place around the same is known with t as with u
abbrev pub SeenAlike : Context → TreeHole → Tree → Tree → Type 0
SeenAlike c top t u = Unit {0}
SeenAlike c (within kind m span semantic_id before place after hole) t u =
    let d : ℕ → Context = inside_with c kind m before place after hole t in
    (d ≡ inside_with c kind m before place after hole u) × SeenAlike (behind before d) hole t u

-- each node around is read with e as with a hole: its rule does not ask for the form of e
abbrev pub ReadsThrough : Context → TreeHole → Tree → Code → Type 0
ReadsThrough c top t e = Unit {0}
ReadsThrough c (within kind m span semantic_id before place after hole) t e =
    let d : ℕ → Context = inside_with c kind m before place after hole t in
    let inner : Code = code_around (behind before d) hole t in
    (code_of c kind m (read_with d before place after (filled (λ n. e) inner)) ≡ filled (λ n. e) (code_of c kind m (read_with d before place after inner))) × ReadsThrough (behind before d) hole t e

-- ---- where the form of an expression is not asked for

-- whether the part behind these is the head of a for-in or for-of
abbrev pub is_head : Kind → Parts → Bool
is_head Kind.ForInStatement end = true
is_head Kind.ForOfStatement end = true
is_head kind before = false

-- whether the part behind these is the i-th
abbrev pub is_at : ℕ → Parts → Bool
is_at zero end = true
is_at zero (more p ps) = false
is_at (suc i) end = false
is_at (suc i) (more p ps) = is_at i ps

abbrev pub is_part : Option ℕ → Parts → Bool
is_part None before = false
is_part (Some i) before = is_at i before

-- The hole is no part of which the rule of its node asks what it ends in; and no node further out is a for-in or for-of that declares
-- the hole.
abbrev pub IsApart : Context → TreeHole → Tree → Type 0
IsApart c top t = Unit {0}
IsApart c (within kind m span semantic_id before place after top) t = is_part (asked_part kind (string_of (at 0 before))) before ≡ false
IsApart c (within kind m span semantic_id before place after hole) t =
    let d : ℕ → Context = inside_with c kind m before place after hole t in
    ((is_head kind before && head_open (code_around (behind before d) hole t)) ≡ false) × IsApart (behind before d) hole t
