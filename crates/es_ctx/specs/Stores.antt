-- What is still to be put into the lists of statements that are open, and where it goes. The open lists
-- stand outermost first.
use Rattle.std.specs.Prelude.{ℕ, ◌+◌, zero, suc, nat_eq, List, [], ◌∷◌, ◌++◌, take, drop, Bool, true, false, ◌||◌, None}
use Rattle.es_base.specs.Numbered.{unnumbered}
use Rattle.es_base.specs.Preorder.{nodes_of, number_of}
use Rattle.es_base.specs.Tree.{Tree, Part, Parts, Node, end, more, child, list, string, trees}
use Rattle.es_base.specs.declared.kind.Kind.{Kind}
use Rattle.es_base.specs.declared.operator.VariableDeclarationKind.{VariableDeclarationKind}
use Rattle.es_ctx.specs.declared.stores.OpenList.{OpenList}
use Rattle.es_ctx.specs.declared.stores.Side.{Side}
use Rattle.es_ctx.specs.declared.stores.Slot.{Slot}
use Rattle.es_statement.specs.Statement.{variable_declaration}

abbrev pub pick : {X : Type 0} → Bool → X → X → X
pick true x y = x
pick false x y = y

-- ---- the elements of a list

abbrev pub element_number : Part → ℕ
element_number (child t) = number_of t
element_number p = unnumbered

abbrev pub element_numbers : Parts → List ℕ
element_numbers end = []
element_numbers (more p ps) = element_number p ∷ element_numbers ps

abbrev pub numbers_in : Part → List ℕ
numbers_in (list all) = element_numbers all
numbers_in p = []

abbrev pub is_among : ℕ → List ℕ → Bool
is_among n [] = false
is_among n (k ∷ ks) = nat_eq k n || is_among n ks

-- ---- what is kept for a list

-- nothing yet
abbrev pub open_list : Part → OpenList
open_list p = record { numbers = numbers_in p; slots = []; vars = []; lets = [] }

abbrev pub empty_slot : ℕ → Slot
empty_slot n = record { node = n; before = []; after = [] }

-- what stands beside the element of this number
abbrev pub slot_of : ℕ → List Slot → Slot
slot_of n [] = empty_slot n
slot_of n (s ∷ ss) = pick (nat_eq s.node n) s (slot_of n ss)

abbrev pub without : ℕ → List Slot → List Slot
without n [] = []
without n (s ∷ ss) = pick (nat_eq s.node n) ss (s ∷ without n ss)

-- a slot with more statements on a side, behind those that are there
abbrev pub beside : Side → List Tree → Slot → Slot
beside Side.Before ts s = record { node = s.node; before = s.before ++ ts; after = s.after }
beside Side.After ts s = record { node = s.node; before = s.before; after = s.after ++ ts }

-- the slots with that of a number changed, which is made if there is none
abbrev pub slots_with : (Slot → Slot) → ℕ → List Slot → List Slot
slots_with f n [] = f (empty_slot n) ∷ []
slots_with f n (s ∷ ss) = pick (nat_eq s.node n) (f s ∷ ss) (s ∷ slots_with f n ss)

abbrev pub with_slot : (Slot → Slot) → ℕ → OpenList → OpenList
with_slot f n l = record { numbers = l.numbers; slots = slots_with f n l.slots; vars = l.vars; lets = l.lets }

abbrev pub with_var : Tree → OpenList → OpenList
with_var d l = record { numbers = l.numbers; slots = l.slots; vars = l.vars ++ d ∷ []; lets = l.lets }

abbrev pub with_let : Tree → OpenList → OpenList
with_let d l = record { numbers = l.numbers; slots = l.slots; vars = l.vars; lets = l.lets ++ d ∷ [] }

-- ---- which list

-- the place of the innermost list that has this element, and else that of the innermost list
abbrev pub place_from : ℕ → ℕ → ℕ → List OpenList → ℕ
place_from n i found [] = found
place_from n i found (l ∷ ls) = place_from n (i + 1) (pick (is_among n l.numbers) i found) ls

abbrev pub innermost : List OpenList → ℕ
innermost [] = 0
innermost (l ∷ []) = 0
innermost (l ∷ m ∷ ls) = suc (innermost (m ∷ ls))

abbrev pub place_of : ℕ → List OpenList → ℕ
place_of n ls = place_from n 0 (innermost ls) ls

-- the list at a place changed
abbrev pub changed : ℕ → (OpenList → OpenList) → List OpenList → List OpenList
changed at f [] = []
changed zero f (l ∷ ls) = f l ∷ ls
changed (suc at) f (l ∷ ls) = l ∷ changed at f ls

-- statements that are kept beside the element of a number, in the innermost open list that has it
abbrev pub kept_beside : Side → List Tree → ℕ → List OpenList → List OpenList
kept_beside side ts n ls = changed (place_of n ls) (with_slot (beside side ts) n) ls

-- ---- opening and closing

-- the open lists after one more may be open
abbrev pub opened : Bool → Part → List OpenList → List OpenList
opened true p lists = lists ++ open_list p ∷ []
opened false p lists = lists

abbrev pub front : {X : Type 0} → List X → List X
front [] = []
front (x ∷ []) = []
front (x ∷ y ∷ xs) = x ∷ front (y ∷ xs)

-- the open lists after the innermost may be closed
abbrev pub closed : Bool → List OpenList → List OpenList
closed true lists = front lists
closed false lists = lists

abbrev pub trees_then : List Tree → Parts → Parts
trees_then [] rest = rest
trees_then (t ∷ ts) rest = more (child t) (trees_then ts rest)

-- what is kept for numbers that no element has
abbrev pub left_over : List Slot → Parts
left_over [] = end
left_over (s ∷ ss) = trees_then s.before (trees_then s.after (left_over ss))

-- each element between what is kept for it, and then what is left over
abbrev pub spread : List Slot → Parts → Parts
spread ss end = left_over ss
spread ss (more p ps) = trees_then (slot_of (element_number p) ss).before (more p (trees_then (slot_of (element_number p) ss).after (spread (without (element_number p) ss) ps)))

-- one declaration with these declarators, if there are any
abbrev pub declared : VariableDeclarationKind → List Tree → List Tree
declared kind [] = []
declared kind (d ∷ ds) = variable_declaration unnumbered None kind (d ∷ ds) ∷ []

abbrev pub is_string : Part → Bool
is_string (string s) = true
is_string p = false

-- `"use strict";`, whose second part is the string of a directive
abbrev pub begins_with_string : Parts → Bool
begins_with_string (more p rest) = is_string p
begins_with_string end = false

abbrev pub has_directive : Parts → Bool
has_directive (more expression rest) = begins_with_string rest
has_directive end = false

abbrev pub is_directive : Part → Bool
is_directive (child (Node Kind.ExpressionStatement i sp si ps)) = has_directive ps
is_directive p = false

-- statements behind the directives of a list
abbrev pub behind_directives : List Tree → Parts → Parts
behind_directives ts end = trees_then ts end
behind_directives ts (more p ps) = pick (is_directive p) (more p (behind_directives ts ps)) (trees_then ts (more p ps))

-- a list with what is kept for it: the statements beside their elements, and behind the directives one
-- `var` and then one `let`
abbrev pub placed_items : OpenList → Parts → Parts
placed_items l all = behind_directives (declared VariableDeclarationKind.Var l.vars ++ declared VariableDeclarationKind.Let l.lets) (spread l.slots all)

abbrev pub placed : OpenList → Part → Part
placed l (list all) = list (placed_items l all)
placed l p = p

-- a part with what the innermost open list keeps for it
abbrev pub filled : Bool → List OpenList → Part → Part
filled true [] p = p
filled true (l ∷ []) p = placed l p
filled true (l ∷ m ∷ ls) p = filled true (m ∷ ls) p
filled false lists p = p

-- ---- the same, as code finds it

abbrev pub slot_place : ℕ → List Slot → ℕ
slot_place n [] = 0
slot_place n (s ∷ ss) = pick (nat_eq s.node n) 0 (suc (slot_place n ss))

abbrev pub slot_changed : ℕ → (Slot → Slot) → List Slot → List Slot
slot_changed at f [] = []
slot_changed zero f (s ∷ ss) = f s ∷ ss
slot_changed (suc at) f (s ∷ ss) = s ∷ slot_changed at f ss

abbrev pub left_trees : List Slot → List Tree
left_trees [] = []
left_trees (s ∷ ss) = s.before ++ (s.after ++ left_trees ss)

abbrev pub directive_count : Parts → ℕ
directive_count end = 0
directive_count (more p ps) = pick (is_directive p) (suc (directive_count ps)) 0

-- a declaration put at a place, if there is one
abbrev pub inserted_all : ℕ → List Tree → List Tree → List Tree
inserted_all at ts us = take at us ++ (ts ++ drop at us)

-- ---- how much is kept

abbrev pub declared_nodes : List Tree → ℕ
declared_nodes [] = 0
declared_nodes (d ∷ ds) = nodes_of (trees (d ∷ ds)) + 1

abbrev pub stored_slots : List Slot → ℕ
stored_slots [] = 0
stored_slots (s ∷ ss) = nodes_of (trees s.before) + nodes_of (trees s.after) + stored_slots ss

abbrev pub stored_list : OpenList → ℕ
stored_list l = declared_nodes l.vars + declared_nodes l.lets + stored_slots l.slots

-- the nodes that are still to be placed
abbrev pub stored : List OpenList → ℕ
stored [] = 0
stored (l ∷ ls) = stored_list l + stored ls
