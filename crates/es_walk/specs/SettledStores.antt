-- Where what the open lists keep is settled, it is settled at its place too.
use Rattle.std.specs.Prelude.{ℕ, zero, suc, nat_eq, List, [], ◌∷◌, ◌++◌, Bool, true, false, None}
use Rattle.es_base.specs.Numbered.{unnumbered}
use Rattle.es_base.specs.Tree.{Tree, Part, Parts, end, more, child, absent, list, string, no_string, boolean, literal, trees}
use Rattle.es_base.specs.declared.operator.VariableDeclarationKind.{VariableDeclarationKind}
use Rattle.es_ctx.specs.Stores.{pick, empty_slot, slot_of, without, beside, slots_with, with_slot, with_var, with_let, changed, trees_then, left_over, spread, declared, is_directive, behind_directives, placed, front, opened, closed, filled, open_list, element_number}
use Rattle.es_ctx.specs.declared.stores.OpenList.{OpenList}
use Rattle.es_ctx.specs.declared.stores.Side.{Side}
use Rattle.es_ctx.specs.declared.stores.Slot.{Slot}
use Rattle.es_statement.specs.Statement.{variable_declaration}
use Rattle.es_walk.specs.Laws.{AllSettled, PartSettled, ItemsSettled}

module _ (settled : Tree → Type 0) where
  abbrev pub KeptSettled : List Tree → Type 0
  KeptSettled [] = Unit {0}
  KeptSettled (t ∷ ts) = AllSettled settled t × KeptSettled ts

  abbrev pub SlotsSettled : List Slot → Type 0
  SlotsSettled [] = Unit {0}
  SlotsSettled (s ∷ ss) = KeptSettled s.before × KeptSettled s.after × SlotsSettled ss

  -- of the declarators, that what declares them is settled
  abbrev pub ListSettled : OpenList → Type 0
  ListSettled l = KeptSettled (declared VariableDeclarationKind.Var l.vars) × KeptSettled (declared VariableDeclarationKind.Let l.lets) × SlotsSettled l.slots

  abbrev pub ListsSettled : List OpenList → Type 0
  ListsSettled [] = Unit {0}
  ListsSettled (l ∷ ls) = ListSettled l × ListsSettled ls

  open-settled : (p : Part) → ListSettled (open_list p)
  open-settled p = (tt {0}, tt {0}, tt {0})

  push-lists : (ls : List OpenList) (l : OpenList) → ListSettled l → ListsSettled ls → ListsSettled (ls ++ l ∷ [])
  push-lists [] l h k = (h, tt {0})
  push-lists (m ∷ ls) l h k = (k.0, push-lists ls l h k.1)

  pub opened-settled : (b : Bool) (p : Part) (ls : List OpenList) → ListsSettled ls → ListsSettled (opened b p ls)
  opened-settled true p ls h = push-lists ls (open_list p) (open-settled p) h
  opened-settled false p ls h = h

  front-settled : (ls : List OpenList) → ListsSettled ls → ListsSettled (front ls)
  front-settled [] h = h
  front-settled (l ∷ []) h = tt {0}
  front-settled (l ∷ m ∷ ls) h = (h.0, front-settled (m ∷ ls) h.1)

  pub closed-settled : (b : Bool) (ls : List OpenList) → ListsSettled ls → ListsSettled (closed b ls)
  closed-settled true ls h = front-settled ls h
  closed-settled false ls h = h

  then-settled : (ts : List Tree) (ps : Parts) → KeptSettled ts → ItemsSettled settled ps → ItemsSettled settled (trees_then ts ps)
  then-settled [] ps h k = k
  then-settled (t ∷ ts) ps h k = (h.0, then-settled ts ps h.1 k)

  append-settled : (ts us : List Tree) → KeptSettled ts → KeptSettled us → KeptSettled (ts ++ us)
  append-settled [] us h k = k
  append-settled (t ∷ ts) us h k = (h.0, append-settled ts us h.1 k)

  left-settled : (ss : List Slot) → SlotsSettled ss → ItemsSettled settled (left_over ss)
  left-settled [] h = tt {0}
  left-settled (s ∷ ss) h = then-settled s.before (trees_then s.after (left_over ss)) h.0 (then-settled s.after (left_over ss) h.1 (left-settled ss h.2))

  -- the slot of a number, and the others
  abbrev Apart : Slot → List Slot → Type 0
  Apart s ss = KeptSettled s.before × KeptSettled s.after × SlotsSettled ss

  apart-at : (b : Bool) (n : ℕ) (s : Slot) (ss : List Slot) → SlotsSettled (s ∷ ss) → Apart (slot_of n ss) (without n ss) → Apart (pick b s (slot_of n ss)) (pick b ss (s ∷ without n ss))
  apart-at true n s ss h k = h
  apart-at false n s ss h k = (k.0, k.1, (h.0, h.1, k.2))

  apart : (n : ℕ) (ss : List Slot) → SlotsSettled ss → Apart (slot_of n ss) (without n ss)
  apart n [] h = (tt {0}, tt {0}, tt {0})
  apart n (s ∷ ss) h = apart-at (nat_eq s.node n) n s ss h (apart n ss h.2)

  spread-settled : (ss : List Slot) (ps : Parts) → SlotsSettled ss → ItemsSettled settled ps → ItemsSettled settled (spread ss ps)
  spread-settled ss end h k = left-settled ss h
  spread-settled ss (more p ps) h k =
      let n = element_number p in
      let a = apart n ss h in
      then-settled (slot_of n ss).before (more p (trees_then (slot_of n ss).after (spread (without n ss) ps))) a.0 (k.0, then-settled (slot_of n ss).after (spread (without n ss) ps) a.1 (spread-settled (without n ss) ps a.2 k.1))

  behind-settled-at : (b : Bool) (ts : List Tree) (p : Part) (ps : Parts) → KeptSettled ts → ItemsSettled settled (more p ps) → ItemsSettled settled (behind_directives ts ps) → ItemsSettled settled (pick b (more p (behind_directives ts ps)) (trees_then ts (more p ps)))
  behind-settled-at true ts p ps h k below = (k.0, below)
  behind-settled-at false ts p ps h k below = then-settled ts (more p ps) h k

  behind-settled : (ts : List Tree) (ps : Parts) → KeptSettled ts → ItemsSettled settled ps → ItemsSettled settled (behind_directives ts ps)
  behind-settled ts end h k = then-settled ts end h k
  behind-settled ts (more p ps) h k = behind-settled-at (is_directive p) ts p ps h k (behind-settled ts ps h k.1)

  placed-settled : (l : OpenList) (p : Part) → ListSettled l → PartSettled settled p → PartSettled settled (placed l p)
  placed-settled l (child t) h below = below
  placed-settled l absent h below = below
  placed-settled l (list all) h below =
      let var = declared VariableDeclarationKind.Var l.vars in
      let lets = declared VariableDeclarationKind.Let l.lets in
      behind-settled (var ++ lets) (spread l.slots all) (append-settled var lets h.0 h.1) (spread-settled l.slots all h.2 below)
  placed-settled l (string s) h below = below
  placed-settled l no_string h below = below
  placed-settled l (boolean b) h below = below
  placed-settled l (literal v) h below = below

  pub filled-settled : (b : Bool) (ls : List OpenList) (p : Part) → ListsSettled ls → PartSettled settled p → PartSettled settled (filled b ls p)
  filled-settled true [] p h below = below
  filled-settled true (l ∷ []) p h below = placed-settled l p h.0 below
  filled-settled true (l ∷ m ∷ ls) p h below = filled-settled true (m ∷ ls) p h.1 below
  filled-settled false ls p h below = below

  -- what a hook keeps
  pub changed-settled : (at : ℕ) (f : OpenList → OpenList) (ls : List OpenList) → ((l : OpenList) → ListSettled l → ListSettled (f l)) → ListsSettled ls → ListsSettled (changed at f ls)
  changed-settled at f [] law h = h
  changed-settled zero f (l ∷ ls) law h = (law l h.0, h.1)
  changed-settled (suc at) f (l ∷ ls) law h = (h.0, changed-settled at f ls law h.1)

  beside-settled : (side : Side) (ts : List Tree) (s : Slot) → KeptSettled ts → KeptSettled s.before × KeptSettled s.after → KeptSettled (beside side ts s).before × KeptSettled (beside side ts s).after
  beside-settled Side.Before ts s h k = (append-settled s.before ts k.0 h, k.1)
  beside-settled Side.After ts s h k = (k.0, append-settled s.after ts k.1 h)

  slots-settled-at : (b : Bool) (side : Side) (ts : List Tree) (n : ℕ) (s : Slot) (ss : List Slot) → KeptSettled ts → SlotsSettled (s ∷ ss) → SlotsSettled (slots_with (beside side ts) n ss) → SlotsSettled (pick b (beside side ts s ∷ ss) (s ∷ slots_with (beside side ts) n ss))
  slots-settled-at true side ts n s ss h k below = let here = beside-settled side ts s h (k.0, k.1) in (here.0, here.1, k.2)
  slots-settled-at false side ts n s ss h k below = (k.0, k.1, below)

  slots-settled : (side : Side) (ts : List Tree) (n : ℕ) (ss : List Slot) → KeptSettled ts → SlotsSettled ss → SlotsSettled (slots_with (beside side ts) n ss)
  slots-settled side ts n [] h k = let here = beside-settled side ts (empty_slot n) h (tt {0}, tt {0}) in (here.0, here.1, tt {0})
  slots-settled side ts n (s ∷ ss) h k = slots-settled-at (nat_eq s.node n) side ts n s ss h k (slots-settled side ts n ss h k.2)

  pub slot-settled : (side : Side) (ts : List Tree) (n : ℕ) (l : OpenList) → KeptSettled ts → ListSettled l → ListSettled (with_slot (beside side ts) n l)
  slot-settled side ts n l h k = (k.0, k.1, slots-settled side ts n l.slots h k.2)

  items-push : (ds : List Tree) (d : Tree) → ItemsSettled settled (trees ds) → AllSettled settled d → ItemsSettled settled (trees (ds ++ d ∷ []))
  items-push [] d h k = (k, tt {0})
  items-push (e ∷ ds) d h k = (h.0, items-push ds d h.1 k)

  -- one more declarator, where a declaration itself is settled
  pub declared-push : (kind : VariableDeclarationKind) → ((ds : List Tree) → settled (variable_declaration unnumbered None kind ds)) → (ds : List Tree) (d : Tree) → KeptSettled (declared kind ds) → AllSettled settled d → KeptSettled (declared kind (ds ++ d ∷ []))
  declared-push kind law [] d h k = ((law (d ∷ []), (tt {0}, ((k, tt {0}), tt {0}))), tt {0})
  declared-push kind law (e ∷ ds) d h k = ((law (e ∷ (ds ++ d ∷ [])), (tt {0}, (items-push (e ∷ ds) d h.0.1.1.0 k, tt {0}))), tt {0})

  pub var-settled : ((ds : List Tree) → settled (variable_declaration unnumbered None VariableDeclarationKind.Var ds)) → (d : Tree) (l : OpenList) → AllSettled settled d → ListSettled l → ListSettled (with_var d l)
  var-settled law d l h k = (declared-push VariableDeclarationKind.Var law l.vars d k.0 h, k.1, k.2)

  pub let-settled : ((ds : List Tree) → settled (variable_declaration unnumbered None VariableDeclarationKind.Let ds)) → (d : Tree) (l : OpenList) → AllSettled settled d → ListSettled l → ListSettled (with_let d l)
  let-settled law d l h k = (k.0, declared-push VariableDeclarationKind.Let law l.lets d k.1 h, k.2)
