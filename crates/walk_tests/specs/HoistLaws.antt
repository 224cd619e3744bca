-- The laws of the hooks that replace `this`.
use Rattle.std.specs.Prelude.{◌≡◌, ℕ, zero, suc, ◌+◌, ◌≤◌, List, [], ◌∷◌, ◌++◌, Bool, true, false, ◌&&◌, Option, length, map, filter, None, refl}
use Rattle.std.proofs.Common.{ap, sym, arith, ◌∙◌, append-nil}
use Rattle.es_base.specs.Preorder.{nodes, nodes_of, number_of, preorder_of}
use Rattle.es_base.specs.Numbered.{unnumbered, is_old}
use Rattle.es_base.specs.Tree.{trees, Tree, Part, Parts, Node, child}
use Rattle.es_base.specs.declared.kind.Kind.{Kind}
use Rattle.es_base.specs.declared.operator.VariableDeclarationKind.{VariableDeclarationKind}
use Rattle.es_ctx.specs.Ancestors.{has_statements}
use Rattle.es_ctx.specs.Stores.{stored, innermost, changed, with_var, declared}
use Rattle.es_ctx.specs.declared.ancestor.Parent.{Parent}
use Rattle.es_ctx.specs.declared.ctx.TraverseCtx.{TraverseCtx}
use Rattle.es_ctx.specs.declared.stores.OpenList.{OpenList}
use Rattle.es_statement.specs.Statement.{variable_declaration}
use Rattle.es_walk.specs.Given.{Ids, ids_given-same, load}
use Rattle.es_walk.specs.Inserted.{stored-changed, stored-var}
use Rattle.es_walk.specs.Laws.{AllSettled, BelowSettled}
use Rattle.es_walk.specs.Placing.{place_here}
use Rattle.es_walk.specs.SettledStores.{ListsSettled, changed-settled, var-settled}
use Rattle.es_walk.specs.Steps.{OpensPart, ClosesPart, KeepPlaces}
use Rattle.es_walk.specs.Weight.{total, heft, NoMore, KeepsReady}
use Rattle.walk_tests.specs.OldNumbers.{old_of_part, old_of, old-push, IsQuiet, Quiet, opened-quiet, closed-quiet, changed-quiet}
use Rattle.walk_tests.specs.Hoist.{is_this_kind, is_none, is_this, IsNoThis, declarator, replaced, hoisted, weight_if, weight, Enters, Leaves}

weighs_if : (b : Bool) → 1 ≤ weight_if b
weighs_if true = omega arith
weighs_if false = omega arith

pub weighs_something : (k : Kind) → 1 ≤ weight k
weighs_something k = weighs_if (is_this_kind k)

-- what is left of a node, and what is kept for the lists
replaced-total : (b c : Bool) (k : Kind) (i : ℕ) (sp : Option (ℕ × ℕ)) (si : Option ℕ) (ps : Parts) (ls : List OpenList) → nodes (replaced (b && c) (Node k i sp si ps)) + stored (hoisted (b && c) ls) ≤ weight_if b + nodes_of ps + stored ls
replaced-total true true k i sp si ps ls = omega (arith, stored-changed (innermost ls) (with_var declarator) 3 ls (λ l. omega (arith, stored-var declarator l)))
replaced-total true false k i sp si ps ls = omega arith
replaced-total false c k i sp si ps ls = omega arith

lowered-total : (t : Tree) (ls : List OpenList) → nodes (replaced (is_this t) t) + stored (hoisted (is_this t) ls) ≤ heft weight t + stored ls
lowered-total (Node k i sp si ps) ls = replaced-total (is_this_kind k) (is_none ps) k i sp si ps ls

most_if : (b : Bool) → weight_if b ≤ 4
most_if true = omega arith
most_if false = omega arith

pub weighs_most : (k : Kind) → weight k ≤ 4
weighs_most k = most_if (is_this_kind k)

-- ---- settled

replaced-settled : (b : Bool) (t : Tree) → is_this t ≡ b → BelowSettled IsNoThis t → AllSettled IsNoThis (replaced b t)
replaced-settled true (Node k i sp si ps) is h = (refl, (tt {0}, tt {0}))
replaced-settled false (Node k i sp si ps) is h = (is, h)

declarator-settled : AllSettled IsNoThis declarator
declarator-settled = (refl, ((refl, (tt {0}, tt {0})), (tt {0}, tt {0})))

hoisted-settled : (b : Bool) (ls : List OpenList) → ListsSettled IsNoThis ls → ListsSettled IsNoThis (hoisted b ls)
hoisted-settled true ls h = changed-settled IsNoThis (innermost ls) (with_var declarator) ls (λ l k. var-settled IsNoThis (λ ds. refl) declarator l declarator-settled k) h
hoisted-settled false ls h = h

length-changed : (at : ℕ) (f : OpenList → OpenList) (ls : List OpenList) → length (changed at f ls) ≡ length ls
length-changed at f [] = refl
length-changed zero f (l ∷ ls) = refl
length-changed (suc at) f (l ∷ ls) = ap suc (length-changed at f ls)

length-hoisted : (b : Bool) (ls : List OpenList) → length (hoisted b ls) ≡ length ls
length-hoisted true ls = length-changed (innermost ls) (with_var declarator) ls
length-hoisted false ls = refl

-- ---- numbers

-- a declaration of nodes has the numbers of these
declared-old : (ds : List Tree) → old_of unnumbered (trees (variable_declaration unnumbered None VariableDeclarationKind.Var ds ∷ [])) ≡ old_of unnumbered (trees ds)
declared-old ds = ap (λ ts. filter (is_old unnumbered) (map number_of ts)) (append-nil (preorder_of (trees ds) ++ []) ∙ append-nil (preorder_of (trees ds)))

declared-quiet : (ds : List Tree) → old_of unnumbered (trees (declared VariableDeclarationKind.Var ds)) ≡ [] → old_of unnumbered (trees (declared VariableDeclarationKind.Var (ds ++ declarator ∷ []))) ≡ []
declared-quiet [] h = refl
declared-quiet (d ∷ ds) h = declared-old (d ∷ (ds ++ declarator ∷ [])) ∙ old-push unnumbered (d ∷ ds) declarator ∙ ap (λ ks. ks ++ old_of_part unnumbered (child declarator)) (sym (declared-old (d ∷ ds)) ∙ h)

with-var-quiet : (l : OpenList) → IsQuiet unnumbered l → IsQuiet unnumbered (with_var declarator l)
with-var-quiet l h = record { slots = h.slots; vars = declared-quiet l.vars h.vars; lets = h.lets }

hoisted-quiet : (b : Bool) (ls : List OpenList) → Quiet unnumbered ls → Quiet unnumbered (hoisted b ls)
hoisted-quiet true ls h = changed-quiet unnumbered (innermost ls) declarator ls with-var-quiet h
hoisted-quiet false ls h = h

module _ {T : Type 0} where
  -- what is kept for a list are declarations of nodes without numbers
  abbrev pub Ready : T × TraverseCtx → Type 0
  Ready s = Quiet unnumbered s.1.lists

  pub enter_ready : (goes : Bool) → KeepsReady {S = T × TraverseCtx} (Enters goes) Ready
  enter_ready goes s e t u h r = rw h.2 r

  pub leave_ready : KeepsReady {S = T × TraverseCtx} Leaves Ready
  leave_ready s e t u h r = rw h.3 (hoisted-quiet (is_this t) s.1.lists r)

  pub open_ready : (s m : T × TraverseCtx) (k : Parent) (at : ℕ) (p : Part) → OpensPart s k at p m → Ready s → Ready m
  open_ready s m k at p h r = rw h.lists (opened-quiet unnumbered (has_statements k.kind at) p s.1.lists r)

  pub close_ready : (s e : T × TraverseCtx) (k : Parent) (at : ℕ) (p q : Part) → ClosesPart s k at p e q → Ready s → Ready e
  close_ready s e k at p q h r = rw h.lists (closed-quiet unnumbered (has_statements k.kind at) s.1.lists r)

  pub enter_pays : (goes : Bool) (ids : Ids) → NoMore {S = T × TraverseCtx} (Enters goes) (total weight) (total weight) (load (λ t. 0) ids)
  enter_pays goes ids s e t u h = rw (h.1, h.2) (omega arith)

  pub leave_pays : (ids : Ids) → NoMore {S = T × TraverseCtx} Leaves (heft weight) nodes (load (λ t. 0) ids)
  leave_pays ids s e t u h = omega (arith, ap nodes h.0, lowered-total t s.1.lists, ids_given-same ids s.1 e.1 h.1 (ap (λ x. x.scoping) h.4), ap stored h.3)

  pub enter_keeps_place : (goes : Bool) → KeepPlaces {T = T} (Enters goes)
  enter_keeps_place goes s e t u h = rw h.2 (place_here s)

  pub leave_keeps_place : KeepPlaces {T = T} Leaves
  leave_keeps_place s e t u h = record { path = h.2; depth = ap length h.3 ∙ length-hoisted (is_this t) s.1.lists; given = λ ids. omega (arith, ids_given-same ids s.1 e.1 h.1 (ap (λ x. x.scoping) h.4)) }

  pub enter_settles : (s e : T × TraverseCtx) (t u : Tree) → Enters true s t e u → Ready s → ListsSettled IsNoThis s.1.lists → ListsSettled IsNoThis e.1.lists
  enter_settles s e t u h r l = rw h.2 l

  pub pass_settles : (s e : T × TraverseCtx) (t u : Tree) → Enters false s t e u → Ready s → ListsSettled IsNoThis s.1.lists → ListsSettled IsNoThis e.1.lists × AllSettled IsNoThis u
  pass_settles s e t u h r l = absurd (cc h.0)

  pub leave_settles : (s e : T × TraverseCtx) (t u : Tree) → Leaves s t e u → Ready s → ListsSettled IsNoThis s.1.lists → BelowSettled IsNoThis t → ListsSettled IsNoThis e.1.lists × AllSettled IsNoThis u
  leave_settles s e t u h r l below = (rw h.3 (hoisted-settled (is_this t) s.1.lists l), rw h.0 (replaced-settled (is_this t) t refl below))
