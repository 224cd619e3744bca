-- The numbers that a context has given, and those that it may still give.
use Rattle.std.specs.Prelude.{◌≡◌, ℕ, ◌+◌, ◌<◌, ◌≤◌, ◌^◌, [], length}
use Rattle.std.proofs.Common.{ap, arith}
use Rattle.es_base.specs.Preorder.{nodes}
use Rattle.es_base.specs.Tree.{Tree}
use Rattle.es_ctx.specs.Outcome.{BeginsAt}
use Rattle.es_ctx.specs.Stores.{stored}
use Rattle.es_ctx.specs.declared.ctx.TraverseCtx.{TraverseCtx}
use Rattle.es_scopes.specs.Table.{Table, HasRoom}
use Rattle.es_steps.specs.declared.options.CompilerAssumptions.{CompilerAssumptions}

-- what has numbers
pub data Ids : Type 0 where
  of_nodes : Ids
  of_scopes : Ids
  of_symbols : Ids
  of_references : Ids

-- how many numbers were given: to nodes by the context, to the others by its table
abbrev pub ids_given : Ids → TraverseCtx → ℕ
ids_given of_nodes c = c.next
ids_given of_scopes c = length c.scoping.scoping.scopes
ids_given of_symbols c = length c.scoping.scoping.symbols
ids_given of_references c = length c.scoping.scoping.references

pub ids_given-same : (ids : Ids) (c d : TraverseCtx) → d.next ≡ c.next → d.scoping.scoping ≡ c.scoping.scoping → ids_given ids d ≡ ids_given ids c
ids_given-same of_nodes c d next table = next
ids_given-same of_scopes c d next table = ap (λ t. length t.scopes) table
ids_given-same of_symbols c d next table = ap (λ t. length t.symbols) table
ids_given-same of_references c d next table = ap (λ t. length t.references) table

-- nodes alone get numbers, and so many
pub ids_given-few : (ids : Ids) (n : ℕ) (c d : TraverseCtx) → d.next ≡ c.next + n → d.scoping.scoping ≡ c.scoping.scoping → ids_given ids d ≤ ids_given ids c + n
ids_given-few of_nodes n c d next table = omega (arith, next)
ids_given-few of_scopes n c d next table = omega (arith, ap (λ t. length t.scopes) table)
ids_given-few of_symbols n c d next table = omega (arith, ap (λ t. length t.symbols) table)
ids_given-few of_references n c d next table = omega (arith, ap (λ t. length t.references) table)

-- and none is given back
pub ids_given-more : (ids : Ids) (c d : TraverseCtx) → c.next ≤ d.next → d.scoping.scoping ≡ c.scoping.scoping → ids_given ids c ≤ ids_given ids d
ids_given-more of_nodes c d next table = next
ids_given-more of_scopes c d next table = omega (arith, ap (λ t. length t.scopes) table)
ids_given-more of_symbols c d next table = omega (arith, ap (λ t. length t.symbols) table)
ids_given-more of_references c d next table = omega (arith, ap (λ t. length t.references) table)

-- what a transform and the open lists have, with the numbers that were given
abbrev pub load : {T : Type 0} → (T → ℕ) → Ids → T × TraverseCtx → ℕ
load spare ids s = spare s.0 + stored s.1.lists + ids_given ids s.1

-- so much weight, with what the transform and the open lists have, can still become numbers of every sort
abbrev pub Suffice : {T : Type 0} → (T → ℕ) → ℕ → T × TraverseCtx → Type 0
Suffice spare weight s = (ids : Ids) → weight + load spare ids s < 2 ^ 32

module _ {T : Type 0} (spare : T → ℕ) (weight : ℕ) (s : T × TraverseCtx) (enough : Suffice spare weight s) where
  -- as many as it weighs
  pub numbers_left : (ids : Ids) (n : ℕ) → n ≤ weight → ids_given ids s.1 + n < 2 ^ 32
  numbers_left ids n within = omega (arith, within, enough ids)

  -- so what weighs something may make a scope, a symbol and a reference without asking whether the table has room
  pub room_for_scope : 1 ≤ weight → HasRoom s.1.scoping.scoping.scopes
  room_for_scope some = omega (arith, numbers_left of_scopes 1 some)

  pub room_for_symbol : 1 ≤ weight → HasRoom s.1.scoping.scoping.symbols
  room_for_symbol some = omega (arith, numbers_left of_symbols 1 some)

  pub room_for_reference : 1 ≤ weight → HasRoom s.1.scoping.scoping.references
  room_for_reference some = omega (arith, numbers_left of_references 1 some)

-- where no list is open
pub suffice_at : {T : Type 0} (spare : T → ℕ) (weight : ℕ) (s : T × TraverseCtx) → s.1.lists ≡ [] → weight + (spare s.0 + s.1.next) < 2 ^ 32 → weight + (spare s.0 + length s.1.scoping.scoping.scopes) < 2 ^ 32 → weight + (spare s.0 + length s.1.scoping.scoping.symbols) < 2 ^ 32 → weight + (spare s.0 + length s.1.scoping.scoping.references) < 2 ^ 32 → Suffice spare weight s
suffice_at spare weight s none given scopes symbols references of_nodes = omega (arith, given, ap stored none)
suffice_at spare weight s none given scopes symbols references of_scopes = omega (arith, scopes, ap stored none)
suffice_at spare weight s none given scopes symbols references of_symbols = omega (arith, symbols, ap stored none)
suffice_at spare weight s none given scopes symbols references of_references = omega (arith, references, ap stored none)

-- as a walk begins
pub suffice_begun : {T : Type 0} (spare : T → ℕ) (weight : ℕ) (x : T) (c : TraverseCtx) (program : Tree) (t : Table) (a : CompilerAssumptions) → BeginsAt program t a c → weight + (spare x + nodes program) < 2 ^ 32 → weight + (spare x + length t.scopes) < 2 ^ 32 → weight + (spare x + length t.symbols) < 2 ^ 32 → weight + (spare x + length t.references) < 2 ^ 32 → Suffice spare weight (x, c)
suffice_begun spare weight x c program t a begins given scopes symbols references =
    suffice_at spare weight (x, c) begins.lists (omega (arith, given, begins.next)) (omega (arith, scopes, ap (λ t. length t.scopes) begins.table)) (omega (arith, symbols, ap (λ t. length t.symbols) begins.table)) (omega (arith, references, ap (λ t. length t.references) begins.table))
