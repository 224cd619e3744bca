-- The nodes of a tree that may bear a semantic id, in preorder, each with what it has to do with scopes. Scopes are known
-- by their numbers, which count them in preorder.
use Rattle.std.specs.Prelude.{ℕ, ◌+◌, List, [], ◌++◌, cond, Bool, Option, Some, None, option_to_list}
use Rattle.es_base.specs.Tree.{Tree, Part, Parts, Node, end, more, child, list}
use Rattle.es_base.specs.declared.ids.NodeId.{NodeId}
use Rattle.es_base.specs.declared.kind.Kind.{Kind}
use Rattle.es_scopes.specs.NodeScopes.{scope_flags, is_strict, opens, has_scope}
use Rattle.es_steps.specs.Parts.{at, string_of}
use Rattle.es_scopes.specs.Surroundings.{scope_place, inside, nowhere}
use Rattle.es_scopes.specs.declared.entry.Entry.{Entry}
use Rattle.es_scopes.specs.declared.entry.Entry.TheVariants as entry
use Rattle.es_scopes.specs.declared.surroundings.Declarer.TheVariants as declarer
use Rattle.es_scopes.specs.declared.surroundings.Declares.{Declares}
use Rattle.es_scopes.specs.declared.surroundings.Declares.TheVariants as declares
use Rattle.es_scopes.specs.declared.surroundings.Surroundings.{Surroundings}

-- the entries so far, and the number of the scope to come
pub record Collected : Type 0 where
  pub entries : List Entry
  pub next : ℕ

-- an identifier of this number that stands there
abbrev pub binding : Declares → NodeId → List ℕ → Surroundings → Entry
binding (declares.Pattern holder who) m name s = entry.Binding m holder who name s.symbol_flags s.head_var
binding d m name s = entry.Binding m None declarer.Other name s.symbol_flags s.head_var

-- a node of a kind that has scopes, in strict code or not
abbrev pub scope_entry : Kind → NodeId → Bool → Surroundings → Entry
scope_entry kind m strict s = cond (opens kind (scope_place s)) (entry.Scope m s.scope s.in_parameters (scope_flags kind s.given.0 strict)) (entry.Body m)

-- what a node has to do with scopes
abbrev pub entry_of : Kind → NodeId → Parts → Surroundings → Option Entry
entry_of Kind.BindingIdentifier m ps s = Some (binding s.declares m (string_of (at 0 ps)) s)
entry_of Kind.IdentifierReference m ps s = Some (entry.Reference m s.scope s.in_parameters (string_of (at 0 ps)) s.usage)
entry_of kind m ps s = cond (has_scope kind) (Some (scope_entry kind m (is_strict kind ps (scope_place s)) s)) None

abbrev pub entered : Kind → NodeId → Parts → Surroundings → Collected → Collected
entered kind m ps s c = record { entries = c.entries ++ option_to_list (entry_of kind m ps s); next = cond (opens kind (scope_place s)) (c.next + 1) c.next }

-- after a tree, its parts, a part, the items of a list
abbrev mutual
  pub collected : Surroundings → Collected → Tree → Collected
  collected s c (Node kind m span id ps) = collected_parts (inside kind (record { 0 = c.next }) ps s) 0 (entered kind (record { 0 = m }) ps s c) ps

  pub collected_parts : (ℕ → Surroundings) → ℕ → Collected → Parts → Collected
  collected_parts inner i c end = c
  collected_parts inner i c (more p ps) = collected_parts inner (i + 1) (collected_part (inner i) c p) ps

  pub collected_part : Surroundings → Collected → Part → Collected
  collected_part s c (child t) = collected s c t
  collected_part s c (list ps) = collected_items s c ps
  collected_part s c p = c

  pub collected_items : Surroundings → Collected → Parts → Collected
  collected_items s c end = c
  collected_items s c (more p ps) = collected_items s (collected_part s c p) ps

abbrev pub nothing_yet : Collected
nothing_yet = record { entries = []; next = 0 }

-- those of a program
abbrev pub entries_of : Tree → List Entry
entries_of program = (collected nowhere nothing_yet program).entries
