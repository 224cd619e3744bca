-- The references of a tree, and how each uses its name. (ECMA-262, 13.15: an assignment writes its target; a compound
-- assignment and an update read it first.)
use Rattle.std.specs.Prelude.{ℕ, suc, List, [], ◌∷◌, ◌++◌, cond, codes, bytes_eq, nat_eq, bit_or}
use Rattle.es_base.specs.Tree.{Tree, Part, Parts, Node, end, more, child, absent, list, string, no_string, boolean, literal}
use Rattle.es_base.specs.declared.kind.Kind.{Kind}
use Rattle.es_scopes.specs.declared.flags.ReferenceFlags.{ReferenceFlags}
use Rattle.es_scopes.specs.declared.flags.TheConstants.ReferenceFlags as flag
use Rattle.es_steps.specs.Parts.{at, string_of}

abbrev pub read_write : ℕ
read_write = bit_or flag.READ.0 flag.WRITE.0

abbrev pub assignment_flags : List ℕ → ℕ
assignment_flags operator = cond (bytes_eq operator (codes "=")) flag.WRITE.0 read_write

-- how a name that stands as the i-th part is used, where `around` is how a name in the node's place is used
abbrev pub use_in : Kind → Parts → ℕ → ℕ → ℕ
use_in Kind.AssignmentExpression ps around i = cond (nat_eq i 1) (assignment_flags (string_of (at 0 ps))) flag.READ.0
use_in Kind.UpdateExpression ps around i = read_write
use_in Kind.ForInStatement ps around i = cond (nat_eq i 0) flag.WRITE.0 flag.READ.0
use_in Kind.ForOfStatement ps around i = cond (nat_eq i 0) flag.WRITE.0 flag.READ.0
use_in Kind.ObjectAssignmentTarget ps around i = around
use_in Kind.AssignmentTargetProperty ps around i = cond (nat_eq i 1) around flag.READ.0
use_in Kind.ArrayAssignmentTarget ps around i = around
use_in Kind.AssignmentTargetWithDefault ps around i = cond (nat_eq i 0) around flag.READ.0
use_in Kind.AssignmentTargetRest ps around i = around
use_in kind ps around i = flag.READ.0

-- a reference: its number, its name, and how it uses that
pub record NodeReference : Type 0 where
  pub node : ℕ
  pub name : List ℕ
  pub flags : ReferenceFlags

abbrev pub own_reference : Kind → ℕ → Parts → ℕ → List NodeReference
own_reference Kind.IdentifierReference m ps flags = record { node = m; name = string_of (at 0 ps); flags = record { 0 = flags } } ∷ []
own_reference kind m ps flags = []

-- in preorder, the order in which references are numbered
abbrev mutual
  pub node_references : ℕ → Tree → List NodeReference
  node_references flags (Node kind m span id ps) = own_reference kind m ps flags ++ references_of_parts (use_in kind ps flags) ps

  pub references_of_parts : (ℕ → ℕ) → Parts → List NodeReference
  references_of_parts uses end = []
  references_of_parts uses (more p ps) = references_of_part (uses 0) p ++ references_of_parts (λ i. uses (suc i)) ps

  pub references_of_part : ℕ → Part → List NodeReference
  references_of_part flags (child t) = node_references flags t
  references_of_part flags absent = []
  references_of_part flags (list all) = references_of_items flags all
  references_of_part flags (string s) = []
  references_of_part flags no_string = []
  references_of_part flags (boolean b) = []
  references_of_part flags (literal v) = []

  pub references_of_items : ℕ → Parts → List NodeReference
  references_of_items flags end = []
  references_of_items flags (more p ps) = references_of_part flags p ++ references_of_items flags ps

abbrev pub references_of : Tree → List NodeReference
references_of program = node_references flag.READ.0 program
