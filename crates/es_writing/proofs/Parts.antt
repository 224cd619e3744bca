-- Lists of parts of each length, and kinds that are no others.
use Rattle.std.proofs.Common.{◌≡◌, refl, sym, ap, ◌∙◌, ◌<◌, ◌≤◌, List, [], ◌∷◌, length, get_or, Bool, true, false, not, codes, arith}
use Rattle.serde_json.specs.Data.{boolean as json_boolean}
use Rattle.es_base.specs.Tree.{Tree, Part, Parts, Node, end, more, child, absent}
use Rattle.es_base.specs.Table.{Field, members_of}
use Rattle.es_base.specs.declared.kind.Kind.{Kind}
use Rattle.es_node.specs.View.{kind_of, part_of, parts_of}
use Rattle.es_node.specs.declared.node.Part as code
use Rattle.es_writing.specs.Writing.{Entry, entry, is_block, kind_entries, more_entries, write_fields}

block-one : (p q : Part) (ps : Parts) → is_block (more p (more q ps)) ≡ is_block (more absent (more q end))
block-one p (child (Node Kind.BlockStatement id span semantic_id parts)) ps = refl
block-one p (child _) ps = refl
block-one p _ ps = refl

-- a block, and a node that is none
pub block_is : (t : Tree) → kind_of t ≡ Kind.BlockStatement → is_block (more absent (more (child t) end)) ≡ true
block_is (Node kind id span semantic_id parts) is = ap (λ k. is_block (more absent (more (child (Node k id span semantic_id parts)) end))) is

pub block_not : (t : Tree) → (kind_of t ≡ Kind.BlockStatement → ⊥) → is_block (more absent (more (child t) end)) ≡ false
block_not (Node Kind.BlockStatement id span semantic_id parts) other = absurd (other refl)
block_not (Node _ id span semantic_id parts) other = refl

pub block_short : (ps : List code.Part) → length ps < 2 → is_block (parts_of ps) ≡ false
block_short [] short = refl
block_short (p ∷ []) short = refl
block_short (p ∷ q ∷ ps) short = absurd (omega arith)

pub block_long : (ps : List code.Part) (q : code.Part) → 2 ≤ length ps → q ≡ get_or ps 1 q → is_block (more absent (more (part_of q) end)) ≡ is_block (parts_of ps)
block_long [] q long is = absurd (omega arith)
block_long (r ∷ []) q long is = absurd (omega arith)
block_long (r ∷ t ∷ ps) q long is = ap (λ x. is_block (more absent (more (part_of x) end))) is ∙ sym (block-one (part_of r) (part_of t) (parts_of ps))

-- the members of a row, of a kind that has no others
pub own_row : (kind : Kind) (ps : Parts) (es : List Entry) → (kind ≡ Kind.Foreign → ⊥) → (kind ≡ Kind.TemplateElement → ⊥) → kind_entries kind ps es ≡ es
own_row Kind.Foreign ps es a b = absurd (a refl)
own_row Kind.TemplateElement ps es a b = absurd (b refl)
own_row _ ps es a b = refl

short_template : (ps : List code.Part) (es : List Entry) → length ps < 2 → kind_entries Kind.TemplateElement (parts_of ps) es ≡ es
short_template [] es short = refl
short_template (p ∷ []) es short = refl
short_template (p ∷ q ∷ ps) es short = absurd (omega arith)

-- a template element with no two strings
pub short_row : (kind : Kind) (ps : List code.Part) (fs : List Field) → kind ≡ Kind.TemplateElement → length ps < 2 → fs ≡ members_of kind
    → write_fields fs (parts_of ps) ≡ kind_entries kind (parts_of ps) (write_fields (members_of kind) (parts_of ps))
short_row kind ps fs is short row =
    ap (λ gs. write_fields gs (parts_of ps)) row
    ∙ sym (ap (λ k. kind_entries k (parts_of ps) (write_fields (members_of kind) (parts_of ps))) is ∙ short_template ps (write_fields (members_of kind) (parts_of ps)) short)

pub arrow_entries : (kind : Kind) (ps : Parts) (b : Bool) → kind ≡ Kind.ArrowFunctionExpression → b ≡ is_block ps → entry (codes "expression") (json_boolean (not b)) [] ≡ more_entries kind ps
arrow_entries kind ps b is block = ap (λ x. entry (codes "expression") (json_boolean (not x)) []) block ∙ sym (ap (λ k. more_entries k ps) is)
