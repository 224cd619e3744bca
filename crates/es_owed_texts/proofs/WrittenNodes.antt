-- What a definition by the form of a node says of any node.
use Rattle.std.proofs.Common.{◌≡◌, refl, ℕ, List, ◌∷◌, Bool, true, false, cond, ◌&&◌, ◌||◌}
use Rattle.std.specs.Prelude.{not}
use Rattle.es_base.specs.Numbered.{is_new}
use Rattle.es_base.specs.Tree.{Tree, Parts, Node, end, more, child, string}
use Rattle.es_base.specs.declared.kind.Kind.{Kind}
use Rattle.es_node.specs.View.{kind_of, number_in, parts_in}
use Rattle.es_steps.specs.KeptNodes.{stands_equal}
use Rattle.es_steps.specs.Parts.{at, string_of}
use Rattle.es_steps.specs.Printable.{is_directive}
use Rattle.es_steps.specs.References.{has_number}
use Rattle.es_steps.specs.SameTrees.{same_kind, same_parts}
use Rattle.es_lowered.specs.Texts.{begins_with, has_its_text, has_name, is_beginning_among, is_character_among, is_literal_among, is_new_name, is_not_copied, is_plain, is_string_among}
use Rattle.es_owed_texts.specs.Written.{is_beginning_of, is_character_of, is_copy_of, is_written_literal}

pub literal_text : (first : ℕ) (ps : List Tree) (t : Tree) → kind_of t ≡ Kind.Literal → has_its_text first ps t ≡ is_written_literal (is_new first (number_in t)) ps t
literal_text first ps (Node Kind.Literal n span semantic_id qs) is = refl
literal_text first ps (Node kind n span semantic_id qs) is = absurd (cc)

pub template_text : (first : ℕ) (ps : List Tree) (t : Tree) → kind_of t ≡ Kind.TemplateElement → has_its_text first ps t ≡ cond (is_new first (number_in t)) (is_string_among (parts_in t) ps) (stands_equal t ps)
template_text first ps (Node Kind.TemplateElement n span semantic_id qs) is = refl
template_text first ps (Node kind n span semantic_id qs) is = absurd (cc)

pub private_text : (first : ℕ) (ps : List Tree) (t : Tree) → kind_of t ≡ Kind.PrivateIdentifier → has_its_text first ps t ≡ cond (is_new first (number_in t)) (is_new_name ps (string_of (at 0 (parts_in t)))) (stands_equal t ps)
private_text first ps (Node Kind.PrivateIdentifier n span semantic_id qs) is = refl
private_text first ps (Node kind n span semantic_id qs) is = absurd (cc)

or_true : (a : Bool) → true ≡ (a || true)
or_true true = refl
or_true false = refl

statement_with : (first n : ℕ) (ps : List Tree) (t : Tree) (qs : Parts) → kind_of t ≡ Kind.ExpressionStatement → parts_in t ≡ qs → has_its_text first ps t ≡ (is_new first (number_in t) || (not (is_directive (child t)) || stands_equal t ps))
statement_with first n ps (Node Kind.ExpressionStatement m span semantic_id end) qs is are = or_true (is_new first m)
statement_with first n ps (Node Kind.ExpressionStatement m span semantic_id (more e end)) qs is are = or_true (is_new first m)
statement_with first n ps (Node Kind.ExpressionStatement m span semantic_id (more e (more (string s) end))) qs is are = refl
statement_with first n ps (Node Kind.ExpressionStatement m span semantic_id (more e (more p rest))) qs is are = or_true (is_new first m)
statement_with first n ps (Node kind m span semantic_id rest) qs is are = absurd (cc)

pub statement_text : (first : ℕ) (ps : List Tree) (t : Tree) → kind_of t ≡ Kind.ExpressionStatement → has_its_text first ps t ≡ (is_new first (number_in t) || (not (is_directive (child t)) || stands_equal t ps))
statement_text first ps t is = statement_with first 0 ps t (parts_in t) is refl

pub other_text : (first : ℕ) (ps : List Tree) (t : Tree) → (kind_of t ≡ Kind.Literal → ⊥) → (kind_of t ≡ Kind.TemplateElement → ⊥) → (kind_of t ≡ Kind.ExpressionStatement → ⊥) → (kind_of t ≡ Kind.PrivateIdentifier → ⊥)
    → has_its_text first ps t ≡ (not (has_name (kind_of t)) || (stands_equal t ps || is_new_name ps (string_of (at 0 (parts_in t)))))
other_text first ps (Node Kind.Literal n span semantic_id qs) a b c d = absurd (a refl)
other_text first ps (Node Kind.TemplateElement n span semantic_id qs) a b c d = absurd (b refl)
other_text first ps (Node Kind.ExpressionStatement n span semantic_id qs) a b c d = absurd (c refl)
other_text first ps (Node Kind.PrivateIdentifier n span semantic_id qs) a b c d = absurd (d refl)
other_text first ps (Node kind n span semantic_id qs) a b c d = refl

-- ---- among nodes

pub literal_more : (qs : Parts) (t : Tree) (ts : List Tree) → is_literal_among qs (t ∷ ts) ≡ (is_copy_of Kind.Literal qs t || is_literal_among qs ts)
literal_more qs (Node Kind.Literal n span semantic_id ps) ts = refl
literal_more qs (Node kind n span semantic_id ps) ts = refl

pub string_more : (qs : Parts) (t : Tree) (ts : List Tree) → is_string_among qs (t ∷ ts) ≡ (is_copy_of Kind.TemplateElement qs t || is_string_among qs ts)
string_more qs (Node Kind.TemplateElement n span semantic_id ps) ts = refl
string_more qs (Node kind n span semantic_id ps) ts = refl

pub copy_node : (kind : Kind) (qs : Parts) (t : Tree) → is_copy_of kind qs t ≡ (same_kind kind (kind_of t) && same_parts qs (parts_in t))
copy_node kind qs (Node k n span semantic_id ps) = refl

pub character_more : (c : ℕ) (t : Tree) (ts : List Tree) → is_character_among c (t ∷ ts) ≡ (is_character_of c t || is_character_among c ts)
character_more c (Node kind n span semantic_id ps) ts = refl

pub character_node : (c : ℕ) (t : Tree) → is_character_of c t ≡ (has_name (kind_of t) && has_number c (string_of (at 0 (parts_in t))))
character_node c (Node kind n span semantic_id ps) = refl

pub beginning_more : (c : ℕ) (t : Tree) (ts : List Tree) → is_beginning_among c (t ∷ ts) ≡ (is_beginning_of c t || is_beginning_among c ts)
beginning_more c (Node kind n span semantic_id ps) ts = refl

pub beginning_node : (c : ℕ) (t : Tree) → is_beginning_of c t ≡ (has_name (kind_of t) && begins_with c (string_of (at 0 (parts_in t))))
beginning_node c (Node kind n span semantic_id ps) = refl

pub written_node : (is_new : Bool) (ps : List Tree) (t : Tree) → is_written_literal is_new ps t ≡ cond is_new (is_plain (at 0 (parts_in t)) || (is_literal_among (parts_in t) ps && not (is_not_copied (at 0 (parts_in t))))) (stands_equal t ps)
written_node is_new ps (Node kind n span semantic_id qs) = refl
