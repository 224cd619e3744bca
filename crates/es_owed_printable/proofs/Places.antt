-- What reserves words, kind by kind and place by place.
use Rattle.std.proofs.Common.{◌≡◌, refl, sym, ap, ℕ, zero, suc, arith, [], ◌∷◌, true, false, cond, ◌&&◌, ◌||◌}
use Rattle.std.specs.Prelude.{bytes_eq, codes, nat_eq}
use Rattle.es_base.specs.Conforms.{is_among}
use Rattle.es_base.specs.Tree.{Parts}
use Rattle.es_base.specs.declared.kind.Kind.{Kind}
use Rattle.es_steps.specs.Parts.{at, string_of}
use Rattle.es_steps.specs.Reserved.{Words, arrow_words, declaration_words, field_words, function_words, is_reserved, is_reserved_word, words_inside}

pub reference_word : (w : Words) (kind : Kind) (ps : Parts) → kind ≡ Kind.IdentifierReference → is_reserved w kind ps ≡ (is_reserved_word w (string_of (at 0 ps)) || (w.in_element && bytes_eq (string_of (at 0 ps)) (codes "arguments")))
reference_word w Kind.IdentifierReference ps is = refl
reference_word w kind ps is = absurd (cc)

pub binding_word : (w : Words) (kind : Kind) (ps : Parts) → kind ≡ Kind.BindingIdentifier → is_reserved w kind ps ≡ (is_reserved_word w (string_of (at 0 ps)) || (w.in_strict && is_among (string_of (at 0 ps)) (codes "eval" ∷ codes "arguments" ∷ [])))
binding_word w Kind.BindingIdentifier ps is = refl
binding_word w kind ps is = absurd (cc)

pub no_word : (w : Words) (kind : Kind) (ps : Parts) → (kind ≡ Kind.IdentifierReference → ⊥) → (kind ≡ Kind.BindingIdentifier → ⊥) → is_reserved w kind ps ≡ false
no_word w Kind.IdentifierReference ps a b = absurd (a refl)
no_word w Kind.BindingIdentifier ps a b = absurd (b refl)
no_word w kind ps a b = refl

pub program_words : (w : Words) (kind : Kind) (ps : Parts) (i : ℕ) → kind ≡ Kind.Program → words_inside w kind ps i ≡ record w { in_module = bytes_eq (string_of (at 0 ps)) (codes "module") }
program_words w Kind.Program ps i is = refl
program_words w kind ps i is = absurd (cc)

pub declaration_node : (w : Words) (kind : Kind) (ps : Parts) (i : ℕ) → kind ≡ Kind.FunctionDeclaration → words_inside w kind ps i ≡ declaration_words w ps i
declaration_node w Kind.FunctionDeclaration ps i is = refl
declaration_node w kind ps i is = absurd (cc)

pub function_node : (w : Words) (kind : Kind) (ps : Parts) (i : ℕ) → kind ≡ Kind.FunctionExpression → words_inside w kind ps i ≡ function_words w ps
function_node w Kind.FunctionExpression ps i is = refl
function_node w kind ps i is = absurd (cc)

pub arrow_node : (w : Words) (kind : Kind) (ps : Parts) (i : ℕ) → kind ≡ Kind.ArrowFunctionExpression → words_inside w kind ps i ≡ arrow_words w ps i
arrow_node w Kind.ArrowFunctionExpression ps i is = refl
arrow_node w kind ps i is = absurd (cc)

pub field_node : (w : Words) (kind : Kind) (ps : Parts) (i : ℕ) → kind ≡ Kind.PropertyDefinition → words_inside w kind ps i ≡ field_words w i
field_node w Kind.PropertyDefinition ps i is = refl
field_node w kind ps i is = absurd (cc)

pub block_node : (w : Words) (kind : Kind) (ps : Parts) (i : ℕ) → kind ≡ Kind.StaticBlock → words_inside w kind ps i ≡ record w { in_block = true; in_element = true; in_async = false; in_generator = false }
block_node w Kind.StaticBlock ps i is = refl
block_node w kind ps i is = absurd (cc)

pub no_words_inside : (w : Words) (kind : Kind) (ps : Parts) (i : ℕ) → (kind ≡ Kind.Program → ⊥) → (kind ≡ Kind.FunctionDeclaration → ⊥) → (kind ≡ Kind.FunctionExpression → ⊥) → (kind ≡ Kind.ArrowFunctionExpression → ⊥) → (kind ≡ Kind.PropertyDefinition → ⊥) → (kind ≡ Kind.StaticBlock → ⊥) → words_inside w kind ps i ≡ w
no_words_inside w Kind.Program ps i a b c d e f = absurd (a refl)
no_words_inside w Kind.FunctionDeclaration ps i a b c d e f = absurd (b refl)
no_words_inside w Kind.FunctionExpression ps i a b c d e f = absurd (c refl)
no_words_inside w Kind.ArrowFunctionExpression ps i a b c d e f = absurd (d refl)
no_words_inside w Kind.PropertyDefinition ps i a b c d e f = absurd (e refl)
no_words_inside w Kind.StaticBlock ps i a b c d e f = absurd (f refl)
no_words_inside w kind ps i a b c d e f = refl

-- ---- the first part, and the others

apart : (m n : ℕ) → (m ≡ n → ⊥) → nat_eq m n ≡ false
apart m n other = grind (arith, other)

suc_apart : (n : ℕ) → false ≡ nat_eq (suc n) 0
suc_apart n = sym (apart (suc n) 0 (λ e. absurd (omega (arith, e))))

pub declaration_place : (w : Words) (ps : Parts) (i : ℕ) → declaration_words w ps i ≡ cond (nat_eq i 0) w (function_words w ps)
declaration_place w ps zero = refl
declaration_place w ps (suc i) = ap (λ b. cond b w (function_words w ps)) (suc_apart i)

pub arrow_place : (w : Words) (ps : Parts) (i : ℕ) → arrow_words w ps i ≡ cond (nat_eq i 0) (arrow_words w ps 0) (arrow_words w ps 1)
arrow_place w ps zero = refl
arrow_place w ps (suc i) = ap (λ b. cond b (arrow_words w ps 0) (arrow_words w ps 1)) (suc_apart i)

pub field_place : (w : Words) (i : ℕ) → field_words w i ≡ cond (nat_eq i 0) w (field_words w 1)
field_place w zero = refl
field_place w (suc i) = ap (λ b. cond b w (field_words w 1)) (suc_apart i)
