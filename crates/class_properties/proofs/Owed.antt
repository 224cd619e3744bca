-- A lowered program of the first form owes nothing: its numbers, what is left of it, and its names.
use Rattle.std.proofs.Common.{◌≡◌, refl, sym, subst, ℕ, ◌+◌, ◌≤◌, List, [], ◌++◌, true, false, arith}
use Rattle.std.specs.Prelude.{◌||◌, bytes_eq, codes}
use Rattle.es_base.specs.Conforms.{conforms}
use Rattle.es_base.specs.Numbered.{EachOnce, numbers}
use Rattle.es_base.specs.Preorder.{nodes, nodes_of, nodes_of_part, preorder, preorder_of, preorder_of_part, numbered_from, numbered_part, numbered_parts}
use Rattle.es_base.specs.Tree.{Tree, Part, Parts, end, more, absent, trees}
use Rattle.es_base.specs.declared.table.Place.{Place}
use Rattle.es_left.proofs.Booleans.{both}
use Rattle.es_steps.specs.FirstForm.{is_first_form}
use Rattle.es_lowered.specs.KeptKeys.{keys_that_stay}
use Rattle.es_lowered.specs.Lowered.{IsLowered}
use Rattle.es_steps.specs.Generated.{constructor_at, define_at, void_at}
use Rattle.es_steps.specs.declared.options.Options.{Options}
use Rattle.es_lowered.specs.OwnNames.{own_name_numbers}
use Rattle.es_steps.specs.PrivateNames.{private_members}
use Rattle.es_lowered.specs.ClassNames.{moved_functions}
use Rattle.es_steps.specs.References.{resolve}
use Rattle.class_properties.proofs.ReadReferences.{references-stay}
use Rattle.es_steps.specs.Strict.{none_becomes_strict}
use Rattle.es_steps.specs.Values.{String}
use Rattle.class_properties.proofs.Defining.{defining, is_defining}
use Rattle.class_properties.proofs.Entering.{nothing-enters}
use Rattle.class_properties.proofs.Fitting.{definitions-fit}
use Rattle.class_properties.proofs.Laid.{Laid, none, kept, generated, laid-below, laid-append, laid-upto, laid-from, laid-consecutive, laid-once, laid-left, laid-accounted, laid-named, laid-unread}
use Rattle.class_properties.proofs.Shaped.{no_value, a_literal, a_reference, a_key, IsField, a_field, AreFields, a_name, IsBody, a_body, IsClass, a_class, AreClasses, IsProgram, a_program, first_form-shaped}
use Rattle.class_properties.proofs.Numbered.{definitions_from, fields_size, lowered_elements, elements_size, lowered_body, body_size, lowered_statement, statement_size, lowered_statements, lowered_from}
use Rattle.class_properties.proofs.Numbered as numbered
use Rattle.class_properties.proofs.Renumbered.{lowered-numbered}
use Rattle.class_properties.proofs.Printed.{lowered-stays_printable}
use Rattle.class_properties.proofs.Remaining.{Remains, remains}
use Rattle.class_properties.proofs.Strictness.{no-directive, no-lowered_directive, program-strict}
use Rattle.class_properties.proofs.Carried.{numbers-carried}
use Rattle.class_properties.proofs.Written.{texts-stay}
use Rattle.es_unchanged.proofs.Standing.{temporaries-none}
use Rattle.es_unchanged.proofs.Unchanged.{numbered-once}
use Rattle.es_unchanged.proofs.Unmarked.{names-timely}
use Rattle.class_properties.specs.Lowering.{lowered}
use Rattle.class_properties.specs.Options.{defines_fields}

-- with no nodes behind
laid-no_more : {first hi m lo n : ℕ} {ts : List Tree} → Laid first hi m lo n ts → Laid first hi m lo n (ts ++ [])
laid-no_more h = laid-append h (none (omega arith) refl)

-- ---- the new nodes

void-laid : {first hi m lo : ℕ} (n : ℕ) → lo ≤ hi → n + 2 ≡ m → Laid first hi m lo n (preorder (void_at n))
void-laid n l e = generated refl refl (generated refl refl (none l (omega (arith, e))))

define-laid : {first hi m lo : ℕ} (n : ℕ) (s : String) (v : Tree) → Laid first hi m lo (n + 7) (preorder v) → Laid first hi m lo n (preorder (define_at n s v))
define-laid n s v h = generated refl refl (generated refl refl (generated (omega arith) refl (generated (omega arith) refl (generated (omega arith) refl (generated (omega arith) refl (generated (omega arith) refl (laid-from _ (omega arith) (laid-no_more (laid-no_more (laid-no_more h))))))))))

constructor-laid : {first hi m lo : ℕ} (n : ℕ) (ts : List Tree) → Laid first hi m lo (n + 4) (preorder_of (trees ts)) → Laid first hi m lo n (preorder (constructor_at n ts))
constructor-laid n ts h = generated refl refl (generated refl refl (generated (omega arith) refl (generated (omega arith) refl (laid-from _ (omega arith) (laid-no_more (laid-no_more (laid-no_more h)))))))

-- ---- fields

-- the definitions of fields from number lo on, the first new node having number n
abbrev FieldsLaid : ℕ → ℕ → ℕ → Parts → Type 0
FieldsLaid first lo n es = Laid first (lo + nodes_of es) (n + fields_size (numbered_parts lo es)) lo n (preorder_of (trees (definitions_from n (numbered_parts lo es))))

field-laid : (first lo n : ℕ) (p : Part) (es : Parts) → IsField p → lo + nodes_of (more p es) ≤ first → ((k : ℕ) → FieldsLaid first (lo + nodes_of_part p) k es) → FieldsLaid first lo n (more p es)
field-laid first lo n p es (a_field m span semantic_id k v (a_key km kspan k_semantic_id s) no_value) l rest =
    laid-upto _ _ (omega arith) (omega arith) (laid-append (define-laid n s (void_at (n + 7)) (void-laid (n + 7) (omega arith) (omega arith))) (rest (n + 9)))
field-laid first lo n p es (a_field m span semantic_id k v (a_key km kspan k_semantic_id s) (a_literal vm vspan v_semantic_id x fine)) l rest =
    laid-upto _ _ (omega arith) (omega arith) (laid-append (define-laid n s _ (kept (omega arith) (omega (arith, l)) refl (none (omega arith) refl))) (rest (n + 7)))
field-laid first lo n p es (a_field m span semantic_id k v (a_key km kspan k_semantic_id s) (a_reference vm vspan v_semantic_id x)) l rest =
    laid-upto _ _ (omega arith) (omega arith) (laid-append (define-laid n s _ (kept (omega arith) (omega (arith, l)) refl (none (omega arith) refl))) (rest (n + 7)))

fields-laid : (first lo n : ℕ) (es : Parts) → AreFields es → lo + nodes_of es ≤ first → FieldsLaid first lo n es
fields-laid first lo n end h l = none (omega arith) (omega arith)
fields-laid first lo n (more p es) h l = field-laid first lo n p es h.0 l (λ k. fields-laid first (lo + nodes_of_part p) k es h.1 (omega (arith, l)))

-- ---- classes

elements-laid : (first lo n : ℕ) (es : Parts) → AreFields es → lo + nodes_of es ≤ first
    → Laid first (lo + nodes_of es) (n + elements_size (numbered_parts lo es)) lo n (preorder_of (lowered_elements n (numbered_parts lo es)))
elements-laid first lo n end h l = none (omega arith) (omega arith)
elements-laid first lo n (more p es) h l =
    laid-upto _ _ (omega arith) (omega arith) (laid-no_more (constructor-laid n (definitions_from (n + 4) (numbered_parts lo (more p es))) (fields-laid first lo (n + 4) (more p es) h l)))

body-laid : (first lo n : ℕ) (p : Part) → IsBody p → lo + nodes_of_part p ≤ first
    → Laid first (lo + nodes_of_part p) (n + body_size (numbered_part lo p)) lo n (preorder_of_part (lowered_body n (numbered_part lo p)))
body-laid first lo n p (a_body m span semantic_id es h) l =
    kept (omega arith) (omega (arith, l)) refl (laid-upto _ _ (omega arith) refl (laid-no_more (elements-laid first (lo + 1) n es h (omega (arith, l)))))

statement-laid : (first lo n : ℕ) (p : Part) → IsClass p → lo + nodes_of_part p ≤ first
    → Laid first (lo + nodes_of_part p) (n + statement_size (numbered_part lo p)) lo n (preorder_of_part (lowered_statement n (numbered_part lo p)))
statement-laid first lo n p (a_class m span semantic_id id body (a_name im ispan i_semantic_id s free) h) l =
    let behind_name : ℕ = lo + 1 + 1 + nodes_of_part absent in
    let laid = body-laid first behind_name n body h (omega (arith, l)) in
    kept (omega arith) (omega (arith, l)) refl (kept (omega arith) (omega (arith, l)) refl (laid-below _ (omega arith) (laid-upto _ _ (omega arith) refl (laid-no_more laid))))

statements-laid : (first lo n : ℕ) (ps : Parts) → AreClasses ps → lo + nodes_of ps ≤ first
    → (m : ℕ) × Laid first (lo + nodes_of ps) m lo n (preorder_of (lowered_statements n (numbered_parts lo ps)))
statements-laid first lo n end h l = (n, none (omega arith) refl)
statements-laid first lo n (more p ps) h l =
    let rest = statements-laid first (lo + nodes_of_part p) (n + statement_size (numbered_part lo p)) ps h.1 (omega (arith, l)) in
    (rest.0, laid-upto _ _ (omega arith) refl (laid-append (statement-laid first lo n p h.0 (omega (arith, l))) rest.1))

-- ---- the program

program-laid : (first n : ℕ) (t : Tree) → IsProgram t → nodes t ≤ first → (m : ℕ) × Laid first (nodes t) m 0 n (preorder (lowered_from n (numbered_from 0 t)))
program-laid first n t (a_program m span semantic_id s all h) l =
    let rest = statements-laid first 1 n all h (omega (arith, l)) in
    (rest.0, kept (omega arith) (omega (arith, l)) refl (laid-upto _ _ (omega arith) refl (laid-no_more rest.1)))

program-strictness : (first n : ℕ) (t : Tree) → IsProgram t → nodes t ≡ first → first ≤ n → none_becomes_strict first (numbered_from 0 t) (lowered_from n (numbered_from 0 t)) ≡ true
program-strictness first n t (a_program m span semantic_id s all h) e l =
    rw (no-directive all h 1, no-lowered_directive n all h 1)
    (program-strict first n (bytes_eq s (codes "module") || false) all h (omega (arith, e)) l (statements-laid first 1 n all h (omega (arith, e))).1)

numbered-strict : (t : Tree) → IsProgram t → t ≡ numbered_from 0 t → none_becomes_strict (nodes t) t (numbered.lowered t) ≡ true
numbered-strict t p e = subst (λ u. none_becomes_strict (nodes t) u (lowered_from (nodes t) u) ≡ true) (sym e) (program-strictness (nodes t) (nodes t) t p refl (omega arith))

numbered-laid : (t : Tree) → IsProgram t → t ≡ numbered_from 0 t → (m : ℕ) × Laid (nodes t) (nodes t) m 0 (nodes t) (preorder (numbered.lowered t))
numbered-laid t p e =
    let whole = program-laid (nodes t) (nodes t) t p (omega arith) in
    (whole.0, subst (λ u. Laid (nodes t) (nodes t) whole.0 0 (nodes t) (preorder (lowered_from (nodes t) u))) (sym e) whole.1)

module _ (asked : Options) where
  numbered-owes : (t : Tree) → IsProgram t → is_first_form t [] ≡ true → t ≡ numbered_from 0 t → IsLowered (nodes t) (defining asked) [] t (numbered.lowered t)
  numbered-owes t p f e =
      let first : ℕ = nodes t in
      let q : Tree = numbered.lowered t in
      let whole = numbered-laid t p e in
      let laid : Laid first first whole.0 0 first (preorder q) = whole.1 in
      let rest : Remains asked first t = remains asked first t p in record {
        numbered = record { once = laid-once (omega arith) laid; consecutive = laid-consecutive (omega arith) laid };
        clauses = record {
          left = laid-left (defining asked) laid;
          declared = refl;
          accounted = laid-accounted (own_name_numbers t (resolve q) (preorder q)) laid;
          names = both (laid-named (preorder t) (resolve q) laid) (laid-unread [] (moved_functions [] (preorder q)) (preorder t) (preorder q) (resolve q) laid);
          references = references-stay first first (defining asked) t p f;
          strict = numbered-strict t p e;
          texts = texts-stay t p e;
          initialized = refl;
          timely = names-timely first (private_members t) q;
          temporaries = refl;
          keys = rw (temporaries-none first (defining asked) (private_members t) q (preorder q)) refl;
          carriers = numbers-carried t p e;
          nodes = rest.nodes;
          classes = nothing-enters first t p (subst (λ u. EachOnce (numbers u)) (sym e) (numbered-once t)) first (omega arith);
          statements = rest.statements;
          lists = rest.lists;
          homes = rest.homes;
          definitions = definitions-fit asked first (private_members t) t p e;
          elements = rest.elements;
          calls = rest.calls (keys_that_stay first [] t q);
          printable = lowered-stays_printable first t p;
        };
      }

  form-owes : (t : Tree) → conforms Place.Program t ≡ true → is_first_form t [] ≡ true → t ≡ numbered_from 0 t → IsLowered (nodes t) (defining asked) [] t (lowered t)
  form-owes t f h e = subst (IsLowered (nodes t) (defining asked) [] t) (sym (lowered-numbered t f h e)) (numbered-owes t (first_form-shaped t [] f h) h e)

pub lowered-owes : (o : Options) (t : Tree) → defines_fields o ≡ true → conforms Place.Program t ≡ true → is_first_form t [] ≡ true → t ≡ numbered_from 0 t → IsLowered (nodes t) o [] t (lowered t)
lowered-owes o t d f h e = subst (λ x. IsLowered (nodes t) x [] t (lowered t)) (is_defining o d) (form-owes o t f h e)
