-- Definitions that are opened, and what they evaluate.
use Rattle.std.proofs.Common.{◌≡◌, refl, sym, ap, ap₂, ◌∙◌, ℕ, zero, suc, ◌+◌, ◌-◌, ◌<◌, ◌≤◌, ◌||◌, not, List, [], ◌∷◌, ◌++◌, length, drop, get_or, map, Bool, true, false, cond, Option, Some, None, Bor, arith}
use Rattle.std.proofs.lemmas.List.{drop_more, drop_all}
use Rattle.es_steps.specs.Code.{Codes, Opened, and, done}
use Rattle.es_steps.specs.Code as of_code
use Rattle.es_steps.specs.Evaluation.{has_instance_methods}
use Rattle.es_steps.specs.Opening as of
use Rattle.es_steps.specs.Values.{String}
use Rattle.es_codes.specs.declared.code.Code.{Code}
use Rattle.es_codes.specs.CodeView.{code_of, codes_of}
use Rattle.es_evaluation.specs.Direct as direct
use Rattle.es_evaluation.specs.Direct.{State, and_then, brand_first}
use Rattle.es_evaluator.specs.Steps.{Opens}
use Rattle.es_code_rules.proofs.DefinitionNumbers.{defines_one, not_both}
use Rattle.es_code_rules.specs.Elsewhere.{definition_behind, definition_of, definitions_behind, is_shut, left, opened_by, opens_of}
use Rattle.es_code_rules.specs.Steps.{value_at}
use Rattle.es_code_rules.specs.declared.definition.Definition.{Definition}
use Rattle.es_code_rules.specs.declared.definition.Opening.{Opening}
use Rattle.es_class_rules.specs.Steps.{opened_at, defined_at, construction_at, fields_at}

-- ---- which one is opened

-- where something is shut, it has no definition, and all else has those that it had
without_one : (o : Opened) (d : of.Definition) (ds : List of.Definition) → of.definition_of o (of.without_definition (opened_by d) ds) ≡ cond (of.defines o d) None (of.definition_of o ds)
without_one o d ds = here (of.defines o d) refl
  where
    -- of it
    its_own : (b : Bool) (e : of.Definition) (es : List of.Definition) → of.defines o e ≡ b → of.definition_of o (of.without_definition o es) ≡ None → of.definition_of o (cond b (of.without_definition o es) (e ∷ of.without_definition o es)) ≡ None
    its_own true e es is h = h
    its_own false e es is h = ap (λ (c : Bool). cond c (Some e) (of.definition_of o (of.without_definition o es))) is ∙ h

    none : (es : List of.Definition) → of.definition_of o (of.without_definition o es) ≡ None
    none [] = refl
    none (e ∷ es) = its_own (of.defines o e) e es refl (none es)

    -- of another
    others : (b : Bool) (e : of.Definition) (es : List of.Definition) → of.defines o d ≡ false → of.defines (opened_by d) e ≡ b → of.definition_of o (of.without_definition (opened_by d) es) ≡ of.definition_of o es
        → of.definition_of o (cond b (of.without_definition (opened_by d) es) (e ∷ of.without_definition (opened_by d) es)) ≡ cond (of.defines o e) (Some e) (of.definition_of o es)
    others true e es apart is h = h ∙ ap (λ (c : Bool). cond c (Some e) (of.definition_of o es)) (sym (not_both o d e apart is))
    others false e es apart is h = ap (λ (x : Option of.Definition). cond (of.defines o e) (Some e) x) h

    same : (es : List of.Definition) → of.defines o d ≡ false → of.definition_of o (of.without_definition (opened_by d) es) ≡ of.definition_of o es
    same [] apart = refl
    same (e ∷ es) apart = others (of.defines (opened_by d) e) e es apart refl (same es apart)

    here : (b : Bool) → of.defines o d ≡ b → of.definition_of o (of.without_definition (opened_by d) ds) ≡ cond b None (of.definition_of o ds)
    here true is = ap (λ (p : Opened). of.definition_of o (of.without_definition p ds)) (sym (defines_one o d is)) ∙ none ds
    here false is = same ds is

looked_up : (o : Opened) (ds shut : List of.Definition) → of.definition_of o (left ds shut) ≡ cond (is_shut o shut) None (of.definition_of o ds)
looked_up o ds [] = refl
looked_up o ds (d ∷ shut) =
    looked_up o (of.without_definition (opened_by d) ds) shut
    ∙ ap (λ (x : Option of.Definition). cond (is_shut o shut) None x) (without_one o d ds)
    ∙ either (of.defines o d) (is_shut o shut)
  where
    either : (b c : Bool) → cond c None (cond b None (of.definition_of o ds)) ≡ cond (b || c) None (of.definition_of o ds)
    either true true = refl
    either true false = refl
    either false c = refl

pub none_there : (o : Opened) (ds shut : List of.Definition) → is_shut o shut ≡ true → of.definition_of o (left ds shut) ≡ None
none_there o ds shut h = looked_up o ds shut ∙ ap (λ (c : Bool). cond c None (of.definition_of o ds)) h

pub found_there : (o : Opened) (ds shut : List of.Definition) → is_shut o shut ≡ false → of.definition_of o (left ds shut) ≡ of.definition_of o ds
found_there o ds shut h = looked_up o ds shut ∙ ap (λ (c : Bool). cond c None (of.definition_of o ds)) h

-- ---- which are shut then

shut_more : (ds : List of.Definition) (shut : List (Bor Definition)) (d : Bor Definition) → left ds (definitions_behind (shut ++ d ∷ [])) ≡ of.without_definition (opened_by (definition_behind d)) (left ds (definitions_behind shut))
shut_more ds [] d = refl
shut_more ds (e ∷ shut) d = shut_more (of.without_definition (opened_by (definition_behind e)) ds) shut d

-- what is found is a definition of what is opened
found_defines : (o : Opened) (ds : List of.Definition) (d : of.Definition) → of.definition_of o ds ≡ Some d → of.defines o d ≡ true
found_defines o [] d h = absurd (cc)
found_defines o (e ∷ ds) d h = here (of.defines o e) refl h (found_defines o ds d)
  where
    here : (b : Bool) → of.defines o e ≡ b → cond b (Some e) (of.definition_of o ds) ≡ Some d → (of.definition_of o ds ≡ Some d → of.defines o d ≡ true) → of.defines o d ≡ true
    here true is k later = let one : e ≡ d = cc in ap (of.defines o) (sym one) ∙ is
    here false is k later = later k

-- ---- what is opened

pub none_left : (ds : List Definition) (p : Opening) (o : Opened) (s : State) → p.depth ≡ 0 → opened_at (opens_of ds p) o s ≡ None
unfolding opened_at opens_of
none_left ds p o s h = ap (λ (k : ℕ). direct.opening_in k (left (map definition_of ds) (definitions_behind p.shut.items)) o s) h

in_depth : (k : ℕ) (ds : List of.Definition) (o : Opened) (s : State) → 0 < k → direct.opening_in k ds o s ≡ direct.definition (direct.opening_in (k - 1) (of.without_definition o ds)) (of.definition_of o ds) s
in_depth zero ds o s h = absurd (omega arith)
in_depth (suc k) ds o s h = let e : k ≡ suc k - 1 = omega arith in ap (λ (j : ℕ). direct.definition (direct.opening_in j (of.without_definition o ds)) (of.definition_of o ds) s) e

pub none_defined : (ds : List Definition) (p : Opening) (o : Opened) (s : State) → 0 < p.depth → of.definition_of o (left (map definition_of ds) (definitions_behind p.shut.items)) ≡ None → opened_at (opens_of ds p) o s ≡ None
unfolding opened_at opens_of
none_defined ds p o s h e =
    let there : List of.Definition = left (map definition_of ds) (definitions_behind p.shut.items) in
    in_depth p.depth there o s h
    ∙ ap (λ (d : Option of.Definition). direct.definition (direct.opening_in (p.depth - 1) (of.without_definition o there)) d s) e

pub one_defined : (ds : List Definition) (p q : Opening) (o : Opened) (d : Bor Definition) (s : State) → 0 < p.depth → q.depth ≡ p.depth - 1 → q.shut.items ≡ p.shut.items ++ d ∷ [] → of.definition_of o (left (map definition_of ds) (definitions_behind p.shut.items)) ≡ Some (definition_behind d) → opened_at (opens_of ds p) o s ≡ defined_at (opens_of ds q) (Some (definition_behind d)) s
unfolding opened_at opens_of defined_at
one_defined ds p q o d s h e f g =
    let all : List of.Definition = map definition_of ds in
    let there : List of.Definition = left all (definitions_behind p.shut.items) in
    let shut : left all (definitions_behind q.shut.items) ≡ of.without_definition o there =
    ap (λ (l : List (Bor Definition)). left all (definitions_behind l)) f
    ∙ shut_more all p.shut.items d
    ∙ ap (λ (x : Opened). of.without_definition x there) (sym (defines_one o (definition_behind d) (found_defines o there (definition_behind d) g))) in
    in_depth p.depth there o s h
    ∙ ap (λ (x : Option of.Definition). direct.definition (direct.opening_in (p.depth - 1) (of.without_definition o there)) x s) g
    ∙ sym (ap₂ (λ (k : ℕ) (l : List of.Definition). direct.definition (direct.opening_in k l) (Some (definition_behind d)) s) e shut)

-- ---- what a definition evaluates

pub class_defined : (opens : Opens) (n : ℕ) (es : Codes) (s : State) → defined_at opens (Some (of.of_class n es)) s ≡ construction_at opens n es s
unfolding defined_at construction_at
class_defined opens n es s = refl

pub name_defined : (opens : Opens) (x : String) (c : of_code.Code) (s : State) → defined_at opens (Some (of.of_name x c)) s ≡ value_at opens c s
unfolding defined_at value_at
name_defined opens x c s = refl

pub called_defined : (opens : Opens) (x : String) (c : of_code.Code) (s : State) → defined_at opens (Some (of.of_called x c)) s ≡ value_at opens c s
unfolding defined_at value_at
called_defined opens x c s = refl

pub constructed : (opens : Opens) (n : ℕ) (es : Codes) (s : State) → construction_at opens n es s ≡ (and_then (brand_first (has_instance_methods es) n) (λ v. fields_at opens n es)) s
unfolding construction_at fields_at
constructed opens n es s = refl

-- ---- private methods of instances

pub method_has : (b : Bool) (d : ℕ) (f : of_code.Code) → has_instance_methods (and (of_code.private_method b d f) done) ≡ not b
method_has true d f = refl
method_has false d f = refl

has_one : (c : of_code.Code) (cs : Codes) → has_instance_methods (and c cs) ≡ has_instance_methods (and c done) || has_instance_methods cs
has_one of_code.nothing cs = refl
has_one of_code.no_rule cs = refl
has_one (of_code.value x0) cs = refl
has_one (of_code.spelled x0) cs = refl
has_one (of_code.private_name x0 x1 x2) cs = refl
has_one (of_code.binding x0 x1 x2) cs = refl
has_one (of_code.rest x0) cs = refl
has_one (of_code.name x0 x1 x2) cs = refl
has_one of_code.super cs = refl
has_one (of_code.member x0 x1 x2) cs = refl
has_one (of_code.private_member x0 x1 x2) cs = refl
has_one (of_code.super_member x0 x1 x2 x3) cs = refl
has_one (of_code.private_in x0 x1 x2) cs = refl
has_one (of_code.assign x0 x1) cs = refl
has_one (of_code.compound x0 x1 x2 x3) cs = refl
has_one (of_code.logical x0 x1 x2 x3) cs = refl
has_one (of_code.logical_assign x0 x1 x2 x3) cs = refl
has_one (of_code.update x0 x1 x2 x3) cs = refl
has_one (of_code.call x0 x1 x2) cs = refl
has_one (of_code.tag x0 x1 x2 x3) cs = refl
has_one (of_code.construct x0 x1 x2) cs = refl
has_one (of_code.super_call x0 x1 x2 x3) cs = refl
has_one (of_code.super_call_with_all x0) cs = refl
has_one (of_code.sequence x0) cs = refl
has_one (of_code.template_string x0) cs = refl
has_one (of_code.template x0 x1 x2) cs = refl
has_one (of_code.operation x0 x1 x2 x3) cs = refl
has_one (of_code.piece x0 x1) cs = refl
has_one (of_code.chain x0 x1) cs = refl
has_one (of_code.short x0) cs = refl
has_one (of_code.tested x0 x1 x2) cs = refl
has_one (of_code.pattern x0 x1) cs = refl
has_one (of_code.takes x0 x1 x2 x3) cs = refl
has_one (of_code.steps x0) cs = refl
has_one (of_code.gives_to x0 x1) cs = refl
has_one (of_code.export_default x0) cs = refl
has_one (of_code.function x0 x1 x2 x3 x4) cs = refl
has_one (of_code.new_function x0 x1 x2 x3) cs = refl
has_one (of_code.new_return x0) cs = refl
has_one (of_code.class_code x0 x1 x2 x3) cs = refl
has_one (of_code.field x0 x1 x2 x3) cs = refl
has_one (of_code.private_field x0 x1 x2) cs = refl
has_one (of_code.method x0 x1 x2 x3) cs = refl
has_one (of_code.private_method true x1 x2) cs = refl
has_one (of_code.private_method false x1 x2) cs = refl
has_one (of_code.constructor x0) cs = refl
has_one (of_code.static_block x0) cs = refl
has_one (of_code.generated_element x0 x1) cs = refl
has_one (of_code.from_call x0) cs = refl
has_one (of_code.from_member x0) cs = refl
has_one (of_code.key_of x0) cs = refl
has_one (of_code.helper x0) cs = refl
has_one (of_code.helper_call x0 x1 x2) cs = refl
has_one of_code.throw cs = refl
has_one (of_code.define x0 x1 x2 x3) cs = refl
has_one (of_code.private_initialize x0 x1 x2 x3) cs = refl
has_one (of_code.add_brand x0 x1 x2) cs = refl
has_one (of_code.bound x0 x1) cs = refl
has_one (of_code.setter x0 x1 x2) cs = refl
has_one (of_code.private_value x0) cs = refl
has_one (of_code.call_arrow x0 x1 x2) cs = refl
has_one (of_code.call_closure x0 x1) cs = refl
has_one (of_code.initializers x0) cs = refl
has_one (of_code.give_function x0 x1 x2 x3) cs = refl
has_one (of_code.give_class x0 x1) cs = refl

pub has_begin : (cs : List Code) → has_instance_methods (codes_of cs) ≡ has_instance_methods (codes_of (drop 0 cs))
has_begin cs = refl

pub has_next : (cs : List Code) (i : ℕ) (d : Code) (b : Bool) → i < length cs → has_instance_methods (and (code_of (get_or cs i d)) done) ≡ b → has_instance_methods (codes_of (drop i cs)) ≡ b || has_instance_methods (codes_of (drop (i + 1) cs))
has_next cs i d b h e =
    ap (λ (l : List Code). has_instance_methods (codes_of l)) (drop_more cs i d h)
    ∙ has_one (code_of (get_or cs i d)) (codes_of (drop (i + 1) cs))
    ∙ ap (λ (c : Bool). c || has_instance_methods (codes_of (drop (i + 1) cs))) e

pub has_none : (cs : List Code) (i : ℕ) → length cs ≤ i → has_instance_methods (codes_of (drop i cs)) ≡ false
has_none cs i h = ap (λ (l : List Code). has_instance_methods (codes_of l)) (drop_all i cs h)
