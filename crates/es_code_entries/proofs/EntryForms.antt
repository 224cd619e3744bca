-- What entries codes of some forms have.
use Rattle.std.proofs.Common.{◌≡◌, refl, ap, ◌∙◌, ℕ, List, [], ◌++◌, append_assoc, Bool, true, false, not, cond, Option}
use Rattle.es_base.specs.declared.ledger.GeneratedKind.{GeneratedKind}
use Rattle.es_code_environments.specs.Classes.{behind_fields, start_of}
use Rattle.es_code_environments.specs.declared.terms.Terms.{Terms}
use Rattle.es_codes.proofs.Forms.{class_code_is, constructor_is, field_is, give_function_is, private_field_is}
use Rattle.es_codes.specs.CodeView.{code_of, codes_of, field_form_of}
use Rattle.es_codes.specs.declared.code.Code.TheVariants as codes
use Rattle.es_codes.specs.declared.code.Code as code
use Rattle.es_codes.specs.declared.code.FieldForm.{FieldForm}
use Rattle.es_steps.specs.Code as of
use Rattle.es_steps.specs.Entries.{Entries}
use Rattle.es_steps.specs.Evaluation.{Environment}
use Rattle.es_steps.specs.Values.{String}
use Rattle.es_code_entries.specs.Own.{class_own}
use Rattle.es_code_entries.specs.Walked.{class_entries, constructor_entries, element_function, entries, field_entries, field_entry, function_entries, given_function, running_entries, static_entry}

-- ---- what generated names are given

given_of : (t : Terms) (s : Environment) (m : ℕ) (x : String) (g : GeneratedKind) (f : of.Code) → entries t s (of.give_function m x g f) ≡ given_function t s f
given_of t s m x g (of.new_function k form ps body) = refl
given_of t s m x g f = refl

pub given_function_is : (t : Terms) (s : Environment) (m : ℕ) (x : List ℕ) (g : GeneratedKind) (f : code.Code) → entries t s (code_of (codes.GiveFunction m x g f)) ≡ given_function t s (code_of f)
given_function_is t s m x g f = ap (entries t s) (give_function_is m x g f) ∙ given_of t s m x g (code_of f)

-- ---- fields

static_field_of : (t : Terms) (s : Environment) (b : Bool) (form : of.FieldForm) (k e : of.Code) → static_entry t s (of.field b form k e) ≡ cond b (entries t s e) []
static_field_of t s true form k e = refl
static_field_of t s false form k e = refl

pub static_field : (t : Terms) (s : Environment) (b : Bool) (form : FieldForm) (k e : code.Code) → static_entry t s (code_of (codes.Field b form k e)) ≡ cond b (entries t s (code_of e)) []
static_field t s b form k e = ap (static_entry t s) (field_is b form k e) ∙ static_field_of t s b (field_form_of form) (code_of k) (code_of e)

static_private_of : (t : Terms) (s : Environment) (b : Bool) (d : ℕ) (e : of.Code) → static_entry t s (of.private_field b d e) ≡ cond b (entries t s e) []
static_private_of t s true d e = refl
static_private_of t s false d e = refl

pub static_private : (t : Terms) (s : Environment) (b : Bool) (d : ℕ) (e : code.Code) → static_entry t s (code_of (codes.PrivateField b d e)) ≡ cond b (entries t s (code_of e)) []
static_private t s b d e = ap (static_entry t s) (private_field_is b d e) ∙ static_private_of t s b d (code_of e)

instance_field_of : (t : Terms) (s : Environment) (b : Bool) (form : of.FieldForm) (k e : of.Code) → field_entry t s (of.field b form k e) ≡ cond (not b) (entries t s e) []
instance_field_of t s true form k e = refl
instance_field_of t s false form k e = refl

pub instance_field : (t : Terms) (s : Environment) (b : Bool) (form : FieldForm) (k e : code.Code) → field_entry t s (code_of (codes.Field b form k e)) ≡ cond (not b) (entries t s (code_of e)) []
instance_field t s b form k e = ap (field_entry t s) (field_is b form k e) ∙ instance_field_of t s b (field_form_of form) (code_of k) (code_of e)

instance_private_of : (t : Terms) (s : Environment) (b : Bool) (d : ℕ) (e : of.Code) → field_entry t s (of.private_field b d e) ≡ cond (not b) (entries t s e) []
instance_private_of t s true d e = refl
instance_private_of t s false d e = refl

pub instance_private : (t : Terms) (s : Environment) (b : Bool) (d : ℕ) (e : code.Code) → field_entry t s (code_of (codes.PrivateField b d e)) ≡ cond (not b) (entries t s (code_of e)) []
instance_private t s b d e = ap (field_entry t s) (private_field_is b d e) ∙ instance_private_of t s b d (code_of e)

-- ---- classes

constructor_of : (t : Terms) (s i : Environment) (f : of.Code) → element_function t s i (of.constructor f) ≡ constructor_entries t i f
constructor_of t s i (of.function f form own_name ps body) = refl
constructor_of t s i (of.new_function f form ps body) = refl
constructor_of t s i f = refl

pub constructor_function : (t : Terms) (s i : Environment) (f : code.Code) → element_function t s i (code_of (codes.Constructor f)) ≡ constructor_entries t i (code_of f)
constructor_function t s i f = ap (element_function t s i) (constructor_is f) ∙ constructor_of t s i (code_of f)

class_of : (t : Terms) (s : Environment) (n : ℕ) (declared : Option ℕ) (h es : of.Codes) → entries t s (of.class_code n declared h es) ≡ class_entries t s n declared h es
class_of t s n declared h es =
    ap (λ (z : Entries). class_own t s n declared h es ++ z) (append_assoc (running_entries t s n h es) (field_entries t n (start_of t n s h es) es) (function_entries t s (behind_fields t (start_of t n s h es) n h es) es))

pub class_is : (t : Terms) (s : Environment) (n : ℕ) (declared : Option ℕ) (h es : List code.Code) → entries t s (code_of (codes.Class n declared h es)) ≡ class_entries t s n declared (codes_of h) (codes_of es)
class_is t s n declared h es = ap (entries t s) (class_code_is n declared h es) ∙ class_of t s n declared (codes_of h) (codes_of es)
