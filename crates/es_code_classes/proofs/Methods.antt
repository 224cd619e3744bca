-- Methods, by the forms of their keys.
use Rattle.std.proofs.Common.{◌≡◌, refl, sym, ap, ◌∙◌, ℕ, List, Bool, false, Option, Some, None}
use Rattle.es_steps.specs.Context.{Context}
use Rattle.es_steps.specs.Expressions.{the_code}
use Rattle.es_steps.specs.Members.{Member, end, more, flag_of, word_of}
use Rattle.es_steps.specs.PrivateNames.{PrivateMember}
use Rattle.es_steps.specs.Statements as spec
use Rattle.es_code_classes.specs.Elements.{private_method_of, private_name_in, public_method}
use Rattle.es_steps.specs.Code as of
use Rattle.es_codes.proofs.Forms.{code_out, private_name_is}
use Rattle.es_codes.specs.CodeView.{code_of, target_of, callee_of, code_step}
use Rattle.es_codes.specs.declared.code.Code.{Code}
use Rattle.es_codes.specs.declared.code.Target.{Target}
use Rattle.es_codes.specs.declared.code.Callee.{Callee}
use Rattle.es_codes.specs.declared.name.PrivateReference.{PrivateReference}
use Rattle.es_codes.specs.declared.code.Code.TheVariants as variants
use Rattle.es_codes.specs.declared.code.Callee.TheOpen.{Code-F}
use Rattle.es_codes.specs.declared.code.Callee.TheViews.{roll-Code, out-Code, roll-out-Code}
use Rattle.es_codes.specs.declared.code.Callee.TheFolds.{map-Code}

pub declared_one : (o : Option PrivateMember) (x : PrivateMember) (is_static : Bool) (s : List ℕ) → Some x ≡ o → spec.is_declared_as (Some x) is_static s ≡ spec.is_declared_as o is_static s
declared_one o x is_static s is = ap (λ y. spec.is_declared_as y is_static s) is

pub declared_none : (o : Option PrivateMember) (is_static : Bool) (s : List ℕ) → None ≡ o → false ≡ spec.is_declared_as o is_static s
declared_none o is_static s is = ap (λ y. spec.is_declared_as y is_static s) is

pub of_private_name : (e : Code) (node : ℕ) (spelling : List ℕ) (means : Option PrivateReference) → e ≡ variants.PrivateName node spelling means → private_name_in (code_of e) ≡ Some node
of_private_name e node spelling means is = ap (λ x. private_name_in (code_of x)) is ∙ ap (λ x. private_name_in x) (private_name_is node spelling means)

pub of_others : (e : Code) → ((node : ℕ) (spelling : List ℕ) (means : Option PrivateReference) → e ≡ variants.PrivateName node spelling means → ⊥) → private_name_in (code_of e) ≡ None
of_others e not_private_name = ap (λ x. private_name_in x) (code_out e) ∙ by (out-Code e) (roll-out-Code e)
  where
    by : (y : Code-F Callee Code Target) → roll-Code y ≡ e → private_name_in (code_step (map-Code Callee Code Target of.Callee of.Code of.Target callee_of code_of target_of y)) ≡ None
    by (Code-F.PrivateName node spelling means) is = absurd (not_private_name node spelling means (sym is ∙ variants.rolls-PrivateName node spelling means))
    by y is = refl

-- ---- a method, by the number of the private name that its key is

abbrev by-key : Context → List ℕ → Bool → Bool → of.Code → of.Code → Option ℕ → of.Code
by-key c s is_computed is_static k f (Some d) = private_method_of c is_static d s f
by-key c s is_computed is_static k f None = public_method s is_computed is_static k f

method-by : (c : Context) (key function kind computed static_flag : Member) (k : of.Code) → by-key c (word_of kind) (flag_of computed) (flag_of static_flag) k (the_code function) (private_name_in k) ≡ spec.method_of c (more key (more function (more kind (more computed (more static_flag end))))) k
method-by c key function kind computed static_flag (of.private_name d s r) = refl
method-by c key function kind computed static_flag k = refl

pub with_private_key : (c : Context) (key function kind computed static_flag : Member) (d : ℕ) → Some d ≡ private_name_in (the_code key) → private_method_of c (flag_of static_flag) d (word_of kind) (the_code function) ≡ spec.method_code c (more key (more function (more kind (more computed (more static_flag end)))))
with_private_key c key function kind computed static_flag d is = ap (by-key c (word_of kind) (flag_of computed) (flag_of static_flag) (the_code key) (the_code function)) is ∙ method-by c key function kind computed static_flag (the_code key)

pub with_other_key : (c : Context) (key function kind computed static_flag : Member) → None ≡ private_name_in (the_code key) → public_method (word_of kind) (flag_of computed) (flag_of static_flag) (the_code key) (the_code function) ≡ spec.method_code c (more key (more function (more kind (more computed (more static_flag end)))))
with_other_key c key function kind computed static_flag is = ap (by-key c (word_of kind) (flag_of computed) (flag_of static_flag) (the_code key) (the_code function)) is ∙ method-by c key function kind computed static_flag (the_code key)
