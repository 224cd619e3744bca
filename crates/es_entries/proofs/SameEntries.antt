-- Two entries are one where their parts are.
use Rattle.std.proofs.Common.{◌≡◌, sym, ap, ap₂, ◌∙◌, ℕ, List, Bool, true, false, Option}
use Rattle.std.specs.Prelude.{◌&&◌, ◌↔◌, IsTrue}
use Rattle.std.proofs.lemmas.Bool.{and_from, and_parts}
use Rattle.es_codes.specs.CodeView.{form_of}
use Rattle.es_entries.specs.Entered.{HaveOneHead, IsClassEntry, IsFunctionEntry}
use Rattle.es_entries.specs.Lists.{IsListed}
use Rattle.es_entries.specs.Methods.{methods_in}
use Rattle.es_entries.specs.Parameters.{parameters_in}
use Rattle.es_entries.specs.declared.entry.ClassEntry.{ClassEntry}
use Rattle.es_entries.specs.declared.entry.FunctionEntry.{FunctionEntry}
use Rattle.es_sameness.proofs.Sameness.{form_decides, methods_decide, parameters_decide}
use Rattle.es_steps.specs.Code.{FunctionForm}
use Rattle.es_steps.specs.Entries as spec
use Rattle.es_steps.specs.SameMeanings as same
use Rattle.es_steps.specs.Values.{Value}

-- ---- entries, taken apart

abbrev own_name_in : spec.Entry → Option ℕ
own_name_in (spec.FunctionEntry f a ps l) = a
own_name_in (spec.ClassEntry d h ms f ps l) = d

abbrev form_in : spec.Entry → FunctionForm
form_in (spec.FunctionEntry f a ps l) = f
form_in (spec.ClassEntry d h ms f ps l) = f

abbrev parameters_at : spec.Entry → List spec.Parameter
parameters_at (spec.FunctionEntry f a ps l) = ps
parameters_at (spec.ClassEntry d h ms f ps l) = ps

abbrev listed_in : spec.Entry → spec.Listed
listed_in (spec.FunctionEntry f a ps l) = l
listed_in (spec.ClassEntry d h ms f ps l) = l

abbrev heritage_at : Option Value → spec.Entry → Option Value
heritage_at x (spec.FunctionEntry f a ps l) = x
heritage_at x (spec.ClassEntry d h ms f ps l) = h

abbrev methods_at : List spec.Method → spec.Entry → List spec.Method
methods_at x (spec.FunctionEntry f a ps l) = x
methods_at x (spec.ClassEntry d h ms f ps l) = ms

abbrev is_of_function : spec.Entry → Bool
is_of_function (spec.FunctionEntry f a ps l) = true
is_of_function (spec.ClassEntry d h ms f ps l) = false

-- ---- functions

pub same_functions : (x y : FunctionEntry) (forms names parameters bodies : Bool)
    → forms ≡ same.same_form (form_of x.form) (form_of y.form)
    → IsTrue names ↔ (x.own_name ≡ y.own_name)
    → parameters ≡ same.same_list same.same_parameter (parameters_in x.parameters) (parameters_in y.parameters)
    → ((l k : spec.Listed) → IsListed x.body l → IsListed y.body k → IsTrue bodies ↔ (l ≡ k))
    → (heads all result : Bool) → heads ≡ (forms && names) → all ≡ (heads && parameters) → result ≡ (all && bodies)
    → (e g : spec.Entry) → IsFunctionEntry x e → IsFunctionEntry y g → IsTrue result ↔ (e ≡ g)
same_functions x y forms names parameters bodies f n p b heads all result h1 h2 r e g i j =
    let listed = b i.body j.body i.is_listed j.is_listed in (
      λ t.
          let abc = and_parts all bodies (sym r ∙ t) in
          let ab = and_parts heads parameters (sym h2 ∙ abc.0) in
          let a = and_parts forms names (sym h1 ∙ ab.0) in
          i.is
          ∙ ap₂ (λ (v : FunctionForm) (w : Option ℕ). spec.FunctionEntry v w (parameters_in x.parameters) i.body) ((form_decides _ _).0 (sym f ∙ a.0)) (n.0 a.1)
          ∙ ap₂ (λ (v : List spec.Parameter) (w : spec.Listed). spec.FunctionEntry (form_of y.form) y.own_name v w) ((parameters_decide _ _).0 (sym p ∙ ab.1)) (listed.0 abc.1)
          ∙ sym j.is,
      λ h.
          let one = sym i.is ∙ h ∙ j.is in
          r ∙ and_from all bodies (h2 ∙ and_from heads parameters (h1 ∙ and_from forms names (f ∙ (form_decides _ _).1 (ap form_in one)) (n.1 (ap own_name_in one))) (p ∙ (parameters_decide _ _).1 (ap parameters_at one))) (listed.1 (ap listed_in one)),
    )

-- ---- classes

pub same_heads : (x y : ClassEntry) (declared heritages methods two heads : Bool)
    → IsTrue declared ↔ (x.declared ≡ y.declared)
    → IsTrue heritages ↔ (x.heritage ≡ y.heritage)
    → methods ≡ same.same_list same.same_method (methods_in x.methods) (methods_in y.methods)
    → two ≡ (declared && heritages) → heads ≡ (two && methods)
    → IsTrue heads ↔ HaveOneHead x y
same_heads x y declared heritages methods two heads d v m h1 h2 = (
  (λ t.
      let p2 = and_parts two methods (sym h2 ∙ t) in
      let p1 = and_parts declared heritages (sym h1 ∙ p2.0) in
      record { declared = d.0 p1.0; heritage = v.0 p1.1; methods = (methods_decide _ _).0 (sym m ∙ p2.1) }),
  (λ h. h2 ∙ and_from two methods (h1 ∙ and_from declared heritages (d.1 h.declared) (v.1 h.heritage)) (m ∙ (methods_decide _ _).1 h.methods)),
)

pub same_classes : (x y : ClassEntry) (heads forms parameters constructions : Bool)
    → IsTrue heads ↔ HaveOneHead x y
    → forms ≡ same.same_form (form_of x.form) (form_of y.form)
    → parameters ≡ same.same_list same.same_parameter (parameters_in x.parameters) (parameters_in y.parameters)
    → ((l k : spec.Listed) → IsListed x.construction l → IsListed y.construction k → IsTrue constructions ↔ (l ≡ k))
    → (two all result : Bool) → two ≡ (heads && forms) → all ≡ (two && parameters) → result ≡ (all && constructions)
    → (e g : spec.Entry) → IsClassEntry x e → IsClassEntry y g → IsTrue result ↔ (e ≡ g)
same_classes x y heads forms parameters constructions o f p c two all result h1 h2 r e g i j =
    let listed = c i.construction j.construction i.is_listed j.is_listed in (
      λ t.
          let p3 = and_parts all constructions (sym r ∙ t) in
          let p2 = and_parts two parameters (sym h2 ∙ p3.0) in
          let p1 = and_parts heads forms (sym h1 ∙ p2.0) in
          let head = o.0 p1.0 in
          i.is
          ∙ ap₂ (λ (a : Option ℕ) (h : Option Value). spec.ClassEntry a h (methods_in x.methods) (form_of x.form) (parameters_in x.parameters) i.construction) head.declared head.heritage
          ∙ ap₂ (λ (ms : List spec.Method) (a : FunctionForm). spec.ClassEntry y.declared y.heritage ms a (parameters_in x.parameters) i.construction) head.methods ((form_decides _ _).0 (sym f ∙ p1.1))
          ∙ ap₂ (λ (ps : List spec.Parameter) (l : spec.Listed). spec.ClassEntry y.declared y.heritage (methods_in y.methods) (form_of y.form) ps l) ((parameters_decide _ _).0 (sym p ∙ p2.1)) (listed.0 p3.1)
          ∙ sym j.is,
      λ h.
          let one = sym i.is ∙ h ∙ j.is in
          let head : HaveOneHead x y = record { declared = ap own_name_in one; heritage = ap (heritage_at x.heritage) one; methods = ap (methods_at (methods_in x.methods)) one } in
          r ∙ and_from all constructions (h2 ∙ and_from two parameters (h1 ∙ and_from heads forms (o.1 head) (f ∙ (form_decides _ _).1 (ap form_in one))) (p ∙ (parameters_decide _ _).1 (ap parameters_at one))) (listed.1 (ap listed_in one)),
    )

-- ---- a function is no class

pub function_no_class : (x : FunctionEntry) (y : ClassEntry) (e g : spec.Entry) → IsFunctionEntry x e → IsClassEntry y g → IsTrue false ↔ (e ≡ g)
function_no_class x y e g i j = (λ t. cc, λ h. let one : true ≡ false = ap is_of_function (sym i.is ∙ h ∙ j.is) in cc)

pub class_no_function : (x : ClassEntry) (y : FunctionEntry) (e g : spec.Entry) → IsClassEntry x e → IsFunctionEntry y g → IsTrue false ↔ (e ≡ g)
class_no_function x y e g i j = (λ t. cc, λ h. let one : false ≡ true = ap is_of_function (sym i.is ∙ h ∙ j.is) in cc)
