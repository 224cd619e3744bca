-- Brands, by what names are.
use Rattle.std.proofs.Common.{◌≡◌, refl, sym, ap, ◌∙◌, ℕ, Option, Some, None}
use Rattle.es_base.specs.declared.ledger.GeneratedKind.{GeneratedKind}
use Rattle.es_steps.specs.Code.{Code, name, add_brand, no_rule}
use Rattle.es_steps.specs.Context.{NameKind, Generated}
use Rattle.es_steps.specs.GeneratedForms.{brand_on}
use Rattle.es_steps.specs.Values.{Value}
use Rattle.es_code_reading.specs.Letters.{name_kind_in}
use Rattle.es_code_helpers.specs.Brands.{brand_class, brand_class_of}

abbrev by_kind : Option NameKind → Option ℕ
by_kind None = None
by_kind (Some kind) = brand_class_of kind

brand_class-is : (e : Code) → brand_class e ≡ by_kind (name_kind_in e)
brand_class-is (name m s kind) = refl
brand_class-is e = refl

pub brand_named : (e : Code) (kind : NameKind) → Some kind ≡ name_kind_in e → brand_class_of kind ≡ brand_class e
brand_named e kind is = ap by_kind is ∙ sym (brand_class-is e)

pub brand_unnamed : (e : Code) → None ≡ name_kind_in e → None ≡ brand_class e
brand_unnamed e is = ap by_kind is ∙ sym (brand_class-is e)

abbrev on : ℕ → Option ℕ → Option Value → Code
on m (Some n) (Some o) = add_brand m n o
on m n o = no_rule

brand_on-is : (m : ℕ) (q : Code) (o : Option Value) → brand_on m q o ≡ on m (brand_class q) o
brand_on-is m (name k s (Generated (GeneratedKind.Brand n))) (Some o) = refl
brand_on-is m (name k s (Generated (GeneratedKind.Brand n))) None = refl
brand_on-is m (name k s (Generated g)) o = refl
brand_on-is m (name k s kind) o = refl
brand_on-is m q o = refl

pub branded : (m : ℕ) (q : Code) (n : ℕ) (o : Value) → Some n ≡ brand_class q → add_brand m n o ≡ brand_on m q (Some o)
branded m q n o is = ap (λ k. on m k (Some o)) is ∙ sym (brand_on-is m q (Some o))

pub unbranded : (m : ℕ) (q : Code) (o : Option Value) → None ≡ brand_class q → no_rule ≡ brand_on m q o
unbranded m q o is = ap (λ k. on m k o) is ∙ sym (brand_on-is m q o)

none-on : (m : ℕ) (n : Option ℕ) → on m n None ≡ no_rule
none-on m None = refl
none-on m (Some n) = refl

pub unknown : (m : ℕ) (q : Code) → no_rule ≡ brand_on m q None
unknown m q = sym (brand_on-is m q None ∙ none-on m (brand_class q))
