-- The members of a unary operator, and `void`.
use Rattle.std.proofs.Common.{◌≡◌, refl, sym, ap, ◌∙◌, List, [], ◌++◌, true, false, cond, append_assoc, append-nil}
use Rattle.es_steps.specs.Code.{Code, Codes, value, done, joined}
use Rattle.es_steps.specs.Events.{Detail}
use Rattle.es_steps.specs.Expressions.{void_code}
use Rattle.es_steps.specs.GeneratedForms.{is_constant}
use Rattle.es_steps.specs.Values.{ConstantOf, Undefined}
use Rattle.es_code_members.proofs.Chaining.{joined-done}

pub two_details : (named operator argument none one two : List Detail) → none ≡ named → one ≡ none ++ operator → two ≡ one ++ argument → two ≡ named ++ (operator ++ (argument ++ []))
two_details named operator argument none one two nothing first second =
    second
    ∙ ap (λ (ds : List Detail). ds ++ argument) (first ∙ ap (λ (ds : List Detail). ds ++ operator) nothing)
    ∙ append_assoc named operator argument
    ∙ ap (λ (ds : List Detail). named ++ (operator ++ ds)) (sym (append-nil argument))

pub two_operands : (operator argument one two : Codes) → one ≡ operator → two ≡ joined one argument → two ≡ joined operator (joined argument done)
two_operands operator argument one two first second =
    second
    ∙ ap (λ cs. joined cs argument) first
    ∙ ap (joined operator) (sym (joined-done argument))

void-by : (e whole : Code) → void_code e whole ≡ cond (is_constant e) (value Undefined) whole
void-by (value (ConstantOf c)) whole = refl
void-by (value v) whole = refl
void-by e whole = refl

pub void_constant : (e whole : Code) → is_constant e ≡ true → value Undefined ≡ void_code e whole
void_constant e whole is = sym (void-by e whole ∙ ap (λ b. cond b (value Undefined) whole) is)

pub void_other : (e whole : Code) → is_constant e ≡ false → whole ≡ void_code e whole
void_other e whole is = sym (void-by e whole ∙ ap (λ b. cond b (value Undefined) whole) is)
