-- What is admitted of the parts of a new function.
use Rattle.std.specs.Prelude.{◌≡◌, ℕ, List, Bool, true, ◌&&◌, ◌||◌, not}
use Rattle.es_steps.specs.Code.{Code, Codes, FunctionForm, new_function}
use Rattle.es_steps.specs.GeneratedForms.{opened_body}
use Rattle.es_steps.specs.Values.{String}
use Rattle.es_replacement.proofs.Environments.{left, right}
use Rattle.es_replacement.specs.Holes.{none_is_hole, holds_hole, admits, admits_all}

pub record IsAdmitted (names : List String) (plain_ones : Bool) (ps : Codes) (b : Code) : Type 0 where
  pub opened : (plain_ones || not (holds_hole (opened_body b))) ≡ true
  pub none : none_is_hole ps ≡ true
  pub parameters : admits_all names plain_ones ps ≡ true
  pub body : admits names plain_ones b ≡ true

pub of_function : (names : List String) (plain_ones : Bool) (f : ℕ) (form : FunctionForm) (ps : Codes) (body : Code) → admits names plain_ones (new_function f form ps body) ≡ true → IsAdmitted names plain_ones ps body
of_function names plain_ones f form ps body p =
    let first : Bool = plain_ones || not (holds_hole (opened_body body)) in
    let rest : Bool = none_is_hole ps && (admits_all names plain_ones ps && admits names plain_ones body) in
    let q : rest ≡ true = right first rest p in
    let r : (admits_all names plain_ones ps && admits names plain_ones body) ≡ true = right (none_is_hole ps) (admits_all names plain_ones ps && admits names plain_ones body) q in
    record {
      opened = left first rest p;
      none = left (none_is_hole ps) (admits_all names plain_ones ps && admits names plain_ones body) q;
      parameters = left (admits_all names plain_ones ps) (admits names plain_ones body) r;
      body = right (admits_all names plain_ones ps) (admits names plain_ones body) r;
    }
