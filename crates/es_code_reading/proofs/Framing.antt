-- A context inside of a node, put together.
use Rattle.std.proofs.Common.{◌≡◌, ap, ◌∙◌, Bool}
use Rattle.es_steps.specs.Context.{Context, FunctionRole}
use Rattle.es_code_reading.specs.Contexts.{Seen}

abbrev pub with_role : Seen → FunctionRole → Bool → Context → Context
with_role seen role is_body c = record c { names = seen.names; privates = seen.privates; role = role; is_body = is_body; uncaught = seen.uncaught; around = seen.around }

pub put_together : (seen : Seen) (x y : Context) (r s : FunctionRole) (b d : Bool) → x ≡ y → r ≡ s → b ≡ d → with_role seen r b x ≡ with_role seen s d y
put_together seen x y r s b d same role body =
    ap (with_role seen r b) same
    ∙ ap (λ z. with_role seen z b y) role
    ∙ ap (λ z. with_role seen s z y) body
