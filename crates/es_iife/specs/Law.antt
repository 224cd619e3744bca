-- The law of functions that are called where they stand, as the contract of src/law.rt names it.
use Rattle.std.specs.Prelude.{◌≡◌, ℕ, List, [], ◌∷◌, true, false, Option, Some}
use Rattle.es_base.specs.Tree.{Tree, end, more, child, list, boolean, trees}
use Rattle.es_base.specs.declared.kind.Kind.{Kind}
use Rattle.es_iife.specs.Iife.{Numbers, arrow_of, body_of, called}
use Rattle.es_statement.specs.Statement.{return_statement}
use Rattle.es_steps.specs.Code.{Opened, sequence, one}
use Rattle.es_steps.specs.Context.{Context, inside, new_here}
use Rattle.es_steps.specs.Evaluation.{Environment, Evaluation, ev}
use Rattle.es_steps.specs.Reading.{read}

-- where `(() => { return e; })()` is read, whose `return` has number m, e is read here
abbrev pub in_return : Context → Numbers → ℕ → List Tree → Tree → Context
in_return c n m statements e =
    let in_call : Context = inside c Kind.CallExpression n.call (more (child (arrow_of n statements)) (more (list end) (more (boolean false) end))) 0 in
    let in_arrow : Context = inside in_call Kind.ArrowFunctionExpression n.arrow (more (list end) (more (child (body_of n statements)) (more (boolean false) end))) 1 in
    let in_body : Context = inside in_arrow Kind.BlockStatement n.body (more (list (trees statements)) end) 0 in
    inside in_body Kind.ReturnStatement m (more (child e) end) 0

-- the call of a new arrow that returns a value evaluates as this alone does
abbrev pub CalledLaw : Type 0
CalledLaw = (opens : Opened → Evaluation) (c : Context) (n : Numbers) (m : ℕ) (span : Option (ℕ × ℕ)) (e : Tree) (env : Environment)
    → new_here c n.arrow ≡ true → new_here c m ≡ true
    → ev opens (read c (called n (return_statement m span (Some e) ∷ []))) env ≡ ev opens (sequence (one (read (in_return c n m (return_statement m span (Some e) ∷ []) e) e))) env
