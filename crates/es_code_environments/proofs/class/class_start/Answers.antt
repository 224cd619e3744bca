use Rattle.std.proofs.Common.{◌≡◌, ap, ap₂, ◌∙◌, ℕ, ◌-◌, List, ◌++◌, length}
use Rattle.es_codes.specs.CodeView.{codes_of}
use Rattle.es_steps.specs.Entries.{without}
use Rattle.es_steps.specs.Evaluation.{Environment, only_private}
use Rattle.es_steps.specs.Opening.{assigned_in_all}
use Rattle.es_steps.specs.Values.{String}
use Rattle.es_code_environments.proofs.ClassForms.{start_is}
use Rattle.es_code_environments.proofs.class.class_start.Goals as goal
use Rattle.es_code_environments.specs.Classes.{behind_heritage, behind_keys}

pub returns-clause-start : goal.returns-clause-start
returns-clause-start c =
    let keys : c.pass-2.new.self ≡ behind_keys c.args.terms.now (behind_heritage c.args.terms.now c.args.here.now (codes_of c.args.heritage.now)) (codes_of c.args.elements.now) =
    c.in_ok-pass-2.ensures.leads
    ∙ ap (λ (z : Environment). behind_keys c.args.terms.now z (codes_of c.args.elements.now)) c.in_ok-pass.ensures.leads in
    let names : c.as_slice.result.now ≡ assigned_in_all (codes_of c.args.elements.now) =
    c.as_slice.ensures.value
    ∙ c.in_ok-add_assigned_in_all.ensures
    ∙ ap (λ (z : List String). z ++ assigned_in_all (codes_of c.args.elements.now)) c.new-names.ensures.items in
    let begun : c.in_ok-start.start ≡ without (assigned_in_all (codes_of c.args.elements.now)) c.args.here.now =
    c.in_ok-start.ensures ∙ ap (λ (z : List String). without z c.args.here.now) names in
    let given : c.give_private.new.self ≡ only_private (length c.pass_leading.new.here - length c.pass-2.new.self) c.pass_leading.new.here ++ without (assigned_in_all (codes_of c.args.elements.now)) c.args.here.now =
    c.in_ok-give_private.ensures
    ∙ ap₂ (λ (k : ℕ) (z : Environment). only_private (length c.pass_leading.new.here - k) c.pass_leading.new.here ++ z) c.len-behind_keys.ensures begun in
    start_is c.args.terms.now c.args.class c.args.here.now (codes_of c.args.heritage.now) (codes_of c.args.elements.now) c.pass_leading.new.here c.pass-2.new.self c.give_private.new.self keys c.in_ok-pass_leading.ensures.leads given
