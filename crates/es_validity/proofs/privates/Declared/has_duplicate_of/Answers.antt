use Rattle.std.proofs.Common.{◌∙◌, sym, ap}
use Rattle.std.specs.Str.{chars}
use Rattle.es_base.specs.Conforms.{is_among}
use Rattle.es_validity.proofs.Members.{taken_for_field, taken_for_method}
use Rattle.es_validity.specs.Privates.{taken_for}
use Rattle.es_validity.specs.Reached.{kind_in}
use Rattle.es_validity.proofs.privates.Declared.has_duplicate_of.Goals as goal

pub returns-in-Field : goal.returns-in-Field
returns-in-Field c = λ earlier holds.
    let name = chars c.args.member.now.name.now in
    c.has-in-Field.ensures
    ∙ holds.all name
    ∙ sym (ap (is_among name) (taken_for_field c.args.member.now.is_static earlier))
    ∙ sym (ap (λ kind. is_among name (taken_for (kind_in kind) c.args.member.now.is_static earlier)) c.in-Field.is)

pub returns-in-Method : goal.returns-in-Method
returns-in-Method c = λ earlier holds.
    let name = chars c.args.member.now.name.now in
    c.has-in-Method.ensures
    ∙ holds.all name
    ∙ sym (ap (is_among name) (taken_for_method c.args.member.now.is_static earlier))
    ∙ sym (ap (λ kind. is_among name (taken_for (kind_in kind) c.args.member.now.is_static earlier)) c.in-Method.is)
