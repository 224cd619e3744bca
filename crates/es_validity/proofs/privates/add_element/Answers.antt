use Rattle.es_validity.proofs.privates.add_element.Goals as goal

pub returns-in-Some : goal.returns-in-Some
returns-in-Some c = rw c.in-Some.ensures c.add_member.ensures
