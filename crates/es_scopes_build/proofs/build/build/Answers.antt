use Rattle.std.proofs.Common.{◌∙◌, ap}
use Rattle.es_base.specs.Carried.{stripped}
use Rattle.es_scopes_build.proofs.BuildLemmas.{ordered, few, enough, agreeing}
use Rattle.es_scopes_build.proofs.Stripped.{stripped-written}
use Rattle.es_scopes_build.proofs.build.build.Goals as goal

pub number_all-requires-clause-ordered : goal.number_all-requires-clause-ordered
number_all-requires-clause-ordered c = ordered c.args.program.now c.as_slice.result.now (c.as_slice.ensures ∙ c.in_ok-entries.ensures)

pub number_all-requires-clause-room : goal.number_all-requires-clause-room
number_all-requires-clause-room c = few c.args.program.now c.as_slice.result.now (c.as_slice.ensures ∙ c.in_ok-entries.ensures) c.requires

pub write_node-requires : goal.write_node-requires
write_node-requires c = enough c.args.program.now c.as_slice.result.now c.in_ok-numbering.numbering c.as_slice-2.result.now (c.as_slice.ensures ∙ c.in_ok-entries.ensures) c.in_ok-numbering.ensures c.as_slice-2.ensures

pub returns-clause-stripped : goal.returns-clause-stripped
returns-clause-stripped c = ap stripped c.write_node.ensures.tree ∙ stripped-written c.as_slice-2.result.now 0 c.args.program.now

pub returns-clause-agrees : goal.returns-clause-agrees
returns-clause-agrees c = agreeing c.args.program.now c.write_node.new.node c.as_slice.result.now c.in_ok-numbering.numbering c.as_slice-2.result.now (c.as_slice.ensures ∙ c.in_ok-entries.ensures) c.in_ok-numbering.ensures c.as_slice-2.ensures c.write_node.ensures.tree
