use Rattle.es_scopes.specs.Table.{marked}
use Rattle.es_scopes.proofs.AlikeLemmas.{symbol_flags-alike, name-alike, symbol-alike}
use Rattle.es_scopes.proofs.law.symbols_stay_alike.Goals as goal

pub returns-clause-flags : goal.returns-clause-flags
returns-clause-flags c = symbol_flags-alike

pub returns-clause-name : goal.returns-clause-name
returns-clause-name c = name-alike

pub returns-clause-mark : goal.returns-clause-mark
returns-clause-mark c = λ t table y none. symbol-alike t table y marked none
