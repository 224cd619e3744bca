-- Why a value is no pair of programs, where a part of it was not read.
use Rattle.es_ledger.specs.declared.ledger.LedgerError.{LedgerError}
use Rattle.es_reading.specs.declared.fault.ReadError.{ReadError}
use Rattle.check_run.specs.declared.pair.PairError.{PairError}

abbrev pub error_of_tree : ReadError → PairError
error_of_tree ReadError.NoMemory = PairError.NoMemory
error_of_tree e = PairError.NotAPair

abbrev pub error_of_names : LedgerError → PairError
error_of_names LedgerError.NoMemory = PairError.NoMemory
error_of_names e = PairError.NotAPair
