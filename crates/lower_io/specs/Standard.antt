-- What contracts see of the adapters over readers and writers.
use Rattle.std.specs.Prelude.{ℕ}
use Rattle.lower_io.specs.declared.standard.Reading.{Reading}
use Rattle.lower_io.specs.declared.standard.Writing.{Writing}

abbrev pub reader_of : {R : Type 0} → Reading R → R
reader_of source = source.reader

abbrev pub reading_faults : {R : Type 0} → Reading R → ℕ
reading_faults source = source.faults

abbrev pub writer_of : {W : Type 0} → Writing W → W
writer_of sink = sink.writer

abbrev pub writing_faults : {W : Type 0} → Writing W → ℕ
writing_faults sink = sink.faults
