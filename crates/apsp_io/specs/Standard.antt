-- What contracts see of the source and the sink over the streams of the standard library.
use Rattle.std.specs.Prelude.{ℕ}
use Rattle.apsp_io.specs.declared.standard.StdSource.{StdSource}
use Rattle.apsp_io.specs.declared.standard.StdSink.{StdSink}

abbrev pub reader_of : {R : Type 0} → StdSource R → R
reader_of s = s.reader

abbrev pub read_faults_of : {R : Type 0} → StdSource R → ℕ
read_faults_of s = s.faults

abbrev pub writer_of : {W : Type 0} → StdSink W → W
writer_of s = s.writer

abbrev pub write_faults_of : {W : Type 0} → StdSink W → ℕ
write_faults_of s = s.faults
