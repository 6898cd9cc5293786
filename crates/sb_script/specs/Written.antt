-- What a script's output received.
use Rattle.std.specs.Prelude.{ℕ, List, Option}
use Rattle.std.specs.Io.Buffered.{writer_inner, writer_contents}
use Rattle.sb_script.specs.declared.output.Output.{Output}

-- how many bytes the writer took
abbrev pub taken_count : {W : Type 0} → Output W → ℕ
taken_count output = (writer_inner output.writer).taken

-- the bytes that the writer has, if they are known
abbrev pub contents_of : {W : Type 0} → (W → Option (List ℕ)) → Output W → Option (List ℕ)
contents_of contents output = contents (writer_inner output.writer).writer

-- the bytes that the writer has, and then those that wait to be written
abbrev pub output_contents : {W : Type 0} → (W → Option (List ℕ)) → Output W → Option (List ℕ)
output_contents contents output = writer_contents (λ counting. contents counting.writer) output.writer
