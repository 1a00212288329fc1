-- What `decode`, `encode` and `show` do with the bytes of the source.
use Rattle.std.specs.Prelude.{ℕ, true, false, Option, None}
use Rattle.fumen_digits.specs.declared.dialect.Dialect.{Dialect}
use Rattle.pc_source.specs.Faults.{text_fault}
use Rattle.pc_source.specs.Task.{Task, source_bytes}
use Rattle.pc_source.specs.Work.{no_floods}
use Rattle.pc_pages.specs.Faults.{encode_fault}
use Rattle.pc_pages.specs.Output.{IsDecodeOutput, IsEncodeOutput, IsShowOutput}

-- it takes memory for each line
abbrev pub decode_task : Task
decode_task = record {
  needs = source_bytes;
  memory_first = false;
  fault = text_fault None;
  IsOutput = λ bytes floods output. IsDecodeOutput bytes output;
  IsWork = no_floods;
}

abbrev pub encode_task : Dialect → Task
encode_task dialect = record {
  needs = source_bytes;
  memory_first = true;
  fault = encode_fault dialect;
  IsOutput = λ bytes floods output. IsEncodeOutput dialect bytes output;
  IsWork = no_floods;
}

abbrev pub show_task : Option ℕ → Task
show_task asked = record {
  needs = source_bytes;
  memory_first = true;
  fault = text_fault asked;
  IsOutput = λ bytes floods output. IsShowOutput asked bytes output;
  IsWork = no_floods;
}
