-- The sink tells nothing of what it holds.
use Rattle.pc_outside.specs.WriteLaws.{writes_untold}
use Rattle.pc_outside.proofs.file_sink.FileSinkSink.write.Goals as goal

pub returns-in-Err-clause-written : goal.returns-in-Err-clause-written
returns-in-Err-clause-written g c = writes_untold
