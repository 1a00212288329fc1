-- What the words ask for.
use Rattle.std.specs.Prelude.{ℕ, Option, Result, Ok}
use Rattle.srs.specs.Kick.{Table, srs_table}
use Rattle.kick_file.specs.declared.fault.KickFault.{KickFault}
use Rattle.fumen_digits.specs.declared.dialect.Dialect.{Dialect}
use Rattle.pc_settings.specs.Request.{ComboRequest, FieldRequest, PathRequest, PercentRequest}

-- a command with what it is asked for
pub data Request : Type 0 where
  path : PathRequest → Request
  percent : PercentRequest → Request
  cover : FieldRequest → Request
  combo : ComboRequest → Request
  decode : Request
  encode : Dialect → Request
  show : (page : Option ℕ) → Request
  kicks : (read : Result Table KickFault) → Request
  selfrun : (number pages : ℕ) → Request

-- the table of offsets that is asked for, or the first fault of its text
abbrev pub table_asked : Request → Result Table KickFault
table_asked (path request) = request.common.table
table_asked (percent request) = request.common.table
table_asked (cover request) = request.table
table_asked (combo request) = request.table
table_asked (kicks read) = read
table_asked decode = Ok srs_table
table_asked (encode dialect) = Ok srs_table
table_asked (show page) = Ok srs_table
table_asked (selfrun number pages) = Ok srs_table
