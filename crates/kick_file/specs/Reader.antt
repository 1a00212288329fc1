-- What contracts see of a reader.
use Rattle.kick_file.specs.declared.reading.Reader.{Reader}
use Rattle.srs.specs.Rules.{table_of}
use Rattle.kick_file.specs.Reading.{Reading}

abbrev pub reading_of : Reader → Reading
reading_of reader = record { given = reader.given.items; table = table_of reader.rules; state = reader.state }
