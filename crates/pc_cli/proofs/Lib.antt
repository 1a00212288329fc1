-- Lemmas on exit codes.
mod ExitCodes
