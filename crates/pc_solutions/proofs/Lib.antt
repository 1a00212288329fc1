-- Lemmas on the solutions that are written.
mod Given
mod Refused
mod Room
mod SolutionsSoFar
mod WholeLists
