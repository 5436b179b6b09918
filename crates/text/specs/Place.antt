-- How far text may go (no rule of its own). Assumes nothing.
use Rattle.std.specs.Prelude.{ℕ}

-- no text here is longer: far more than any listing, and a number that every machine's sizes hold
abbrev pub last_place : ℕ
last_place = 4294967295
