-- How many bytes of a sheet decide its listing, and how many every listing fits in (document 01: the program slopes). Assumes nothing.
use Rattle.std.specs.Prelude.{ℕ}

-- one more than the longest sheet has, 7 bytes and 10 for each of 400 turns: whatever is longer is refused for the byte too many or for a cause before it, so what follows need not be read
abbrev pub input_bytes : ℕ
input_bytes = 4008

-- enough for every listing: 16 headings of at most 11 bytes, a line of at most 30 for each of at most 120 chosen turns, one a slope, and a last line of at most 47
abbrev pub listing_bytes : ℕ
listing_bytes = 3823
