-- The refusals as a type: each has its number, and a result that is none has 0 (document 01: what the box says). Assumes nothing.
use Rattle.std.specs.Prelude.{◌≡◌, ⊤, ℕ, Result, Ok, Err}
use Rattle.refusal.specs.declared.Refusal.{Refusal}
use Rattle.refusal.specs.declared.Refusal.TheVariants.{Truncated, BadMagic, BadCounts, TooManyTurns, BadMap, BadSlope, BadGroomer, BadTime, BadWorth, TrailingBytes, BufferTooSmall, MalformedBoard, ChosenConflict, NotMaximal, WrongStep, TurnLeftOpen, WrongSums, PartialTurn, BadDriver, TooManyForShort, NotSingleTurns, TooManyToSearch, BadSeed, BadDelays, BadDraw, BadPrices, Other}
use Rattle.refusal.specs.Number.{truncated, bad_magic, bad_counts, too_many_turns, bad_map, bad_slope, bad_groomer, bad_time, bad_worth, trailing_bytes, buffer_too_small, malformed_board, chosen_conflict, not_maximal, wrong_step, turn_left_open, wrong_sums, partial_turn, bad_driver, too_many_for_short, not_single_turns, too_many_to_search, bad_seed, bad_delays, bad_draw, bad_prices}

-- a refusal's number
abbrev pub number_of : Refusal → ℕ
number_of Truncated = truncated
number_of BadMagic = bad_magic
number_of BadCounts = bad_counts
number_of TooManyTurns = too_many_turns
number_of BadMap = bad_map
number_of BadSlope = bad_slope
number_of BadGroomer = bad_groomer
number_of BadTime = bad_time
number_of BadWorth = bad_worth
number_of TrailingBytes = trailing_bytes
number_of BufferTooSmall = buffer_too_small
number_of MalformedBoard = malformed_board
number_of ChosenConflict = chosen_conflict
number_of NotMaximal = not_maximal
number_of WrongStep = wrong_step
number_of TurnLeftOpen = turn_left_open
number_of WrongSums = wrong_sums
number_of PartialTurn = partial_turn
number_of BadDriver = bad_driver
number_of TooManyForShort = too_many_for_short
number_of NotSingleTurns = not_single_turns
number_of TooManyToSearch = too_many_to_search
number_of BadSeed = bad_seed
number_of BadDelays = bad_delays
number_of BadDraw = bad_draw
number_of BadPrices = bad_prices
number_of (Other n) = n.number

-- a refusal with a name has this number; nothing is said of another
abbrev pub NamedBy : Refusal → ℕ → Type 0
NamedBy (Other n) x = ⊤
NamedBy k x = x ≡ number_of k

-- what refused, as a number: 0 if nothing did
abbrev pub failure : {A : Type 0} → Result A Refusal → ℕ
failure (Ok a) = 0
failure (Err k) = number_of k
