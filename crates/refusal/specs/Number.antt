-- The refusals' numbers; what each is given for stands in src/lib.rt (document 01: what the box says; requests R-5, R-8 to R-11, R-13, R-14, P-1, P-3). Assumes nothing.
use Rattle.std.specs.Prelude.{ℕ}

-- the bytes end too early (torn)
abbrev pub truncated : ℕ
truncated = 1

-- another opening mark (stranger)
abbrev pub bad_magic : ℕ
bad_magic = 2

-- groomers or slopes out of range (fleet)
abbrev pub bad_counts : ℕ
bad_counts = 3

-- more than 400 turns (crowded)
abbrev pub too_many_turns : ℕ
too_many_turns = 4

-- a map that no record may have (blind)
abbrev pub bad_map : ℕ
bad_map = 5

-- a slope that the sheet does not have
abbrev pub bad_slope : ℕ
bad_slope = 6

-- a groomer that the sheet does not have
abbrev pub bad_groomer : ℕ
bad_groomer = 7

-- no length, or an end after the shift (clock)
abbrev pub bad_time : ℕ
bad_time = 8

-- a worth out of range (worthless)
abbrev pub bad_worth : ℕ
bad_worth = 9

-- bytes after the last record (tail)
abbrev pub trailing_bytes : ℕ
trailing_bytes = 10

-- lent places too few (narrow)
abbrev pub buffer_too_small : ℕ
buffer_too_small = 11

-- bytes that are no board of this sheet (misfit)
abbrev pub malformed_board : ℕ
malformed_board = 12

-- two chosen turns conflict (clash)
abbrev pub chosen_conflict : ℕ
chosen_conflict = 13

-- a turn still fits (idle)
abbrev pub not_maximal : ℕ
not_maximal = 14

-- a step that is not right (bad step)
abbrev pub wrong_step : ℕ
wrong_step = 15

-- the steps leave a turn open (unpaid)
abbrev pub turn_left_open : ℕ
turn_left_open = 16

-- a sum that is not what it names (sums)
abbrev pub wrong_sums : ℕ
wrong_sums = 17

-- a table that does not make whole turns (uneven)
abbrev pub partial_turn : ℕ
partial_turn = 18

-- a driver above 40
abbrev pub bad_driver : ℕ
bad_driver = 19

-- more than 96 turns, for the short reader
abbrev pub too_many_for_short : ℕ
too_many_for_short = 20

-- a slope with two turns, or a driver, on a sheet that may have neither
abbrev pub not_single_turns : ℕ
not_single_turns = 21

-- more than 64 turns, for the search
abbrev pub too_many_to_search : ℕ
too_many_to_search = 22

-- a seed that no draw can be
abbrev pub bad_seed : ℕ
bad_seed = 23

-- delays that are not one a turn, or one above 120
abbrev pub bad_delays : ℕ
bad_delays = 24

-- a draw that the hall does not have
abbrev pub bad_draw : ℕ
bad_draw = 25

-- a price list of another length than the sheet asks for
abbrev pub bad_prices : ℕ
bad_prices = 26
