-- The choice map: which turns are chosen, one bit a turn (document 01: the board). Assumes nothing.
use Rattle.std.specs.Prelude.{ℕ, zero, suc, ◌+◌, ◌-◌, ◌*◌, ◌/◌, ◌%◌, ◌^◌, ◌≡◌, List, [], ◌∷◌, Bool, true, not, cond, length, get_or, set, eqb}
use Rattle.wire.specs.Number.{Bytes}
use Rattle.lists.specs.Lists.{every, tab, sum_over, below}
use Rattle.model.specs.Choice.{has}

-- bit k of a byte, bit 0 the lowest
unfoldable pub bit_of : ℕ → ℕ → Bool
bit_of x k = eqb (x / 2 ^ k % 2) 1

-- as many bytes as hold a bit for each of n turns
abbrev pub map_bytes : ℕ → ℕ
map_bytes n = (n + 7) / 8

-- byte t / 8 of the map has turn t, at its bit t % 8
unfoldable pub chosen_in : List ℕ → ℕ → Bool
chosen_in map t = bit_of (get_or map (t / 8) 0) (t % 8)

-- the choice that a map's bytes hold for n turns
unfoldable pub choice_in : ℕ → List ℕ → List Bool
choice_in n map = tab n (chosen_in map)

-- a byte with bit k set
unfoldable pub with_bit : ℕ → ℕ → ℕ
with_bit x k = cond (bit_of x k) x (x + 2 ^ k)

-- a map with turn t chosen too
unfoldable pub with_turn : List ℕ → ℕ → List ℕ
with_turn map t = set map (t / 8) (with_bit (get_or map (t / 8) 0) (t % 8))

-- how many bits of a byte are 1
unfoldable pub ones_of : ℕ → ℕ
ones_of x = sum_over (λ k. cond (bit_of x k) 1 0) (below 8)

-- the number of chosen turns: the ones of each byte, summed
unfoldable pub ones_in : List ℕ → ℕ
ones_in [] = 0
ones_in (x ∷ map) = ones_of x + ones_in map

-- the bits past the last of n turns are clear
unfoldable pub clear_past : ℕ → List ℕ → Bool
clear_past n map = every (λ k. not (chosen_in map (n + k))) (8 * map_bytes n - n)

-- byte k of the map of a choice: the bits of the turns from 8 k on
unfoldable pub byte_of : List Bool → ℕ → ℕ
byte_of S k = sum_over (λ i. cond (has S (8 * k + i)) (2 ^ i) 0) (below 8)

-- the map of a choice, byte by byte
unfoldable pub map_of : List Bool → List ℕ
map_of S = tab (map_bytes (length S)) (byte_of S)

-- a map of n turns as a board holds it: its length, bytes only, no bit past the last turn
pub record Clean (n : ℕ) (map : List ℕ) : Type 0 where
  pub size : length map ≡ map_bytes n
  pub bytes : Bytes map
  pub clear : clear_past n map ≡ true

-- the lowest bit of a byte that stands, from bit k on, among d bits; else the bit after them
unfoldable pub low_among : ℕ → ℕ → ℕ → ℕ
low_among zero x k = k
low_among (suc d) x k = cond (bit_of x k) k (low_among d x (k + 1))

-- the next chosen turn from t on, among d turns; else the turn after them
unfoldable pub next_among : ℕ → List ℕ → ℕ → ℕ
next_among zero map t = t
next_among (suc d) map t = cond (chosen_in map t) t (next_among d map (t + 1))

-- in the whole map: 8 turns a byte
unfoldable pub next_chosen : List ℕ → ℕ → ℕ
next_chosen map t = next_among (8 * length map - t) map t
