-- What stands before the steps, written part by part. Assumes nothing.
use Prim.Native.Nat.{ℕ, ◌-◌}
use mathlib.Core.Path.{◌≡◌, refl, ◌∙◌}
use mathlib.Core.List.{List, ◌++◌}
use native.Mathlib.Omega.{arith}
use lib.ListN.{length, take, drop, length-drop}
use lib.Seq.{take_all}
use Rattle.wire.specs.Number.{bytes_of, puts}
use Rattle.wire.specs.Mark.{board_mark}
use Rattle.wire.proofs.Puts.{puts_append}
use Rattle.model.specs.Steps.{tally}
use Rattle.board.specs.Board.{turns_place, step_count_place, tally_place, worth_place, board_header, steps_place, steps_in, count_bytes, head_bytes}

pub head_length : (n m t w : ℕ) → length (head_bytes n m t w) ≡ board_header
unfolding count_bytes head_bytes
head_length n m t w = refl

-- each part put after the one before
pub count_put : (l : List ℕ) (n m : ℕ) {l₁ l₂ l₃ : List ℕ} → l₁ ≡ puts l 0 board_mark → l₂ ≡ puts l₁ turns_place (bytes_of 2 n) → l₃ ≡ puts l₂ step_count_place (bytes_of 2 m) → l₃ ≡ puts l 0 (count_bytes n m)
unfolding count_bytes
count_put l n m a b c = c ∙ rw (b, a)

pub head_put : (l : List ℕ) (n m t w : ℕ) {l₁ l₂ l₃ : List ℕ} → l₁ ≡ puts l 0 (count_bytes n m) → l₂ ≡ puts l₁ tally_place (bytes_of 4 t) → l₃ ≡ puts l₂ worth_place (bytes_of 4 w) → l₃ ≡ puts l 0 (head_bytes n m t w)
unfolding count_bytes head_bytes
head_put l n m t w a b c = c ∙ rw (b, a)

-- the header, and the map after it
pub front_put : (l map : List ℕ) (n m w : ℕ) {place t : ℕ} {l₁ l₂ : List ℕ} → l₂ ≡ puts l₁ board_header map → l₁ ≡ puts l 0 (head_bytes n m t w)
    → t ≡ tally (steps_in m (take (length l - place) (drop place l))) → place ≡ steps_place n → l₂ ≡ puts l 0 (head_bytes n m (tally (steps_in m (drop (steps_place n) l))) w ++ map)
front_put l map n m w {place} {t} b a q p =
    let r : take (length l - place) (drop place l) ≡ drop place l = take_all (length l - place) (drop place l) (omega (arith, length-drop place l)) in
    let s : t ≡ tally (steps_in m (drop place l)) = rw r at q in
    b ∙ rw (a, ← p, ← s) (puts_append (head_bytes n m t w) map l 0 board_header (omega (arith, head_length n m t w)))
