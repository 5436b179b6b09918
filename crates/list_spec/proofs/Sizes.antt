-- A refusal's line is short: its number has at most three digits. Assumes nothing.
use Prim.Native.Nat.{ℕ, ◌<◌, ◌≤◌, ◌^◌}
use mathlib.Core.Path.{◌≡◌}
use mathlib.Core.List.{◌++◌}
use native.Mathlib.Omega.{arith}
use lib.ListN.{length, length-append}
use Rattle.text.specs.Decimal.{decimal}
use Rattle.text.specs.Place.{last_place}
use Rattle.text.proofs.Width.{decimal_width}
use Rattle.list_spec.specs.Text.{labelled, refused_line, refused_word, line_feed}

line_size : (k : ℕ) → k < 256 → length (refused_line k) ≤ 12
unfolding refused_line labelled
line_size k h =
    let three : k < 10 ^ 3 = omega arith in
    omega (arith, length-append (refused_word ++ decimal k) line_feed, length-append refused_word (decimal k), decimal_width 3 k three (omega arith))

pub refused_short : (k : ℕ) → k < 256 → length (refused_line k) ≤ last_place
refused_short k h = omega (arith, line_size k h)

pub refused_most : (k : ℕ) {r : ℕ} → r ≡ length (refused_line k) → k < 256 → r ≤ 12
refused_most k e h = omega (arith, line_size k h)
