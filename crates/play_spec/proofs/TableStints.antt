-- What a groomer does in a minute, told from how long it has driven over: each stint brings ten such minutes, so they count the stints that are over. Assumes nothing.
use mathlib.Core.Path.{◌≡◌, sym, ◌∙◌, ap}
use mathlib.Core.List.{List, [], ◌∷◌}
use Prim.Native.Nat.{ℕ, suc, ◌+◌, ◌-◌, ◌≤◌, ◌<◌, ◌/◌}
use native.Mathlib.Omega.{arith}
use native.Mathlib.Decide.{dec_lt}
use lib.Dec.{ltb}
use borrow.Author.Tests.{lt-ltb, le-ltb}
use Rattle.turn.specs.Turn.{shift_minutes}
use Rattle.play_spec.specs.declared.Stint.{Stint}
use Rattle.play_spec.specs.Day.{over_minutes, doing_at, Laid}
use Rattle.play_spec.proofs.Stints.{driven, doing_after, driven_short, driven_later}
use Rattle.play_spec.specs.DayTable.{cut, cut_stint, no_stint, stint_row, doing_by}

-- ---- cutting off

pub cut_below : (x : ℕ) → x < shift_minutes → cut x ≡ x
unfolding cut
cut_below x l = rw (lt-ltb x shift_minutes l)

pub cut_over : (x : ℕ) → shift_minutes ≤ x → cut x ≡ shift_minutes
unfolding cut
cut_over x l = rw (le-ltb x shift_minutes l)

pub cut_most : (x : ℕ) → cut x ≤ shift_minutes
cut_most x = go (dec_lt x shift_minutes)
  where
    go : Dec (x < shift_minutes) → cut x ≤ shift_minutes
    go (yes l) = omega (arith, cut_below x l)
    go (no l) = omega (arith, cut_over x (omega arith))

-- no minute of the shift tells a minute from where it is cut off
pub before_cut : (m x : ℕ) → m < shift_minutes → ltb m (cut x) ≡ ltb m x
before_cut m x l = go (dec_lt x shift_minutes)
  where
    go : Dec (x < shift_minutes) → ltb m (cut x) ≡ ltb m x
    go (yes k) = rw (cut_below x k)
    go (no k) = rw (cut_over x (omega arith), lt-ltb m x (omega arith), lt-ltb m shift_minutes l)

-- ---- the row that the driven minutes point at says what the day says

doing_here : (s : Stint) (ss : List Stint) (m : ℕ) → m < s.end + over_minutes → doing_by s m ≡ doing_at (s ∷ ss) m
unfolding doing_at doing_by
doing_here s ss m l = rw (lt-ltb m (s.end + over_minutes) l)

by_cut : (s : Stint) (m : ℕ) → m < shift_minutes → doing_by (cut_stint s) m ≡ doing_by s m
unfolding doing_by cut_stint
by_cut s m l = rw (before_cut m s.begin l, before_cut m s.end l)

no_row : (m : ℕ) → m < shift_minutes → doing_by no_stint m ≡ doing_at [] m
unfolding doing_by no_stint doing_at
no_row m l = rw (lt-ltb m shift_minutes l)

pub row_says : {free : ℕ} {ss : List Stint} → Laid free ss → (m : ℕ) → m < shift_minutes → doing_by (stint_row ss (driven ss m / over_minutes)) m ≡ doing_at ss m
unfolding stint_row
row_says Laid.none m l = no_row m l
row_says (Laid.more {s = s} {ss = ss} a b h) m l = go (dec_lt m (s.end + over_minutes)) (row_says h m l)
  where
    go : Dec (m < s.end + over_minutes) → doing_by (stint_row ss (driven ss m / over_minutes)) m ≡ doing_at ss m → doing_by (stint_row (s ∷ ss) (driven (s ∷ ss) m / over_minutes)) m ≡ doing_at (s ∷ ss) m
    go (yes k) ih =
        let d = driven_short s ss b m k in
        let z : driven (s ∷ ss) m / over_minutes ≡ 0 = omega (arith, d) in
        rw z (by_cut s m l ∙ doing_here s ss m k)
    go (no k) ih =
        let q : m ≡ s.end + over_minutes + (m - (s.end + over_minutes)) = omega arith in
        let d : driven (s ∷ ss) m ≡ over_minutes + driven ss m = ap (driven (s ∷ ss)) q ∙ driven_later s ss b h (m - (s.end + over_minutes)) ∙ ap (λ (x : ℕ). over_minutes + driven ss x) (sym q) in
        let z : driven (s ∷ ss) m / over_minutes ≡ suc (driven ss m / over_minutes) = omega (arith, d) in
        rw z (ih ∙ sym (doing_after s ss m b (omega arith)))
