-- For every gap: two turns of a minute or more overlap just if some minute is held by both, each lengthened by the gap; and the test of conflict is the reading of it. The source's intervals are half open likewise, with a gap of 0 (5.2). Assumes nothing.
use mathlib.Core.Path.{◌≡◌}
use mathlib.Core.Logic.{◌↔◌, ◌⊎◌, inl, inr}
use mathlib.Core.Bool.{true, false}
use Prim.Native.Nat.{ℕ, ◌+◌, ◌-◌, ◌<◌, max}
use native.Mathlib.Omega.{arith}
use native.Mathlib.Decide.{dec_lt}
use Rattle.model.specs.Turns.{Turns, PositiveLengths, OneDriver, overlap, conflict, Holds, Conflict, same_slope, same_groomer, same_driver, Near, shared, after, before}
use Rattle.lists.proofs.Bools.{not_both, fails}
use Rattle.model.proofs.Conflicts

module _ (T : Turns) where
  -- a shared minute: the later of the two starts
  pub overlap_minute : (x y : ℕ) → T.start x < T.end x → T.start y < T.end y → overlap T x y ≡ true → (minute : ℕ) × Holds T x minute × Holds T y minute
  overlap_minute x y hx hy e =
      let h = Conflicts.overlap_lt T x y e in
      (max (T.start x) (T.start y), omega arith, omega arith)

  pub minute_overlap : (x y minute : ℕ) → Holds T x minute → Holds T y minute → overlap T x y ≡ true
  minute_overlap x y minute p q = Conflicts.lt_overlap T x y (omega arith)

  pub share_a_minute : (x y : ℕ) → T.start x < T.end x → T.start y < T.end y → overlap T x y ≡ true ↔ ((minute : ℕ) × Holds T x minute × Holds T y minute)
  share_a_minute x y hx hy = (overlap_minute x y hx hy, λ (minute, p, q). minute_overlap x y minute p q)

  -- the second form of the words: a minute of their own, or a start too soon after an end
  pub overlap_near : (x y : ℕ) → T.start x < T.end x → T.start y < T.end y → overlap T x y ≡ true → Near T x y
  overlap_near x y hx hy e = go (dec_lt (T.start y) (T.end x)) (dec_lt (T.start x) (T.end y))
    where
      h : (T.start x < T.end y + T.gap) × (T.start y < T.end x + T.gap)
      h = Conflicts.overlap_lt T x y e

      go : Dec (T.start y < T.end x) → Dec (T.start x < T.end y) → Near T x y
      go (no a) b = after (T.start y - T.end x) (omega (arith, h)) (omega arith)
      go (yes a) (no b) = before (T.start x - T.end y) (omega (arith, h)) (omega arith)
      go (yes a) (yes b) = shared (max (T.start x) (T.start y)) (omega arith) (omega arith) (omega arith) (omega arith)

  pub near_overlap : (x y : ℕ) → T.start x < T.end x → T.start y < T.end y → Near T x y → overlap T x y ≡ true
  near_overlap x y hx hy (shared m a b c d) = Conflicts.lt_overlap T x y (omega arith, omega arith)
  near_overlap x y hx hy (after k l e) = Conflicts.lt_overlap T x y (omega arith, omega arith)
  near_overlap x y hx hy (before k l e) = Conflicts.lt_overlap T x y (omega arith, omega arith)

  pub near_is : (x y : ℕ) → T.start x < T.end x → T.start y < T.end y → overlap T x y ≡ true ↔ Near T x y
  near_is x y hx hy = (overlap_near x y hx hy, near_overlap x y hx hy)

  pub reads_conflict : (x y : ℕ) → Conflict T x y → conflict T x y ≡ true
  reads_conflict x y (same_slope e) = Conflicts.conflicts T x y (Conflicts.slopes (Conflicts.is_slope T x y e))
  reads_conflict x y (same_groomer e m p q) = Conflicts.conflicts T x y (Conflicts.groomers (Conflicts.is_groomer T x y e (minute_overlap x y m p q)))
  reads_conflict x y (same_driver d m p q) = Conflicts.conflicts T x y (Conflicts.drivers (Conflicts.is_driver T x y d (minute_overlap x y m p q)))

  module _ (lengths : PositiveLengths T) where
    pub conflict_reads : (x y : ℕ) → x < T.count → y < T.count → conflict T x y ≡ true → Conflict T x y
    conflict_reads x y hx hy e = go (Conflicts.ways T x y e)
      where
        go : Conflicts.Ways T x y → Conflict T x y
        go (Conflicts.slopes h) = same_slope (Conflicts.slope_is T x y h)
        go (Conflicts.groomers h) =
            let g = Conflicts.groomer_is T x y h in
            let m = overlap_minute x y (lengths x hx) (lengths y hy) g.1 in
            same_groomer g.0 m.0 m.1 m.2
        go (Conflicts.drivers h) =
            let d = Conflicts.driver_is T x y h in
            let m = overlap_minute x y (lengths x hx) (lengths y hy) d.1 in
            same_driver d.0 m.0 m.1 m.2

    pub conflict_is : (x y : ℕ) → x < T.count → y < T.count → conflict T x y ≡ true ↔ Conflict T x y
    conflict_is x y hx hy = (conflict_reads x y hx hy, reads_conflict x y)

    -- conflict in the second form of the words
    abbrev pub NearConflict : ℕ → ℕ → Type 0
    NearConflict x y = (T.slope x ≡ T.slope y) ⊎ (((T.groomer x ≡ T.groomer y) ⊎ OneDriver T x y) × Near T x y)

    pub conflict_near : (x y : ℕ) → x < T.count → y < T.count → conflict T x y ≡ true ↔ NearConflict x y
    conflict_near x y hx hy = (λ e. to (Conflicts.ways T x y e), from)
      where
        near : overlap T x y ≡ true → Near T x y
        near e = overlap_near x y (lengths x hx) (lengths y hy) e

        meets : Near T x y → overlap T x y ≡ true
        meets n = near_overlap x y (lengths x hx) (lengths y hy) n

        to : Conflicts.Ways T x y → NearConflict x y
        to (Conflicts.slopes h) = inl (Conflicts.slope_is T x y h)
        to (Conflicts.groomers h) = let g = Conflicts.groomer_is T x y h in inr (inl g.0, near g.1)
        to (Conflicts.drivers h) = let d = Conflicts.driver_is T x y h in inr (inr d.0, near d.1)

        from : NearConflict x y → conflict T x y ≡ true
        from (inl e) = Conflicts.conflicts T x y (Conflicts.slopes (Conflicts.is_slope T x y e))
        from (inr (inl e, n)) = Conflicts.conflicts T x y (Conflicts.groomers (Conflicts.is_groomer T x y e (meets n)))
        from (inr (inr d, n)) = Conflicts.conflicts T x y (Conflicts.drivers (Conflicts.is_driver T x y d (meets n)))

    pub no_conflict_is : (x y : ℕ) → x < T.count → y < T.count → conflict T x y ≡ false ↔ (Conflict T x y → ⊥)
    no_conflict_is x y hx hy = (λ e c. not_both (reads_conflict x y c) e, λ h. fails (conflict T x y) (λ e. h (conflict_reads x y hx hy e)))
