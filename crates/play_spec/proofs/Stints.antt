-- A day's stints come one after another; what a groomer does before, in and after one, and how many minutes it has driven over by then. Assumes nothing.
use mathlib.Core.Path.{◌≡◌, refl, sym, ◌∙◌, ap}
use mathlib.Core.Bool.{Bool, true, false}
use mathlib.Core.List.{List, [], ◌∷◌}
use Prim.Native.Nat.{ℕ, zero, suc, ◌+◌, ◌-◌, ◌≤◌, ◌<◌, max}
use native.Mathlib.Omega.{arith}
use native.Mathlib.Decide.{dec_lt}
use native.Mathlib.Nat.{le-max_right}
use borrow.Author.Tests.{lt-ltb, le-ltb}
use Rattle.model.specs.Turns.{Turns}
use Rattle.instance_spec.specs.ByStart.{order_by_start}
use Rattle.lists.specs.Order.{how_many}
use Rattle.play_spec.specs.declared.Stint.{Stint}
use Rattle.play_spec.specs.Day.{over_minutes, stint_of, stints_from, taken_of, day_of, Doing, works, drives, stands, doing_at, is_drive, Laid}

-- ---- a day's stints come one after another, with time to drive over

pub stints_laid : (T : Turns) (delay : ℕ → ℕ) (free : ℕ) (us : List ℕ) → Laid free (stints_from T delay free us)
unfolding stints_from stint_of
stints_laid T delay free [] = Laid.none
stints_laid T delay free (u ∷ us) =
    let e : max (T.start u) free ≤ max (T.start u) free + (T.end u - T.start u) + delay u = omega arith in
    Laid.more {s = stint_of T delay free u} (le-max_right (T.start u) free) e (stints_laid T delay (max (T.start u) free + (T.end u - T.start u) + delay u + over_minutes) us)

pub day_laid : (T : Turns) (S : List Bool) (delay : ℕ → ℕ) (h : ℕ) → Laid 0 (day_of T S delay h)
unfolding day_of
day_laid T S delay h = stints_laid T delay 0 (taken_of T S h (order_by_start T))

-- ---- one stint

module _ (s : Stint) (ss : List Stint) (m : ℕ) where
  pub doing_before : m < s.begin → doing_at (s ∷ ss) m ≡ stands
  unfolding doing_at
  doing_before l = rw (lt-ltb m s.begin l)

  pub doing_in : s.begin ≤ m → m < s.end → doing_at (s ∷ ss) m ≡ works s.turn
  unfolding doing_at
  doing_in a l = rw (le-ltb m s.begin a, lt-ltb m s.end l)

  pub doing_over : s.begin ≤ s.end → s.end ≤ m → m < s.end + over_minutes → doing_at (s ∷ ss) m ≡ drives
  unfolding doing_at
  doing_over b a l = rw (le-ltb m s.begin (omega arith), le-ltb m s.end a, lt-ltb m (s.end + over_minutes) l)

  pub doing_after : s.begin ≤ s.end → s.end + over_minutes ≤ m → doing_at (s ∷ ss) m ≡ doing_at ss m
  unfolding doing_at
  doing_after b a = rw (le-ltb m s.begin (omega arith), le-ltb m s.end (omega arith), le-ltb m (s.end + over_minutes) a)

doing_early : {free : ℕ} {ss : List Stint} → Laid free ss → (m : ℕ) → m < free → doing_at ss m ≡ stands
unfolding doing_at
doing_early Laid.none m l = refl
doing_early (Laid.more {s = s} {ss = ss} a b h) m l = doing_before s ss m (omega arith)

-- ---- how many minutes were driven over before a minute

unfoldable pub driven : List Stint → ℕ → ℕ
driven ss m = how_many (λ k. is_drive (doing_at ss k)) m

driven_other : (ss : List Stint) (m : ℕ) {d : Doing} → doing_at ss m ≡ d → is_drive d ≡ false → driven ss (suc m) ≡ driven ss m
unfolding driven
driven_other ss m e f = let q : is_drive (doing_at ss m) ≡ false = ap is_drive e ∙ f in rw q (omega arith)

driven_more : (ss : List Stint) (m : ℕ) → doing_at ss m ≡ drives → driven ss (suc m) ≡ suc (driven ss m)
unfolding driven is_drive
driven_more ss m e = let q : is_drive (doing_at ss m) ≡ true = ap is_drive e in rw q (omega arith)

driven_zero : (ss : List Stint) → driven ss 0 ≡ 0
unfolding driven
driven_zero ss = refl

works_not : (u : ℕ) → is_drive (works u) ≡ false
unfolding is_drive
works_not u = refl

stands_not : is_drive stands ≡ false
unfolding is_drive
stands_not = refl

driven_none : {free : ℕ} {ss : List Stint} → Laid free ss → (m : ℕ) → m ≤ free → driven ss m ≡ 0
driven_none {free} {ss} h zero l = driven_zero ss
driven_none {free} {ss} h (suc m) l = driven_other ss m (doing_early h m (omega arith)) stands_not ∙ driven_none h m (omega arith)

module _ (s : Stint) (ss : List Stint) (b : s.begin ≤ s.end) where
  driven_first : (m : ℕ) → m ≤ s.end → driven (s ∷ ss) m ≡ 0
  driven_first zero l = driven_zero (s ∷ ss)
  driven_first (suc m) l = go (dec_lt m s.begin) (driven_first m (omega arith))
    where
      go : Dec (m < s.begin) → driven (s ∷ ss) m ≡ 0 → driven (s ∷ ss) (suc m) ≡ 0
      go (yes k) ih = driven_other (s ∷ ss) m (doing_before s ss m k) stands_not ∙ ih
      go (no k) ih = driven_other (s ∷ ss) m (doing_in s ss m (omega arith) (omega arith)) (works_not s.turn) ∙ ih

  driven_over : (k : ℕ) → k ≤ over_minutes → driven (s ∷ ss) (s.end + k) ≡ k
  driven_over zero l = let q : s.end + 0 ≡ s.end = omega arith in rw q (driven_first s.end (omega arith))
  driven_over (suc k) l =
      let q : s.end + suc k ≡ suc (s.end + k) = omega arith in
      rw q (driven_more (s ∷ ss) (s.end + k) (doing_over s ss (s.end + k) b (omega arith) (omega arith)) ∙ ap suc (driven_over k (omega arith)))

  pub driven_short : (m : ℕ) → m < s.end + over_minutes → driven (s ∷ ss) m < over_minutes
  driven_short m l = go (dec_lt m s.end)
    where
      go : Dec (m < s.end) → driven (s ∷ ss) m < over_minutes
      go (yes k) = omega (arith, driven_first m (omega arith))
      go (no k) = let q : m ≡ s.end + (m - s.end) = omega arith in let e : driven (s ∷ ss) m ≡ m - s.end = ap (driven (s ∷ ss)) q ∙ driven_over (m - s.end) (omega arith) in omega (arith, e)

  pub driven_later : Laid (s.end + over_minutes) ss → (k : ℕ) → driven (s ∷ ss) (s.end + over_minutes + k) ≡ over_minutes + driven ss (s.end + over_minutes + k)
  driven_later h zero =
      let q : s.end + over_minutes + 0 ≡ s.end + over_minutes = omega arith in
      rw q (omega (arith, driven_over over_minutes (omega arith), driven_none h (s.end + over_minutes) (omega arith)))
  driven_later h (suc k) =
      let m = s.end + over_minutes + k in
      let q : s.end + over_minutes + suc k ≡ suc m = omega arith in
      rw q (go (doing_at ss m) refl (driven_later h k))
    where
      at : (d : Doing) → doing_at ss (s.end + over_minutes + k) ≡ d → doing_at (s ∷ ss) (s.end + over_minutes + k) ≡ d
      at d e = doing_after s ss (s.end + over_minutes + k) b (omega arith) ∙ e

      go : (d : Doing) → doing_at ss (s.end + over_minutes + k) ≡ d → driven (s ∷ ss) (s.end + over_minutes + k) ≡ over_minutes + driven ss (s.end + over_minutes + k)
          → driven (s ∷ ss) (suc (s.end + over_minutes + k)) ≡ over_minutes + driven ss (suc (s.end + over_minutes + k))
      go (works u) e ih = driven_other (s ∷ ss) (s.end + over_minutes + k) (at (works u) e) (works_not u) ∙ ih ∙ ap (λ (x : ℕ). over_minutes + x) (sym (driven_other ss (s.end + over_minutes + k) e (works_not u)))
      go drives e ih = let a = driven_more (s ∷ ss) (s.end + over_minutes + k) (at drives e) in let c = driven_more ss (s.end + over_minutes + k) e in omega (arith, a, c, ih)
      go stands e ih = driven_other (s ∷ ss) (s.end + over_minutes + k) (at stands e) stands_not ∙ ih ∙ ap (λ (x : ℕ). over_minutes + x) (sym (driven_other ss (s.end + over_minutes + k) e stands_not))
