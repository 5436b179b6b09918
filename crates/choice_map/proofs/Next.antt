-- Finding the next chosen turn byte by byte, and counting the chosen turns. Assumes nothing.
use Prim.Native.Nat.{ℕ, zero, suc, ◌+◌, ◌-◌, ◌*◌, ◌/◌, ◌%◌, ◌<◌, ◌≤◌}
use mathlib.Core.Path.{◌≡◌, refl, sym, ◌∙◌}
use mathlib.Core.Bool.{Bool, true, false, cond}
use mathlib.Core.List.{List}
use native.Mathlib.Omega.{arith}
use lib.ListN.{length, get_or}
use Rattle.choice_map.specs.Choice.{bit_of, chosen_in, low_among, next_among, next_chosen}

-- ---- the turns of one byte

chosen_byte : (map : List ℕ) (i k : ℕ) → k < 8 → chosen_in map (8 * i + k) ≡ bit_of (get_or map i 0) k
unfolding chosen_in
chosen_byte map i k h = let d : (8 * i + k) / 8 ≡ i = omega arith in let m : (8 * i + k) % 8 ≡ k = omega arith in rw (d, m)

module _ (map : List ℕ) (t d : ℕ) where
  next_here : chosen_in map t ≡ true → next_among (suc d) map t ≡ t
  unfolding next_among
  next_here e = rw e

  next_skip : chosen_in map t ≡ false → next_among (suc d) map t ≡ next_among d map (t + 1)
  unfolding next_among
  next_skip e = rw e

more : (d rest : ℕ) → suc d + rest ≡ suc (d + rest)
more d rest = omega arith

module _ (map : List ℕ) (i : ℕ) where
  byte_found : (d k rest : ℕ) → k + d ≤ 8 → low_among d (get_or map i 0) k < k + d → next_among (d + rest) map (8 * i + k) ≡ 8 * i + low_among d (get_or map i 0) k
  unfolding low_among
  byte_found zero k rest h l = absurd (omega arith)
  byte_found (suc d) k rest h l = rw (more d rest) (go (bit_of (get_or map i 0) k) refl l (λ m. byte_found d (k + 1) rest (omega arith) m))
    where
      go : (b : Bool) → bit_of (get_or map i 0) k ≡ b → cond b k (low_among d (get_or map i 0) (k + 1)) < k + suc d
          → (low_among d (get_or map i 0) (k + 1) < k + 1 + d → next_among (d + rest) map (8 * i + (k + 1)) ≡ 8 * i + low_among d (get_or map i 0) (k + 1))
          → next_among (suc (d + rest)) map (8 * i + k) ≡ 8 * i + cond b k (low_among d (get_or map i 0) (k + 1))
      go true e l ih = next_here map (8 * i + k) (d + rest) (chosen_byte map i k (omega arith) ∙ e)
      go false e l ih = let s : 8 * i + k + 1 ≡ 8 * i + (k + 1) = omega arith in next_skip map (8 * i + k) (d + rest) (chosen_byte map i k (omega arith) ∙ e) ∙ rw s (ih (omega arith))

  byte_none : (d k rest : ℕ) → k + d ≤ 8 → k + d ≤ low_among d (get_or map i 0) k → next_among (d + rest) map (8 * i + k) ≡ next_among rest map (8 * i + (k + d))
  unfolding low_among
  byte_none zero k rest h l = let a : 0 + rest ≡ rest = omega arith in let b : k + 0 ≡ k = omega arith in rw (a, b)
  byte_none (suc d) k rest h l = rw (more d rest) (go (bit_of (get_or map i 0) k) refl l (λ m. byte_none d (k + 1) rest (omega arith) m))
    where
      go : (b : Bool) → bit_of (get_or map i 0) k ≡ b → k + suc d ≤ cond b k (low_among d (get_or map i 0) (k + 1))
          → (k + 1 + d ≤ low_among d (get_or map i 0) (k + 1) → next_among (d + rest) map (8 * i + (k + 1)) ≡ next_among rest map (8 * i + (k + 1 + d)))
          → next_among (suc (d + rest)) map (8 * i + k) ≡ next_among rest map (8 * i + (k + suc d))
      go true e l ih = absurd (omega arith)
      go false e l ih =
          let s : 8 * i + k + 1 ≡ 8 * i + (k + 1) = omega arith in
          let u : k + 1 + d ≡ k + suc d = omega arith in
          next_skip map (8 * i + k) (d + rest) (chosen_byte map i k (omega arith) ∙ e) ∙ rw (s, ← u) (ih (omega arith))

-- ---- the loop over the bytes

split : (u : ℕ) → 8 * (u / 8) + u % 8 ≡ u
split u = omega arith

room : (n u : ℕ) → u < 8 * n → 8 * n - u ≡ 8 - u % 8 + (8 * n - (8 * (u / 8) + 8))
room n u h = omega arith

module _ (map : List ℕ) (u : ℕ) {z : ℕ} where
  module _ (h : u < 8 * length map) {low : ℕ} (e : low ≡ low_among (8 - u % 8) (get_or map (u / 8) 0) (u % 8)) (i : next_chosen map u ≡ z) where
    whole : next_among (8 - u % 8 + (8 * length map - (8 * (u / 8) + 8))) map (8 * (u / 8) + u % 8) ≡ z
    unfolding next_chosen
    whole = rw (split u) (rw (room (length map) u h) at i)

    pub next_found : low < 8 → 8 * (u / 8) + low ≡ z
    next_found l = rw e (sym (byte_found map (u / 8) (8 - u % 8) (u % 8) (8 * length map - (8 * (u / 8) + 8)) (omega arith) (omega arith)) ∙ whole)

    pub next_none : 8 ≤ low → next_chosen map (8 * (u / 8) + 8) ≡ z
    unfolding next_chosen
    next_none l =
        let a : u % 8 + (8 - u % 8) ≡ 8 = omega arith in
        (rw a at (sym (byte_none map (u / 8) (8 - u % 8) (u % 8) (8 * length map - (8 * (u / 8) + 8)) (omega arith) (omega arith)))) ∙ whole

  pub next_done : 8 * length map ≤ u → next_chosen map u ≡ z → u ≡ z
  unfolding next_chosen next_among
  next_done h i = let k : 8 * length map - u ≡ 0 = omega arith in rw k at i

pub ruleset next_cases = (next_found, next_none, next_done)
