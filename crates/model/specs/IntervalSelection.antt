-- Algorithm IS of the source document, section 5.2.1, line by line, with the machines of 5.2.4: an interval is a turn, its activity the slope, its machine the groomer, and a driver, where the turn names one, a further machine that it needs. Two intervals of a machine intersect where the turns overlap, with the gap between turns counted to each; the source's own case is a gap of 0. Sets of intervals are lists of Bool (document 01: the method; requests R-3, R-5). Assumes nothing.
use Rattle.std.specs.Prelude.{◌≡◌, ◌≢◌, Bool, true, false, not, cond, ◌&&◌, ◌||◌, List, [], ◌∷◌, ℕ, ◌<◌, ℤ, pos, ◌-ℤ◌, set, replicate}
use Rattle.model.specs.Turns.{Turns, by_slope, by_groomer, by_driver}
use Rattle.model.specs.Steps.{Step, above, part}
use Rattle.model.specs.Pick.{Precedes}
use Rattle.model.specs.Choice.{has}
use Rattle.model.specs.Rules.{Independent}

-- I is of J's activity, as J is, or of another one and intersects J on a machine that both need
unfoldable pub neighbour : Turns → ℕ → ℕ → Bool
neighbour T J I = by_slope T J I || (not (by_slope T J I) && (by_groomer T J I || by_driver T J I))

-- line 6: the weight that is split off
unfoldable pub w₁ : Turns → (ℕ → ℤ) → ℕ → ℕ → ℤ
w₁ T w J I = cond (neighbour T J I) (w J) (pos 0)

-- the weight that stays
unfoldable pub w₂ : Turns → (ℕ → ℤ) → ℕ → ℕ → ℤ
w₂ T w J I = w I -ℤ w₁ T w J I

-- no interval is left in A
abbrev pub Empty : Turns → List Bool → Type 0
Empty T A = (I : ℕ) → I < T.count → has A I ≡ false

-- each interval in A has weight
abbrev pub AllPositive : Turns → List Bool → (ℕ → ℤ) → Type 0
AllPositive T A w = (I : ℕ) → I < T.count → has A I ≡ true → above (w I) ≡ true

-- line 5: J has the earliest end in A; of equals, which the source leaves open, the greatest weight at this call is taken, then the lowest turn number
pub record EndsFirst (T : Turns) (A : List Bool) (w : ℕ → ℤ) (J : ℕ) : Type 0 where
  pub inside : J < T.count
  pub member : has A J ≡ true
  pub earliest : (I : ℕ) → I < T.count → has A I ≡ true → I ≢ J → Precedes T (λ K. part (w K)) J I

-- a call with the intervals A and the weights w returns S; it and the calls that it makes have split off these steps, in order: each time J and the weight of J
pub data IS (T : Turns) : List Bool → (ℕ → ℤ) → List Bool → List Step → Type 0 where
  line1 : {A : List Bool} {w : ℕ → ℤ} → Empty T A → IS T A w (replicate T.count false) []
  -- lines 2 and 3: any interval without weight may be the one removed
  line3 : {A S : List Bool} {w : ℕ → ℤ} {xs : List Step} (I : ℕ) → I < T.count → has A I ≡ true → above (w I) ≡ false → IS T (set A I false) w S xs → IS T A w S xs
  -- lines 4 to 9: J is added, if that is feasible: no two then conflict
  line9 : {A S : List Bool} {w : ℕ → ℤ} {xs : List Step} (J amount : ℕ) → AllPositive T A w → EndsFirst T A w J → w J ≡ pos amount → IS T A (w₂ T w J) S xs → Independent T (set S J true)
      → IS T A w (set S J true) (record { turn = J; amount = amount } ∷ xs)
  -- lines 10 and 11: it is not
  line11 : {A S : List Bool} {w : ℕ → ℤ} {xs : List Step} (J amount : ℕ) → AllPositive T A w → EndsFirst T A w J → w J ≡ pos amount → IS T A (w₂ T w J) S xs → (Independent T (set S J true) → ⊥)
      → IS T A w S (record { turn = J; amount = amount } ∷ xs)

-- the first call: all intervals, with their own weights
abbrev pub Selects : Turns → List Bool → List Step → Type 0
Selects T S xs = IS T (replicate T.count true) (λ I. pos (T.worth I)) S xs
