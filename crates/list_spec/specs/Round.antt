-- A groomer's round: its chosen turns by start (document 01: the program slopes). Assumes nothing.
use Rattle.std.specs.Prelude.{ℕ, zero, suc, ◌+◌, ◌<◌, ◌≡◌, ◌↔◌, Bool, true, cond, ◌&&◌, List, [], ◌∷◌, ◌++◌, eqb}
use Rattle.turn.specs.Turn.{shift_minutes}
use Rattle.lists.specs.Lists.{All, In}
use Rattle.model.specs.Turns.{Turns}
use Rattle.model.specs.Choice.{has}

-- turn u is chosen, is groomer h's, and starts in this minute
unfoldable pub starts_at : Turns → List Bool → ℕ → ℕ → ℕ → Bool
starts_at T S h minute u = has S u && (eqb (T.groomer u) h && eqb (T.start u) minute)

-- those of the first i turns, in turn order
unfoldable pub starts_below : Turns → List Bool → ℕ → ℕ → ℕ → List ℕ
starts_below T S h minute zero = []
starts_below T S h minute (suc i) = starts_below T S h minute i ++ cond (starts_at T S h minute i) (i ∷ []) []

-- minute by minute, for d minutes from this one on
unfoldable pub round_from : Turns → List Bool → ℕ → ℕ → ℕ → List ℕ
round_from T S h zero minute = []
round_from T S h (suc d) minute = starts_below T S h minute T.count ++ round_from T S h d (minute + 1)

-- groomer h's round, over the whole shift
unfoldable pub round_of : Turns → List Bool → ℕ → List ℕ
round_of T S h = round_from T S h shift_minutes 0

-- ---- as statements

-- each turn of a list starts before all that follow it
pub data Rising (T : Turns) : List ℕ → Type 0 where
  none : Rising T []
  more : {u : ℕ} {us : List ℕ} → All (λ v. T.start u < T.start v) us → Rising T us → Rising T (u ∷ us)

-- a list is groomer h's round: exactly its chosen turns, and by start, so that none stands twice
pub record Round (T : Turns) (S : List Bool) (h : ℕ) (us : List ℕ) : Type 0 where
  pub turns : (u : ℕ) → In u us ↔ ((u < T.count) × (has S u ≡ true) × (T.groomer u ≡ h))
  pub by_start : Rising T us

-- of a groomer's chosen turns no two start in the same minute
abbrev pub StartsApart : Turns → List Bool → Type 0
StartsApart T S = (u v : ℕ) → u < T.count → v < T.count → has S u ≡ true → has S v ≡ true → T.groomer u ≡ T.groomer v → T.start u ≡ T.start v → u ≡ v
