-- Every turn gets a number, that of the groomer who does it, where any groomer can do any turn. Groomer fields and slopes play no part (request R-4). Assumes nothing.
use Rattle.std.specs.Prelude.{◌≡◌, Bool, not, cond, ◌&&◌, List, [], ◌∷◌, ℕ, zero, suc, ◌+◌, ◌≤◌, ◌<◌, max, leb, ltb, eqb, length, get_or, set, replicate}
use Rattle.lists.specs.Lists.{every}
use Rattle.model.specs.Turns.{Turns, overlap, Holds}
use Rattle.lists.specs.Order.{how_many, StandsBefore}
use Rattle.instance_spec.specs.ByStart.{order_by_start}

-- the number that a turn has got, 0 for none
abbrev pub number_in : List ℕ → ℕ → ℕ
number_in numbers t = get_or numbers t 0

-- number k is free for turn t: no turn that has got it overlaps t
unfoldable pub free_for : Turns → List ℕ → ℕ → ℕ → Bool
free_for T numbers t k = every (λ u. not (eqb (number_in numbers u) k && overlap T u t)) T.count

-- the least number from k on that passes a test, looked for among so many; the one after them if none passes
unfoldable pub first_from : (ℕ → Bool) → ℕ → ℕ → ℕ
first_from p k zero = k
first_from p k (suc more) = let rest = first_from p (suc k) more in cond (p k) k rest

-- the number for turn t: the smallest from 1 that is free for it. As many as there are turns are enough to look at
unfoldable pub number_for : Turns → List ℕ → ℕ → ℕ
number_for T numbers t = first_from (free_for T numbers t) 1 T.count

-- turns get their numbers one after another
unfoldable pub number_all : Turns → List ℕ → List ℕ → List ℕ
number_all T [] numbers = numbers
number_all T (t ∷ ts) numbers = number_all T ts (set numbers t (number_for T numbers t))

-- each turn's number, by turn: they get them by start, then turn number
unfoldable pub numbers_of : Turns → List ℕ
numbers_of T = number_all T (order_by_start T) (replicate T.count 0)

-- the greatest of a list, 0 for none
unfoldable pub greatest : List ℕ → ℕ
greatest [] = 0
greatest (x ∷ xs) = max x (greatest xs)

-- how many groomers the turns use
unfoldable pub used_of : Turns → ℕ
used_of T = greatest (numbers_of T)

-- ---- as statements

-- turn x comes before turn y: it starts no later, and has the lower turn number where both start in one minute
abbrev pub Before : Turns → ℕ → ℕ → Type 0
Before T x y = StandsBefore T.start x y

-- number k is taken when turn t's turn comes: a turn before it has got k, and both hold some minute, each lengthened by the gap
pub record TakenFor (T : Turns) (numbers : List ℕ) (t k : ℕ) : Type 0 where
  pub turn : ℕ
  pub inside : turn < T.count
  pub before : Before T turn t
  pub has_it : number_in numbers turn ≡ k
  pub minute : ℕ
  pub its_minute : Holds T turn minute
  pub own_minute : Holds T t minute

-- numbers for all turns, each the smallest from 1 that is free when its turn comes
pub record GreedyNumbers (T : Turns) (numbers : List ℕ) : Type 0 where
  pub places : length numbers ≡ T.count
  pub from_one : (t : ℕ) → t < T.count → 1 ≤ number_in numbers t
  pub free : (t : ℕ) → t < T.count → TakenFor T numbers t (number_in numbers t) → ⊥
  pub smallest : (t k : ℕ) → t < T.count → 1 ≤ k → k < number_in numbers t → TakenFor T numbers t k

-- numbers for turns by any rule, in which two turns of one number hold no minute together, each lengthened by the gap
abbrev pub Assignment : Turns → (ℕ → ℕ) → Type 0
Assignment T f = (x y minute : ℕ) → x < T.count → y < T.count → (x ≡ y → ⊥) → f x ≡ f y → Holds T x minute → Holds T y minute → ⊥

-- how many different numbers f gives to those below n: each is counted where it first comes
unfoldable pub different : (ℕ → ℕ) → ℕ → ℕ
different f n = how_many (λ t. every (λ u. not (eqb (f u) (f t))) t) n

-- turn t, lengthened by the gap, holds a minute
unfoldable pub holds_minute : Turns → ℕ → ℕ → Bool
holds_minute T minute t = leb (T.start t) minute && ltb minute (T.end t + T.gap)

-- how many turns hold a minute together
unfoldable pub held_together : Turns → ℕ → ℕ
held_together T minute = how_many (holds_minute T minute) T.count

-- what is promised of the turns' numbers and of how many groomers they use
pub record AssignPromises (T : Turns) (numbers : List ℕ) (used : ℕ) : Type 0 where
  pub greedy : GreedyNumbers T numbers
  pub no_overlap : Assignment T (number_in numbers)
  pub uses : different (number_in numbers) T.count ≡ used
  pub no_minute_above : (minute : ℕ) → held_together T minute ≤ used
  pub some_minute : (minute : ℕ) × (held_together T minute ≡ used)
  pub fewest : (f : ℕ → ℕ) → Assignment T f → used ≤ different f T.count
