-- The promises are kept on every sheet that is not refused; and the words fix the numbers. Assumes nothing.
use mathlib.Core.Path.{◌≡◌, sym, ◌∙◌, ap}
use mathlib.Core.List.{List}
use Prim.Native.Nat.{ℕ, zero, suc, ◌≤◌, ◌<◌}
use native.Mathlib.Omega.{arith}
use native.Mathlib.Decide.{dec_lt, ℕ_discrete}
use lib.ListN.{length, drop}
use lib.Seq.{ext_get_or, take_at, drop_at}
use Rattle.model.specs.Turns.{Turns, PositiveLengths}
use Rattle.sheet.specs.Read.{turn_count, sheet_causes}
use Rattle.sheet.proofs.Readings.{sheet_numbered}
use Rattle.instance_spec.specs.Problem.{sheet_turns}
use Rattle.instance_spec.proofs.SheetTurns.{sheet_count, sheet_lengths}
use Rattle.assign_spec.specs.Numbering.{number_in, numbers_of, used_of, Before, GreedyNumbers, AssignPromises}
use Rattle.assign_spec.specs.Assign.{assign_causes, assign_of, AssignPromised}
use Rattle.assign_spec.proofs.Numbers.{numbers_places, numbers_greedy, numbers_assignment}
use Rattle.assign_spec.proofs.Fewest.{together_most, some_reached, fewest, used_different}
use Rattle.assign_spec.proofs.AssignCauses.{assign_number, answered}
use Rattle.refusal.proofs.Outcome.{enough_iff}

-- ---- for any turns, each at least a minute long

pub numbers_promised : (T : Turns) → PositiveLengths T → AssignPromises T (numbers_of T) (used_of T)
numbers_promised T lengths =
    record {
      greedy = numbers_greedy T lengths;
      no_overlap = numbers_assignment T;
      uses = used_different T lengths;
      no_minute_above = together_most T;
      some_minute = some_reached T lengths;
      fewest = fewest T lengths;
    }

-- ---- for any bytes as a sheet, where nothing is refused

pub assign_promised : (s lent : List ℕ) → (assign_of s lent).answer.refusal ≡ 0 → AssignPromised s lent
unfolding assign_causes
assign_promised s lent z =
    let T = sheet_turns s in
    let clear = sym (assign_number s lent) ∙ z in
    let sound = ((enough_iff (sheet_causes s) (length lent) (turn_count s) (sheet_numbered s)).0 clear).0 in
    let size : length (numbers_of T) ≡ turn_count s = numbers_places T ∙ sheet_count s sound in
    let rest = drop (length (numbers_of T)) lent in
    record {
      numbered = rw (answered s lent clear, take_at (numbers_of T) rest (turn_count s) size) (numbers_promised T (sheet_lengths s sound));
      behind = rw (answered s lent clear) (drop_at (numbers_of T) rest (turn_count s) size ∙ ap (λ (k : ℕ). drop k lent) size);
    }

-- ---- the words fix the numbers: no two lists are the smallest free numbers

-- where the turns before it have the same numbers in both, a turn has no smaller one in the second
no_smaller : (T : Turns) (xs ys : List ℕ) → GreedyNumbers T xs → GreedyNumbers T ys → (t : ℕ) → t < T.count → ((u : ℕ) → u < T.count → Before T u t → number_in xs u ≡ number_in ys u) → number_in xs t ≤ number_in ys t
no_smaller T xs ys a b t m same = go (dec_lt (number_in ys t) (number_in xs t))
  where
    go : Dec (number_in ys t < number_in xs t) → number_in xs t ≤ number_in ys t
    go (yes l) =
        let k = a.smallest t (number_in ys t) m (b.from_one t m) l in
        absurd (b.free t m (record { turn = k.turn; inside = k.inside; before = k.before; has_it = sym (same k.turn k.inside k.before) ∙ k.has_it; minute = k.minute; its_minute = k.its_minute; own_minute = k.own_minute }))
    go (no l) = omega arith

module _ (T : Turns) (xs ys : List ℕ) (a : GreedyNumbers T xs) (b : GreedyNumbers T ys) where
  abbrev Same : ℕ → Type 0
  Same t = number_in xs t ≡ number_in ys t

  alike : (t : ℕ) → t < T.count → ((u : ℕ) → u < T.count → Before T u t → Same u) → Same t
  alike t m same = omega (arith, no_smaller T xs ys a b t m same, no_smaller T ys xs b a t m (λ u l p. sym (same u l p)))

  -- turns that start in minute `minute`, once those that start earlier are alike
  in_minute : (minute : ℕ) → ((u : ℕ) → u < T.count → T.start u < minute → Same u) → (bound t : ℕ) → t < bound → t < T.count → T.start t ≡ minute → Same t
  in_minute minute earlier zero t l m e = absurd (omega arith)
  in_minute minute earlier (suc bound) t l m e = alike t m (λ u n p. go u n p (ℕ_discrete (T.start u) minute) (in_minute minute earlier bound u))
    where
      go : (u : ℕ) → u < T.count → Before T u t → Dec (T.start u ≡ minute) → (u < bound → u < T.count → T.start u ≡ minute → Same u) → Same u
      go u n p (yes q) ih = ih (omega (arith, p.ties (q ∙ sym e))) n q
      go u n p (no q) ih = earlier u n (omega (arith, p.values))

  up_to_minute : (minute t : ℕ) → t < T.count → T.start t < minute → Same t
  up_to_minute zero t m l = absurd (omega arith)
  up_to_minute (suc minute) t m l = go (ℕ_discrete (T.start t) minute) (up_to_minute minute)
    where
      go : Dec (T.start t ≡ minute) → ((u : ℕ) → u < T.count → T.start u < minute → Same u) → Same t
      go (yes q) ih = in_minute minute ih (suc t) t (omega arith) m q
      go (no q) ih = ih t m (omega arith)

  pub greedy_unique : xs ≡ ys
  greedy_unique = ext_get_or 0 xs ys (a.places ∙ sym b.places) (λ t l. up_to_minute (suc (T.start t)) t (omega (arith, a.places)) (omega arith))
