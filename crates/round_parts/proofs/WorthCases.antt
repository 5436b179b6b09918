-- What the turns of a map are worth, by cases in the form in which the code's loop leaves them. Assumes nothing.
use Prim.Native.Nat.{ℕ, zero, suc, ◌+◌, ◌-◌, ◌*◌, ◌≤◌, ◌<◌}
use mathlib.Core.Path.{◌≡◌, sym, ap, ◌∙◌}
use mathlib.Core.Bool.{Bool, true, false, cond}
use mathlib.Core.List.{List}
use native.Mathlib.Omega.{arith}
use native.Mathlib.Nat.{suc-mul}
use native.Mathlib.Numerals.{add-one}
use mir.Syntax.{w32}
use mir.Val.{Fits}
use lib.ListN.{length}
use Rattle.lists.specs.Lists.{sum_over, below}
use Rattle.lists.proofs.Sums.{sum_zero, sum_same, sum_split, all_below}
use Rattle.turn.specs.Turn.{most_worth}
use Rattle.model.specs.Turns.{Turns}
use Rattle.model.specs.Choice.{has, chosen}
use Rattle.choice_map.specs.Choice.{chosen_in, choice_in, next_chosen, Clean}
use Rattle.choice_map.proofs.Clean.{choice_has, clean_bits, clear_bits}
use Rattle.choice_map.proofs.NextChosen.{next_from, next_clear, next_chosen_lem}
use Rattle.instance.specs.declared.ways.Row.{Row}
use Rattle.instance.specs.declared.columns.Size.{Size}
use Rattle.instance.specs.Columns.{row_in, turns_by, Held}
use Rattle.instance.proofs.Rows.{worth_at}

-- what the turns before t that a map has chosen are worth
unfoldable pub worth_before : Turns → List ℕ → ℕ → ℕ
worth_before T map t = sum_over (λ u. cond (chosen_in map u) (T.worth u) 0) (below t)

-- they are summed up, and t is the next of them
pub record WorthTo (p : Size) (cols map : List ℕ) (sum_over t : ℕ) : Type 0 where
  pub within : t ≤ 8 * length map
  pub here : t < p.count → chosen_in map t ≡ true
  pub is : sum_over ≡ worth_before (turns_by p cols) map t

module _ (T : Turns) (map : List ℕ) where
  -- turns that are not chosen may be passed over
  worth_skip : (a b : ℕ) → a ≤ b → ((u : ℕ) → a ≤ u → u < b → chosen_in map u ≡ false) → worth_before T map b ≡ worth_before T map a
  unfolding worth_before
  worth_skip a b l h =
      let e : b ≡ a + (b - a) = omega arith in
      let p : worth_before T map b ≡ worth_before T map (a + (b - a)) = ap (worth_before T map) e in
      let rest : sum_over (λ u. cond (chosen_in map (a + u)) (T.worth (a + u)) 0) (below (b - a)) ≡ 0 =
      sum_zero (λ u. cond (chosen_in map (a + u)) (T.worth (a + u)) 0) (all_below (b - a) (λ u k. rw (h (a + u) (omega arith) (omega arith)))) in
      omega (arith, p, rest, sum_split (λ u. cond (chosen_in map u) (T.worth u) 0) a (b - a))

  worth_one : (t : ℕ) → chosen_in map t ≡ true → worth_before T map (t + 1) ≡ T.worth t + worth_before T map t
  unfolding worth_before
  worth_one t e = rw (add-one t, e)

  worth_most : (n : ℕ) → ((u : ℕ) → u < n → T.worth u ≤ most_worth) → worth_before T map n ≤ n * most_worth
  unfolding worth_before
  worth_most zero h = omega arith
  worth_most (suc n) h = omega (arith, suc-mul n most_worth, worth_most n (λ u l. h u (omega arith)), one (chosen_in map n) (h n (omega arith)))
    where
      one : (b : Bool) {x : ℕ} → x ≤ most_worth → cond b x 0 ≤ most_worth
      one true l = l
      one false l = omega arith

module _ (p : Size) (cols map : List ℕ) (w : Held p cols) (c : Clean p.count map) where
  abbrev T : Turns
  T = turns_by p cols

  next_here : (t : ℕ) {u : ℕ} → u ≡ next_chosen map t → u < p.count → chosen_in map u ≡ true
  next_here t e l = let k : next_chosen map t < 8 * length map = omega (arith, e, clean_bits c) in rw e (next_chosen_lem map t k)

  pub worth_start : {t : ℕ} → t ≡ next_chosen map 0 → t ≤ 8 * length map → WorthTo p cols map 0 t
  unfolding worth_before
  worth_start {t} e l = record { within = l; here = next_here 0 e; is = sym (worth_skip T map 0 t (omega arith) (λ u a b. next_clear map 0 u a (omega (arith, e)))) }

  module _ {t : ℕ} (l : t < p.count) where
    pub worth_less : {u : ℕ} → u ≡ next_chosen map (t + 1) → 8 * length map - u < 8 * length map - t
    worth_less e = omega (arith, e, next_from map (t + 1), clean_bits c)

    module _ {s x : ℕ} {a : Row} (k : WorthTo p cols map s t) (e : a ≡ row_in cols t) (f : x ≡ a.worth) where
      pub worth_fits : Fits w32 (s + x)
      worth_fits = omega (arith, k.is, f, worth_at p cols t l e, w.worths t l, w.few, worth_most T map t (λ u h. w.worths u (omega arith)))

      pub worth_more : {u : ℕ} → u ≡ next_chosen map (t + 1) → u ≤ 8 * length map → WorthTo p cols map (s + x) u
      worth_more {u} g m =
          let n : t + 1 ≤ u = omega (arith, g, next_from map (t + 1), clean_bits c) in
          record {
            within = m;
            here = next_here (t + 1) g;
            is = omega (arith, k.is, f, worth_at p cols t l e, worth_one T map t (k.here l), worth_skip T map (t + 1) u n (λ v i j. next_clear map (t + 1) v i (omega (arith, g))));
          }

  pub worth_done : {t s : ℕ} → p.count ≤ t → WorthTo p cols map s t → s ≡ chosen p.count (choice_in p.count map) (turns_by p cols).worth
  unfolding worth_before chosen
  worth_done {t} l k =
      k.is ∙ worth_skip T map p.count t l (λ u a b. clear_bits p.count map c.clear u a (omega (arith, k.within, c.size)))
      ∙ sum_same (λ u. cond (chosen_in map u) (T.worth u) 0) (λ u. cond (has (choice_in p.count map) u) (T.worth u) 0) p.count (λ u h. ap (λ (b : Bool). cond b (T.worth u) 0) (sym (choice_has p.count map u h)))

pub ruleset worth_cases = (worth_start, worth_less, worth_fits, worth_more, worth_done)
