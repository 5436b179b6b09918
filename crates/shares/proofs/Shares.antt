-- A step by shares by its cases: a share, the table of shares, what one window loses, and what the loop over the windows keeps. Assumes nothing.
use mathlib.Core.Path.{◌≡◌, sym, ◌∙◌}
use mathlib.Core.Bool.{Bool, true, false, cond}
use mathlib.Core.List.{List}
use Prim.Native.Nat.{ℕ, ◌+◌, ◌-◌, ◌*◌, ◌/◌, ◌≤◌, ◌<◌}
use native.Mathlib.Omega.{arith}
use native.Mathlib.Nat.{div-add-mod', mul-le-mul_right, lt_of_mul-lt-mul_left}
use lib.IntN.{ℤ}
use lib.ListN.{get_or, set, length-set}
use borrow.Author.Tests.{eq-eqb, ne_eqb}
use Rattle.lists.proofs.Places.{put_more}
use Rattle.turn.specs.Turn.{most_worth}
use Rattle.model.specs.Turns.{overlapping}
use Rattle.model.specs.Steps.{residual, lessened, after_step_by}
use Rattle.instance.specs.declared.ways.Row.{Row}
use Rattle.instance.specs.declared.columns.Size.{Size}
use Rattle.instance.specs.Columns.{row_in}
use Rattle.instance.proofs.Rows.{slope_at, groomer_at, start_at, end_at}
use Rattle.local_ratio.specs.Bounds.{Small, Residuals, ClosedTo}
use Rattle.local_ratio.specs.Blocks.{Stepped}
use Rattle.local_ratio.proofs.Blocks.{stepped_none, stepped_more, stepped_done}
use Rattle.local_ratio.proofs.Steps.{closed_after}
use Rattle.charge_spec.specs.Hall.{hall_gap, most_units, same_vehicle, share_minute}
use Rattle.charge_spec.specs.Plan.{rounded_up, small_takes}
use Rattle.shares.specs.Taking.{hall_by, row_takes, SharesTo, SharesBy, HalfDraws}

-- ---- a share of the amount

module _ (units draw amount : ℕ) {d m u : ℕ} (e : d ≡ draw) (f : m ≡ amount) (g : u ≡ units) (l : u < 65536) (h : 2 * draw ≤ units) (k : amount ≤ most_worth) where
  by_units : 2 * d * m ≤ u * m
  by_units = mul-le-mul_right m (omega arith)

  module _ (n : 1 ≤ units) where
    pub share_least : (2 * d * m + (u - 1)) / u ≤ amount
    share_least =
        let below : u * ((2 * d * m + (u - 1)) / u) < u * (m + 1) = omega (arith, div-add-mod' (2 * d * m + (u - 1)) u, by_units) in
        omega (arith, lt_of_mul-lt-mul_left u below)

  pub share_rounded : (2 * d * m + (u - 1)) / u ≡ rounded_up (2 * draw * amount) units
  unfolding rounded_up
  share_rounded = rw (e, f, g)

pub ruleset share_cases = (share_least, share_rounded)

-- ---- the table of shares

module _ (units amount : ℕ) where
  pub table_more : (k : ℕ) (shares : List ℕ) {share : ℕ} → 2 * k ≤ units → units ≤ most_units → share ≡ rounded_up (2 * k * amount) units → share ≤ amount → SharesTo units amount k shares → SharesTo units amount (k + 1) (set shares k share)
  table_more k shares {share} h u e f c =
      record {
        places = length-set shares k share ∙ c.places;
        each =
            put_more (λ d x. 2 * d ≤ units → (x ≡ rounded_up (2 * d * amount) units) × (x ≤ amount)) shares k share
            (omega (arith, c.places)) c.each (λ m. (e, f));
      }

-- ---- from one window

module _ (units amount : ℕ) (x y : Row) {shares : List ℕ} (c : SharesBy units amount shares) (h : 2 * y.groomer ≤ units) where
  pub take_vehicle : x.slope ≡ y.slope → amount ≡ row_takes units x amount y
  unfolding row_takes
  take_vehicle e = rw (eq-eqb x.slope y.slope e)

  module _ {b : Bool} {part : ℕ} (f : b ≡ overlapping hall_gap x.start x.end y.start y.end) (g : part ≡ cond b (get_or shares y.groomer 0) 0) where
    pub take_part : (x.slope ≡ y.slope → ⊥) → part ≡ row_takes units x amount y
    unfolding row_takes
    take_part e = rw (ne_eqb x.slope y.slope e, ← f, ← (c.each y.groomer h).0) g

    pub take_most : part ≤ amount
    take_most = rw g (go b)
      where
        go : (d : Bool) → cond d (get_or shares y.groomer 0) 0 ≤ amount
        go true = (c.each y.groomer h).1
        go false = omega arith

pub ruleset take_cases = (take_vehicle, take_part, take_most)

-- ---- over the windows, from one on

module _ (units : ℕ) (p : Size) (cols : List ℕ) where
  takes_is : (j amount t : ℕ) {x y : Row} → j < p.count → t < p.count → x ≡ row_in cols j → y ≡ row_in cols t → row_takes units x amount y ≡ small_takes (hall_by units p cols) j amount t
  unfolding row_takes small_takes same_vehicle share_minute
  takes_is j amount t k l e f =
      rw (slope_at p cols j k e, slope_at p cols t l f, start_at p cols j k e, start_at p cols t l f, end_at p cols j k e, end_at p cols t l f, groomer_at p cols t l f)

  pub half_draw : (t : ℕ) {y : Row} → t < p.count → y ≡ row_in cols t → HalfDraws units p cols → 2 * y.groomer ≤ units
  half_draw t l e h = omega (arith, groomer_at p cols t l e, h.draws t l)

  module _ (j amount : ℕ) where
    pub shares_start : (from : ℕ) (s : List ℤ) → Stepped (small_takes (hall_by units p cols)) j amount from from s s
    shares_start = stepped_none (small_takes (hall_by units p cols)) j amount

    pub shares_more : (from t : ℕ) (s₀ s : List ℤ) {x y : Row} {less : ℕ} {s' : List ℤ} → j < p.count → t < p.count → x ≡ row_in cols j → y ≡ row_in cols t → less ≡ row_takes units x amount y
        → s' ≡ set s t (lessened less (residual s t)) → Residuals p.count s → Stepped (small_takes (hall_by units p cols)) j amount from t s₀ s → Stepped (small_takes (hall_by units p cols)) j amount from (t + 1) s₀ s'
    shares_more from t s₀ s k l e f g q r i =
        stepped_more (small_takes (hall_by units p cols)) j amount from t s₀ s (q ∙ rw (g, takes_is j amount t k l e f)) l r.size i

    module _ (from t : ℕ) (s₀ s : List ℤ) (h : p.count ≤ t) (l : t ≤ p.count) (c : ClosedTo from s₀) (r : Residuals p.count s) (i : Stepped (small_takes (hall_by units p cols)) j amount from t s₀ s) where
      pub shares_done : s ≡ after_step_by (small_takes (hall_by units p cols)) s₀ (record { turn = j; amount = amount })
      shares_done = let q : t ≡ p.count = omega arith in stepped_done (small_takes (hall_by units p cols)) j amount from s₀ s c r.size (rw q at i)

      pub shares_closed : Residuals p.count s₀ → ClosedTo from s
      shares_closed b = closed_after (small_takes (hall_by units p cols)) s₀ (record { turn = j; amount = amount }) from c shares_done (r.size ∙ sym b.size)

-- one residual changed leaves as many
pub lessened_kept : {n : ℕ} (s : List ℤ) (t less : ℕ) {s' : List ℤ} → s' ≡ set s t (lessened less (residual s t)) → Small s' → Residuals n s → Residuals n s'
lessened_kept s t less f k b = record { size = rw f (length-set s t (lessened less (residual s t)) ∙ b.size); small = k }

pub ruleset shares_cases = (half_draw, shares_start, shares_more, shares_done, shares_closed, lessened_kept)
