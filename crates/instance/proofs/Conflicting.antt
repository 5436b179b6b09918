-- The ways in which two turns conflict, by their rows. Assumes nothing.
use mathlib.Core.Path.{◌≡◌, refl}
use mathlib.Core.Bool.{Bool, ◌&&◌, ◌||◌}
use Prim.Native.Nat.{ℕ, ◌+◌}
use lib.Dec.{ltb, eqb}
use Rattle.model.specs.Turns.{Turns, overlapping, overlap, by_slope, one_groomer, by_groomer, one_driver, by_driver, conflict}
use Rattle.instance.specs.declared.ways.Row.{Row}
use Rattle.instance.specs.declared.ways.Ways.{Ways}
use Rattle.instance.specs.Ways.{turn_row, shared_of, ways_of, conflicting}

-- ---- as the code leaves them

pub overlap_is : (gap start end from until : ℕ) {a b c d g h : ℕ} → a ≡ start → b ≡ until → g ≡ gap → c ≡ from → d ≡ end → h ≡ gap → (ltb a (b + g) && ltb c (d + h)) ≡ overlapping gap start end from until
unfolding overlapping
overlap_is gap start end from until p q r s t u = rw (p, q, r, s, t, u)

pub shared_is : (x y : Row) → ◌≡◌ {A = Ways} (record { slope = eqb x.slope y.slope; groomer = eqb x.groomer y.groomer; driver = ltb 0 x.driver && eqb x.driver y.driver }) (shared_of x y)
unfolding shared_of
shared_is x y = refl

pub ways_are : (gap : ℕ) (x y : Row) {c : Ways} {m : Bool} → c ≡ shared_of x y → m ≡ overlapping gap x.start x.end y.start y.end → ◌≡◌ {A = Ways} (record { slope = c.slope; groomer = c.groomer && m; driver = c.driver && m }) (ways_of gap x y)
unfolding ways_of
ways_are gap x y e f = rw (e, f)

pub any_is : (gap : ℕ) (x y : Row) {w : Ways} → w ≡ ways_of gap x y → (w.slope || (w.groomer || w.driver)) ≡ conflicting gap x y
unfolding conflicting
any_is gap x y e = rw e

pub ruleset ways_cases = (overlap_is, shared_is, ways_are, any_is)

-- ---- as the model says them

pub rows_conflict : (T : Turns) (x y : ℕ) → conflicting T.gap (turn_row T x) (turn_row T y) ≡ conflict T x y
unfolding conflicting ways_of shared_of turn_row conflict by_slope one_groomer by_groomer one_driver by_driver overlap
rows_conflict T x y = refl

pub shared_groomer : (T : Turns) (x y : ℕ) → (shared_of (turn_row T x) (turn_row T y)).groomer ≡ one_groomer T x y
unfolding shared_of turn_row one_groomer
shared_groomer T x y = refl

pub shared_driver : (T : Turns) (x y : ℕ) → (shared_of (turn_row T x) (turn_row T y)).driver ≡ one_driver T x y
unfolding shared_of turn_row one_driver
shared_driver T x y = refl
