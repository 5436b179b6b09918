-- The writer's map: what its bits say, and that no map for the same turn has fewer. Assumes nothing.
use Prim.Native.Nat.{ℕ, ◌+◌, ◌*◌, ◌/◌, ◌%◌, ◌≤◌}
use mathlib.Core.Path.{◌≡◌, refl, sym, ◌∙◌}
use mathlib.Core.Bool.{Bool, true, false, cond, true≢false}
use mathlib.Core.Logic.{◌⊎◌, inl, inr, ◌↔◌, ◌≢◌}
use native.Mathlib.Omega.{arith}
use lib.Dec.{eqb}
use borrow.Author.Tests.{eq-eqb, ne_eqb, eqb-true, eqb-false}
use Rattle.turn.specs.declared.Turn.{Turn}
use Rattle.sheet.specs.Kind.{first_map, full_map, shift_sheet}
use Rattle.sheet.specs.Record.{width_of, first_cursor}
use Rattle.write_spec.specs.Write.{differs, map_for}
use Rattle.sheet.specs.Accepted.{GoodMap, Carried}

-- ---- one bit

pub differs_bit : (a b : ℕ) → differs a b ≤ 1
differs_bit a b = go (eqb a b)
  where
    go : (t : Bool) → cond t 0 1 ≤ 1
    go true = omega arith
    go false = omega arith

differs_none : (a b : ℕ) → differs a b ≡ 0 → a ≡ b
differs_none a b e = go (eqb a b) refl e
  where
    go : (t : Bool) → eqb a b ≡ t → ◌≡◌ {A = ℕ} (cond t 0 1) 0 → a ≡ b
    go true q h = eqb-true a b q
    go false q h = absurd (omega arith)

-- a bit that stands where two values differ is at least that
differs_least : (a b bit : ℕ) → (bit ≡ 0 → a ≡ b) → differs a b ≤ bit
differs_least a b bit h = go (eqb bit 0) refl
  where
    go : (t : Bool) → eqb bit 0 ≡ t → differs a b ≤ bit
    go true q = rw (eq-eqb a b (h (eqb-true bit 0 q))) (omega arith)
    go false q = omega (arith, differs_bit a b, eqb-false bit 0 q)

-- ---- six bits

-- a map below 64 is the sum of its bits
digits : (b0 b1 b2 b3 b4 b5 : ℕ) {m q1 q2 q3 q4 q5 : ℕ} → m ≡ b0 + 2 * q1 → q1 ≡ b1 + 2 * q2 → q2 ≡ b2 + 2 * q3 → q3 ≡ b3 + 2 * q4 → q4 ≡ b4 + 2 * q5 → q5 ≡ b5 → m ≡ b0 + 2 * b1 + 4 * b2 + 8 * b3 + 16 * b4 + 32 * b5
digits b0 b1 b2 b3 b4 b5 e0 e1 e2 e3 e4 e5 = omega arith

map_sum : (m : ℕ) → m ≤ full_map → m ≡ m % 2 + 2 * (m / 2 % 2) + 4 * (m / 4 % 2) + 8 * (m / 8 % 2) + 16 * (m / 16 % 2) + 32 * (m / 32 % 2)
map_sum m h =
    let e0 : m ≡ m % 2 + 2 * (m / 2) = omega arith in
    let e1 : m / 2 ≡ m / 2 % 2 + 2 * (m / 4) = omega arith in
    let e2 : m / 4 ≡ m / 4 % 2 + 2 * (m / 8) = omega arith in
    let e3 : m / 8 ≡ m / 8 % 2 + 2 * (m / 16) = omega arith in
    let e4 : m / 16 ≡ m / 16 % 2 + 2 * (m / 32) = omega arith in
    let e5 : m / 32 ≡ m / 32 % 2 = omega arith in
    digits (m % 2) (m / 2 % 2) (m / 4 % 2) (m / 8 % 2) (m / 16 % 2) (m / 32 % 2) e0 e1 e2 e3 e4 e5

pub record Bits (m b0 b1 b2 b3 b4 b5 : ℕ) : Type 0 where
  pub slope : m % 2 ≡ b0
  pub groomer : m / 2 % 2 ≡ b1
  pub start : m / 4 % 2 ≡ b2
  pub length : m / 8 % 2 ≡ b3
  pub worth : m / 16 % 2 ≡ b4
  pub driver : m / 32 % 2 ≡ b5

sum_bits : (b0 b1 b2 b3 b4 b5 : ℕ) → b0 ≤ 1 → b1 ≤ 1 → b2 ≤ 1 → b3 ≤ 1 → b4 ≤ 1 → b5 ≤ 1 → Bits (b0 + 2 * b1 + 4 * b2 + 8 * b3 + 16 * b4 + 32 * b5) b0 b1 b2 b3 b4 b5
sum_bits b0 b1 b2 b3 b4 b5 h0 h1 h2 h3 h4 h5 = record { slope = omega arith; groomer = omega arith; start = omega arith; length = omega arith; worth = omega arith; driver = omega arith }

-- ---- the map that is written

module _ (p t : Turn) where
  first_bits : Bits (map_for true p t) 1 1 1 1 1 (differs p.driver t.driver)
  unfolding map_for
  first_bits = sum_bits 1 1 1 1 1 _ (omega arith) (omega arith) (omega arith) (omega arith) (omega arith) (differs_bit p.driver t.driver)

  pub later_bits : Bits (map_for false p t) (differs p.slope t.slope) (differs p.groomer t.groomer) (differs p.start t.start) (differs p.length t.length) (differs p.worth t.worth) (differs p.driver t.driver)
  unfolding map_for
  later_bits =
      sum_bits _ _ _ _ _ _ (differs_bit p.slope t.slope) (differs_bit p.groomer t.groomer) (differs_bit p.start t.start) (differs_bit p.length t.length) (differs_bit p.worth t.worth) (differs_bit p.driver t.driver)

  first_one : (map_for true p t ≡ first_map) ⊎ (map_for true p t ≡ full_map)
  unfolding map_for
  first_one = go (eqb p.driver t.driver)
    where
      go : (b : Bool) → (first_map + 32 * cond b 0 1 ≡ first_map) ⊎ (first_map + 32 * cond b 0 1 ≡ full_map)
      go true = inl refl
      go false = inr refl

  map_most : (first : Bool) → map_for first p t ≤ full_map
  unfolding map_for
  map_most true = omega (arith, differs_bit p.driver t.driver)
  map_most false =
      omega (
        arith,
        differs_bit p.slope t.slope,
        differs_bit p.groomer t.groomer,
        differs_bit p.start t.start,
        differs_bit p.length t.length,
        differs_bit p.worth t.worth,
        differs_bit p.driver t.driver,
      )

-- the first record of a sheet has the full map just if its turn has a driver
pub first_full_iff : (t : Turn) → (map_for true first_cursor.prev t ≡ full_map) ↔ (t.driver ≢ 0)
unfolding map_for first_cursor
first_full_iff t = (λ e z. absurd (to e z), λ n. rw (ne_eqb 0 t.driver (λ e. n (sym e))))
  where
    to : first_map + 32 * differs 0 t.driver ≡ full_map → t.driver ≡ 0 → ⊥
    to e z = let s = rw (eq-eqb 0 t.driver (sym z)) at e in omega arith

-- and the least that it may be if its turn has none
pub first_least : (t : Turn) → t.driver ≡ 0 → map_for true first_cursor.prev t ≡ first_map
unfolding map_for first_cursor
first_least t z = rw (eq-eqb 0 t.driver (sym z))

-- it is a map that the record may have
pub map_good : (first : Bool) (p t : Turn) → GoodMap shift_sheet.maps first (map_for first p t)
unfolding shift_sheet
map_good true p t = record { below = map_most p t true; full = λ e. first_one p t }
map_good false p t = record { below = map_most p t false; full = λ e. absurd (true≢false (sym e)) }

-- a field that it leaves out has the value of the turn before
pub map_carries : (first : Bool) (p t : Turn) → Carried (map_for first p t) p t
map_carries true p t =
    let b = first_bits p t in
    record {
      slope = λ e. absurd (omega (arith, b.slope));
      groomer = λ e. absurd (omega (arith, b.groomer));
      start = λ e. absurd (omega (arith, b.start));
      length = λ e. absurd (omega (arith, b.length));
      worth = λ e. absurd (omega (arith, b.worth));
      driver = λ e. differs_none p.driver t.driver (sym b.driver ∙ e);
    }
map_carries false p t =
    let b = later_bits p t in
    record {
      slope = λ e. differs_none p.slope t.slope (sym b.slope ∙ e);
      groomer = λ e. differs_none p.groomer t.groomer (sym b.groomer ∙ e);
      start = λ e. differs_none p.start t.start (sym b.start ∙ e);
      length = λ e. differs_none p.length t.length (sym b.length ∙ e);
      worth = λ e. differs_none p.worth t.worth (sym b.worth ∙ e);
      driver = λ e. differs_none p.driver t.driver (sym b.driver ∙ e);
    }

-- ---- no map for the same turn lacks a bit of it

record Within (m₀ m : ℕ) : Type 0 where
  slope : m₀ % 2 ≤ m % 2
  groomer : m₀ / 2 % 2 ≤ m / 2 % 2
  start : m₀ / 4 % 2 ≤ m / 4 % 2
  length : m₀ / 8 % 2 ≤ m / 8 % 2
  worth : m₀ / 16 % 2 ≤ m / 16 % 2
  driver : m₀ / 32 % 2 ≤ m / 32 % 2

-- a first map has every bit but the driver's
record Lowest (m : ℕ) : Type 0 where
  slope : 1 ≤ m % 2
  groomer : 1 ≤ m / 2 % 2
  start : 1 ≤ m / 4 % 2
  length : 1 ≤ m / 8 % 2
  worth : 1 ≤ m / 16 % 2

first_lowest : (m : ℕ) → (m ≡ first_map) ⊎ (m ≡ full_map) → Lowest m
first_lowest m (inl e) = rw e (record { slope = omega arith; groomer = omega arith; start = omega arith; length = omega arith; worth = omega arith })
first_lowest m (inr e) = rw e (record { slope = omega arith; groomer = omega arith; start = omega arith; length = omega arith; worth = omega arith })

shift_sheet_first : (m : ℕ) → GoodMap shift_sheet.maps true m → Lowest m
unfolding shift_sheet
shift_sheet_first m g = first_lowest m (g.full refl)

pub map_below : (first : Bool) (m : ℕ) → GoodMap shift_sheet.maps first m → m ≤ full_map
unfolding shift_sheet
map_below first m g = g.below

map_within : (first : Bool) (p t : Turn) (m : ℕ) → GoodMap shift_sheet.maps first m → Carried m p t → Within (map_for first p t) m
map_within true p t m g c =
    let b = first_bits p t in
    let l = shift_sheet_first m g in
    record {
      slope = rw b.slope l.slope;
      groomer = rw b.groomer l.groomer;
      start = rw b.start l.start;
      length = rw b.length l.length;
      worth = rw b.worth l.worth;
      driver = rw b.driver (differs_least p.driver t.driver (m / 32 % 2) c.driver);
    }
map_within false p t m g c =
    let b = later_bits p t in
    record {
      slope = rw b.slope (differs_least p.slope t.slope (m % 2) c.slope);
      groomer = rw b.groomer (differs_least p.groomer t.groomer (m / 2 % 2) c.groomer);
      start = rw b.start (differs_least p.start t.start (m / 4 % 2) c.start);
      length = rw b.length (differs_least p.length t.length (m / 8 % 2) c.length);
      worth = rw b.worth (differs_least p.worth t.worth (m / 16 % 2) c.worth);
      driver = rw b.driver (differs_least p.driver t.driver (m / 32 % 2) c.driver);
    }

-- so none is narrower, and one of the same width is the same map
within_width : {a0 a1 a2 a3 a4 a5 b0 b1 b2 b3 b4 b5 : ℕ} → a0 ≤ b0 → a1 ≤ b1 → a2 ≤ b2 → a3 ≤ b3 → a4 ≤ b4 → a5 ≤ b5 → a0 + a1 + 2 * a2 + 2 * a3 + 2 * a4 + a5 ≤ b0 + b1 + 2 * b2 + 2 * b3 + 2 * b4 + b5
within_width h0 h1 h2 h3 h4 h5 = omega arith

within_same : {a0 a1 a2 a3 a4 a5 b0 b1 b2 b3 b4 b5 : ℕ} → a0 ≤ b0 → a1 ≤ b1 → a2 ≤ b2 → a3 ≤ b3 → a4 ≤ b4 → a5 ≤ b5 → b0 + b1 + 2 * b2 + 2 * b3 + 2 * b4 + b5 ≤ a0 + a1 + 2 * a2 + 2 * a3 + 2 * a4 + a5
    → b0 + 2 * b1 + 4 * b2 + 8 * b3 + 16 * b4 + 32 * b5 ≡ a0 + 2 * a1 + 4 * a2 + 8 * a3 + 16 * a4 + 32 * a5
within_same h0 h1 h2 h3 h4 h5 l = omega arith

module _ (first : Bool) (p t : Turn) (m : ℕ) (g : GoodMap shift_sheet.maps first m) (c : Carried m p t) where
  pub written_least : width_of (map_for first p t) ≤ width_of m
  unfolding width_of
  written_least = let w = map_within first p t m g c in within_width w.slope w.groomer w.start w.length w.worth w.driver

  pub map_only : width_of m ≤ width_of (map_for first p t) → m ≡ map_for first p t
  unfolding width_of
  map_only h =
      let w = map_within first p t m g c in
      map_sum m (map_below first m g) ∙ within_same w.slope w.groomer w.start w.length w.worth w.driver h ∙ sym (map_sum (map_for first p t) (map_most p t first))
