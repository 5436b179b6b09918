-- Draws stay where they can be drawn, and each drawn turn is in range. Assumes nothing.
use Prim.Native.Nat.{ℕ, zero, suc, ◌+◌, ◌*◌, ◌/◌, ◌%◌, ◌<◌, ◌≤◌}
use mathlib.Core.Path.{◌≡◌, refl, sym, ◌∙◌, ap}
use mathlib.Core.Bool.{Bool, true, false, cond}
use native.Mathlib.Omega.{arith}
use native.Mathlib.Nat.{mod-lt, add-mul-mod_self_left}
use lib.Dec.{ltb}
use lib.ListN.{length, get_or}
use borrow.Author.Tests.{ltb-true, ltb-false, lt-ltb, le-ltb}
use Rattle.lists.specs.Lists.{All}
use Rattle.turn.specs.declared.Turn.{Turn}
use Rattle.turn.specs.declared.Counts.{Counts}
use Rattle.turn.specs.Turn.{most_worth, InRange}
use Rattle.draw_spec.specs.Draw.{draw_factor, draw_modulus, next_draw, draw_number, drawn_length, length_places, from_one, turn_drawn, turn_draws, turn_after, drawn_turns, Drawable, LengthAt, half_hour, three_quarters, whole_hour, longest, FieldsDrawn}

-- ---- the generator

-- the factor times this is 1 more than the modulus times that
abbrev inverse : ℕ
inverse = 1407677000

abbrev wholes : ℕ
wholes = 11017

-- so if the factor times x were the modulus times q, x would be the modulus times inverse * q - wholes * x: none, or too much
draw_positive : (x : ℕ) → Drawable x → 1 ≤ draw_factor * x % draw_modulus
draw_positive x d = go (ltb (wholes * x) (inverse * (draw_factor * x / draw_modulus))) refl
  where
    go : (b : Bool) → ltb (wholes * x) (inverse * (draw_factor * x / draw_modulus)) ≡ b → 1 ≤ draw_factor * x % draw_modulus
    go true e = omega (arith, d.to, ltb-true (wholes * x) (inverse * (draw_factor * x / draw_modulus)) e)
    go false e = omega (arith, d.from, ltb-false (wholes * x) (inverse * (draw_factor * x / draw_modulus)) e)

pub draw_drawable : (x : ℕ) → Drawable x → Drawable (next_draw x)
unfolding next_draw
draw_drawable x d = record { from = draw_positive x d; to = omega arith }

pub number_drawable : (k x : ℕ) → Drawable x → Drawable (draw_number k x)
unfolding draw_number
number_drawable zero x d = d
number_drawable (suc k) x d = number_drawable k (next_draw x) (draw_drawable x d)

-- draws from a draw on are draws from the seed on
pub number_add : (j k x : ℕ) → draw_number k (draw_number j x) ≡ draw_number (j + k) x
unfolding draw_number
number_add zero k x = let e : 0 + k ≡ k = omega arith in rw e
number_add (suc j) k x = let e : suc j + k ≡ suc (j + k) = omega arith in rw e (number_add j k (next_draw x))

-- ---- draws further on, each from x by one product: the factor times a power of it is the next power, but for a multiple of the modulus

same_remainder : (a b j k : ℕ) → a + draw_modulus * j ≡ b + draw_modulus * k → a % draw_modulus ≡ b % draw_modulus
same_remainder a b j k e = sym (add-mul-mod_self_left a draw_modulus j) ∙ ap (λ (n : ℕ). n % draw_modulus) e ∙ add-mul-mod_self_left b draw_modulus k

second_step : (x : ℕ) → next_draw (16807 * x % draw_modulus) ≡ 282475249 * x % draw_modulus
unfolding next_draw
second_step x = same_remainder (draw_factor * (16807 * x % draw_modulus)) (282475249 * x) (draw_factor * (16807 * x / draw_modulus)) (0 * x) (omega arith)

third_step : (x : ℕ) → next_draw (282475249 * x % draw_modulus) ≡ 1622650073 * x % draw_modulus
unfolding next_draw
third_step x = same_remainder (draw_factor * (282475249 * x % draw_modulus)) (1622650073 * x) (draw_factor * (282475249 * x / draw_modulus)) (2210 * x) (omega arith)

fourth_step : (x : ℕ) → next_draw (1622650073 * x % draw_modulus) ≡ 984943658 * x % draw_modulus
unfolding next_draw
fourth_step x = same_remainder (draw_factor * (1622650073 * x % draw_modulus)) (984943658 * x) (draw_factor * (1622650073 * x / draw_modulus)) (12699 * x) (omega arith)

fifth_step : (x : ℕ) → next_draw (984943658 * x % draw_modulus) ≡ 1144108930 * x % draw_modulus
unfolding next_draw
fifth_step x = same_remainder (draw_factor * (984943658 * x % draw_modulus)) (1144108930 * x) (draw_factor * (984943658 * x / draw_modulus)) (7708 * x) (omega arith)

-- one draw more
number_next : (k x : ℕ) → draw_number (suc k) x ≡ next_draw (draw_number k x)
unfolding draw_number
number_next zero x = refl
number_next (suc k) x = number_next k (next_draw x)

pub number_one : (x : ℕ) → draw_number 1 x ≡ 16807 * x % draw_modulus
unfolding draw_number next_draw
number_one x = refl

pub number_two : (x : ℕ) → draw_number 2 x ≡ 282475249 * x % draw_modulus
number_two x = number_next 1 x ∙ ap next_draw (number_one x) ∙ second_step x

pub number_three : (x : ℕ) → draw_number 3 x ≡ 1622650073 * x % draw_modulus
number_three x = number_next 2 x ∙ ap next_draw (number_two x) ∙ third_step x

pub number_four : (x : ℕ) → draw_number 4 x ≡ 984943658 * x % draw_modulus
number_four x = number_next 3 x ∙ ap next_draw (number_three x) ∙ fourth_step x

pub number_five : (x : ℕ) → draw_number 5 x ≡ 1144108930 * x % draw_modulus
number_five x = number_next 4 x ∙ ap next_draw (number_four x) ∙ fifth_step x

pub ten_thousandth : draw_number 10000 1 ≡ 1043618065
unfolding draw_number next_draw
ten_thousandth = refl

-- ---- a turn

pub from_one_range : (count d : ℕ) → 1 ≤ count → (1 ≤ from_one count d) × (from_one count d ≤ count)
from_one_range count d h = let l : d % count < count = mod-lt d h in (omega arith, omega arith)

length_range : (p : ℕ) → (1 ≤ drawn_length p) × (drawn_length p ≤ 90)
unfolding drawn_length
length_range p = go (ltb p 40) (ltb p 70) (ltb p 90)
  where
    go : (a b c : Bool) → (1 ≤ cond a 30 (cond b 45 (cond c 60 90))) × (cond a 30 (cond b 45 (cond c 60 90)) ≤ 90)
    go true b c = (omega arith, omega arith)
    go false true c = (omega arith, omega arith)
    go false false true = (omega arith, omega arith)
    go false false false = (omega arith, omega arith)

module _ (counts : Counts) (g : 1 ≤ counts.groomers) (s : 1 ≤ counts.slopes) where
  -- whatever the draws are
  pub drawn_in_range : (slope groomer start minutes worth : ℕ) → InRange counts (turn_drawn counts slope groomer start minutes worth)
  unfolding turn_drawn
  drawn_in_range slope groomer start minutes worth =
      let a = from_one_range counts.slopes slope s in
      let b = from_one_range counts.groomers groomer g in
      let l = length_range (minutes % length_places) in
      let w = from_one_range most_worth worth (omega arith) in
      record {
        slope_from = a.0;
        slope_to = a.1;
        groomer_from = b.0;
        groomer_to = b.1;
        length_from = l.0;
        end_to = omega (arith, l.1);
        worth_from = w.0;
        worth_to = w.1;
        driver_to = omega arith;
      }

  pub drawn_all : (n x : ℕ) → All (InRange counts) (drawn_turns n counts x)
  unfolding drawn_turns turn_after
  drawn_all zero x = All.none
  drawn_all (suc n) x =
      All.more (drawn_in_range _ _ _ _ _) (drawn_all n (draw_number turn_draws x))

-- ---- the turns: as many as asked for, and turn i is that of the draws 5 i + 1 to 5 i + 5

pub drawn_length_lem : (n : ℕ) (counts : Counts) (x : ℕ) → length (drawn_turns n counts x) ≡ n
unfolding drawn_turns
drawn_length_lem zero counts x = refl
drawn_length_lem (suc n) counts x = let e = drawn_length_lem n counts (draw_number turn_draws x) in omega arith

number_none : (x : ℕ) → draw_number 0 x ≡ x
unfolding draw_number
number_none x = refl

pub drawn_at_lem : (n : ℕ) (counts : Counts) (x i : ℕ) (d : Turn) → i < n → get_or (drawn_turns n counts x) i d ≡ turn_after counts (draw_number (turn_draws * i) x)
unfolding drawn_turns
drawn_at_lem zero counts x i d h = absurd (omega arith)
drawn_at_lem (suc n) counts x zero d h = rw (number_none x)
drawn_at_lem (suc n) counts x (suc i) d h =
    let e : turn_draws * suc i ≡ turn_draws + turn_draws * i = omega arith in
    rw (e, ← number_add) (drawn_at_lem n counts (draw_number turn_draws x) i d (omega arith))

length_at : (p : ℕ) → LengthAt p (drawn_length p)
unfolding drawn_length
length_at p = go (ltb p 40) (ltb p 70) (ltb p 90) refl refl refl
  where
    go : (a b c : Bool) → ltb p 40 ≡ a → ltb p 70 ≡ b → ltb p 90 ≡ c → LengthAt p (cond a 30 (cond b 45 (cond c 60 90)))
    go true b c e f g = half_hour {p = p} (omega (arith, ltb-true p 40 e))
    go false true c e f g = three_quarters {p = p} (ltb-false p 40 e) (omega (arith, ltb-true p 70 f))
    go false false true e f g = whole_hour {p = p} (ltb-false p 70 f) (omega (arith, ltb-true p 90 g))
    go false false false e f g = longest {p = p} (ltb-false p 90 g)

-- the turn of the five draws after draw number 5 k
fields_after : (counts : Counts) (seed k : ℕ) → FieldsDrawn counts seed k (turn_after counts (draw_number (5 * k) seed))
unfolding turn_after turn_drawn
fields_after counts seed k =
    let at : (j : ℕ) → draw_number j (draw_number (5 * k) seed) ≡ draw_number (5 * k + j) seed = λ j. number_add (5 * k) j seed in
    record {
      slope = ap (λ (d : ℕ). 1 + d % counts.slopes) (at 1);
      groomer = ap (λ (d : ℕ). 1 + d % counts.groomers) (at 2);
      start = ap (λ (d : ℕ). d % 841) (at 3);
      length = rw (at 4) (length_at (draw_number (5 * k + 4) seed % 100));
      worth = ap (λ (d : ℕ). 1 + d % 60000) (at 5);
      driver = refl;
    }

-- turn k has the values that the draws 5 k + 1 to 5 k + 5 give
pub drawn_fields : (n : ℕ) (counts : Counts) (seed k : ℕ) (d : Turn) → k < n → FieldsDrawn counts seed k (get_or (drawn_turns n counts seed) k d)
drawn_fields n counts seed k d h = rw (drawn_at_lem n counts seed k d h) (fields_after counts seed k)

-- ---- a length by its place

module _ (p : ℕ) where
  pub length_first : p ≤ 39 → 30 ≡ drawn_length p
  unfolding drawn_length
  length_first h = rw (lt-ltb p 40 (omega arith))

  pub length_second : 40 ≤ p → p ≤ 69 → 45 ≡ drawn_length p
  unfolding drawn_length
  length_second h k = rw (le-ltb p 40 h, lt-ltb p 70 (omega arith))

  pub length_third : 70 ≤ p → p ≤ 89 → 60 ≡ drawn_length p
  unfolding drawn_length
  length_third h k = rw (le-ltb p 40 (omega arith), le-ltb p 70 h, lt-ltb p 90 (omega arith))

  pub length_fourth : 90 ≤ p → 90 ≡ drawn_length p
  unfolding drawn_length
  length_fourth h = rw (le-ltb p 40 (omega arith), le-ltb p 70 (omega arith), le-ltb p 90 h)
