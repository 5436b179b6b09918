-- The lines of the listing by their pieces, each premise in the form in which the code's calls leave it. Assumes nothing.
use Prim.Native.Nat.{ℕ, ◌+◌, ◌≤◌, ◌<◌}
use mathlib.Core.Path.{◌≡◌, ◌∙◌, sym}
use mathlib.Core.List.{List, [], ◌∷◌, ◌++◌, append_assoc}
use native.Mathlib.Omega.{arith}
use lib.ListN.{length}
use Rattle.wire.specs.Number.{puts}
use Rattle.text.specs.Decimal.{decimal}
use Rattle.text.specs.Place.{last_place}
use Rattle.model.specs.Turns.{Turns}
use Rattle.instance.specs.declared.ways.Row.{Row}
use Rattle.instance.specs.declared.columns.Size.{Size}
use Rattle.instance.specs.Columns.{row_in, turns_by}
use Rattle.instance.proofs.Rows.{slope_at, start_at, end_at, worth_at}
use Rattle.list_spec.specs.declared.Sums.{Sums}
use Rattle.list_spec.specs.Text.{labelled, two_labelled, heading_of, line_of, sums_line, groomer_word, slope_word, worth_word, sum_word, tally_word, ceiling_word, refused_word, hyphen, line_feed, refused_line}
use Rattle.list.proofs.Pieces.{first_fits, second_fits, both_place, both_put}

-- ---- a word and a number

module _ (word : List ℕ) (x at : ℕ) where
  pub word_fits : at + length (labelled word x) ≤ last_place → at + length word ≤ last_place
  unfolding labelled
  word_fits h = first_fits word (decimal x) at h

  module _ {next : ℕ} (e : next ≡ at + length word) where
    pub value_fits : at + length (labelled word x) ≤ last_place → next + length (decimal x) ≤ last_place
    unfolding labelled
    value_fits h = second_fits word (decimal x) at e h

    pub labelled_place : {r : ℕ} → r ≡ next + length (decimal x) → r ≡ at + length (labelled word x)
    unfolding labelled
    labelled_place f = both_place word (decimal x) at e f

    pub labelled_put : (l : List ℕ) {l₁ l₂ : List ℕ} → l₁ ≡ puts l at word → l₂ ≡ puts l₁ next (decimal x) → l₂ ≡ puts l at (labelled word x)
    unfolding labelled
    labelled_put l p q = both_put word (decimal x) at e l p q

pub ruleset labelled_cases = (word_fits, value_fits, labelled_place, labelled_put)

-- ---- two of them

module _ (word : List ℕ) (x : ℕ) (word' : List ℕ) (y at : ℕ) where
  abbrev pair : List ℕ
  pair = labelled word x ++ labelled word' y

  pub left_fits : at + length pair ≤ last_place → at + length (labelled word x) ≤ last_place
  left_fits h = first_fits (labelled word x) (labelled word' y) at h

  module _ {next : ℕ} (e : next ≡ at + length (labelled word x)) where
    pub right_fits : at + length pair ≤ last_place → next + length (labelled word' y) ≤ last_place
    right_fits h = second_fits (labelled word x) (labelled word' y) at e h

    pub pair_place : {r : ℕ} → r ≡ next + length (labelled word' y) → r ≡ at + length pair
    pair_place f = both_place (labelled word x) (labelled word' y) at e f

    pub pair_put : (l : List ℕ) {l₁ l₂ : List ℕ} → l₁ ≡ puts l at (labelled word x) → l₂ ≡ puts l₁ next (labelled word' y) → l₂ ≡ puts l at pair
    pair_put l p q = both_put (labelled word x) (labelled word' y) at e l p q

  -- the end of the line after both
  pair_then_end : two_labelled word x word' y ≡ pair ++ line_feed
  unfolding two_labelled
  pair_then_end = sym (append_assoc (labelled word x) (labelled word' y) line_feed)

  pub pair_fits : at + length (two_labelled word x word' y) ≤ last_place → at + length pair ≤ last_place
  pair_fits h = first_fits pair line_feed at (rw pair_then_end at h)

  module _ {last : ℕ} (e : last ≡ at + length pair) where
    pub feed_fits : at + length (two_labelled word x word' y) ≤ last_place → last + 1 ≤ last_place
    feed_fits h = second_fits pair line_feed at e (rw pair_then_end at h)

    pub two_place : {r : ℕ} → r ≡ last + 1 → r ≡ at + length (two_labelled word x word' y)
    two_place g = rw pair_then_end (both_place pair line_feed at e g)

    pub two_put : (l : List ℕ) {l₁ l₂ : List ℕ} → l₁ ≡ puts l at pair → l₂ ≡ puts l₁ last (10 ∷ []) → l₂ ≡ puts l at (two_labelled word x word' y)
    two_put l p q = rw pair_then_end (both_put pair line_feed at e l p q)

pub ruleset pair_cases = (left_fits, right_fits, pair_place, pair_put)

pub ruleset two_cases = (pair_fits, feed_fits, two_place, two_put)

-- ---- a heading

module _ (h at : ℕ) where
  pub heading_fits : at + length (heading_of h) ≤ last_place → at + length (labelled groomer_word h) ≤ last_place
  unfolding heading_of
  heading_fits m = first_fits (labelled groomer_word h) line_feed at m

  module _ {last : ℕ} (e : last ≡ at + length (labelled groomer_word h)) where
    pub heading_feed : at + length (heading_of h) ≤ last_place → last + 1 ≤ last_place
    unfolding heading_of
    heading_feed m = second_fits (labelled groomer_word h) line_feed at e m

    pub heading_place : {r : ℕ} → r ≡ last + 1 → r ≡ at + length (heading_of h)
    unfolding heading_of
    heading_place f = both_place (labelled groomer_word h) line_feed at e f

    pub heading_put : (l : List ℕ) {l₁ l₂ : List ℕ} → l₁ ≡ puts l at (labelled groomer_word h) → l₂ ≡ puts l₁ last (10 ∷ []) → l₂ ≡ puts l at (heading_of h)
    unfolding heading_of
    heading_put l p q = both_put (labelled groomer_word h) line_feed at e l p q

pub ruleset heading_cases = (heading_fits, heading_feed, heading_place, heading_put)

-- ---- the last line

module _ (sums : Sums) (at : ℕ) where
  pub sums_fits : at + length (sums_line sums) ≤ last_place → at + length (labelled sum_word sums.worth) ≤ last_place
  unfolding sums_line
  sums_fits h = first_fits (labelled sum_word sums.worth) (two_labelled tally_word sums.tally ceiling_word sums.ceiling) at h

  module _ {next : ℕ} (e : next ≡ at + length (labelled sum_word sums.worth)) where
    pub sums_rest_fits : at + length (sums_line sums) ≤ last_place → next + length (two_labelled tally_word sums.tally ceiling_word sums.ceiling) ≤ last_place
    unfolding sums_line
    sums_rest_fits h = second_fits (labelled sum_word sums.worth) (two_labelled tally_word sums.tally ceiling_word sums.ceiling) at e h

    pub sums_place : {r : ℕ} → r ≡ next + length (two_labelled tally_word sums.tally ceiling_word sums.ceiling) → r ≡ at + length (sums_line sums)
    unfolding sums_line
    sums_place f = both_place (labelled sum_word sums.worth) (two_labelled tally_word sums.tally ceiling_word sums.ceiling) at e f

    pub sums_put : (l : List ℕ) {l₁ l₂ : List ℕ} → l₁ ≡ puts l at (labelled sum_word sums.worth) → l₂ ≡ puts l₁ next (two_labelled tally_word sums.tally ceiling_word sums.ceiling) → l₂ ≡ puts l at (sums_line sums)
    unfolding sums_line
    sums_put l p q = both_put (labelled sum_word sums.worth) (two_labelled tally_word sums.tally ceiling_word sums.ceiling) at e l p q

pub ruleset sums_cases = (sums_fits, sums_rest_fits, sums_place, sums_put)

-- ---- a turn's line

module _ (p : Size) (cols : List ℕ) (u at : ℕ) {a : Row} (h : u < p.count) (e : a ≡ row_in cols u) where
  abbrev T : Turns
  T = turns_by p cols

  abbrev minutes : List ℕ
  minutes = labelled [] a.start ++ labelled hyphen a.end

  abbrev values : List ℕ
  values = two_labelled slope_word a.slope worth_word a.worth

  by_row : line_of T u ≡ decimal a.start ++ (labelled hyphen a.end ++ values)
  unfolding line_of
  by_row = rw (start_at p cols u h e, end_at p cols u h e, slope_at p cols u h e, worth_at p cols u h e)

  line_is : line_of T u ≡ minutes ++ values
  unfolding labelled
  line_is = by_row ∙ sym (append_assoc (decimal a.start) (labelled hyphen a.end) values)

  pub minutes_fit : at + length (line_of T u) ≤ last_place → at + length minutes ≤ last_place
  minutes_fit k = first_fits minutes values at (rw line_is at k)

  module _ {next : ℕ} (q : next ≡ at + length minutes) where
    pub values_fit : at + length (line_of T u) ≤ last_place → next + length values ≤ last_place
    values_fit k = second_fits minutes values at q (rw line_is at k)

    pub line_place : {z : ℕ} → z ≡ next + length values → z ≡ at + length (line_of T u)
    line_place f = rw line_is (both_place minutes values at q f)

    pub line_put : (l : List ℕ) {l₁ l₂ : List ℕ} → l₁ ≡ puts l at minutes → l₂ ≡ puts l₁ next values → l₂ ≡ puts l at (line_of T u)
    line_put l x y = rw line_is (both_put minutes values at q l x y)

pub ruleset line_cases = (minutes_fit, values_fit, line_place, line_put)

-- ---- a refusal's line

module _ (k : ℕ) where
  pub refused_fits : length (refused_line k) ≤ last_place → 0 + length (labelled refused_word k) ≤ last_place
  unfolding refused_line
  refused_fits m = let q : 0 + length (labelled refused_word k ++ line_feed) ≤ last_place = omega (arith, m) in first_fits (labelled refused_word k) line_feed 0 q

  module _ {last : ℕ} (e : last ≡ 0 + length (labelled refused_word k)) where
    pub refused_feed : length (refused_line k) ≤ last_place → last + 1 ≤ last_place
    unfolding refused_line
    refused_feed m = let q : 0 + length (labelled refused_word k ++ line_feed) ≤ last_place = omega (arith, m) in second_fits (labelled refused_word k) line_feed 0 e q

    pub refused_place : {r : ℕ} → r ≡ last + 1 → r ≡ length (refused_line k)
    unfolding refused_line
    refused_place f = let q = both_place (labelled refused_word k) line_feed 0 e f in omega (arith, q)

    pub refused_put : (l : List ℕ) {l₁ l₂ : List ℕ} → l₁ ≡ puts l 0 (labelled refused_word k) → l₂ ≡ puts l₁ last (10 ∷ []) → l₂ ≡ puts l 0 (refused_line k)
    unfolding refused_line
    refused_put l p q = both_put (labelled refused_word k) line_feed 0 e l p q

pub ruleset refused_cases = (refused_fits, refused_feed, refused_place, refused_put)
