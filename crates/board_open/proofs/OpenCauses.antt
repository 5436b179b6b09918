-- Opening gives 12 exactly where one of its causes is there, and 0 exactly for a board that is well formed. Assumes nothing.
use Prim.Native.Nat.{ℕ, ◌+◌, ◌-◌, ◌*◌, ◌<◌}
use mathlib.Core.Path.{◌≡◌, refl, sym, ◌∙◌}
use mathlib.Core.Logic.{◌↔◌, ◌⊎◌, inl, inr}
use mathlib.Core.List.{List, [], ◌∷◌}
use mathlib.Core.Bool.{Bool, true, false, not, ◌||◌}
use native.Mathlib.Omega.{arith}
use lib.Dec.{ltb, eqb}
use lib.ListN.{length}
use borrow.Author.Tests.{eq-eqb, eqb-true, eqb-false, lt-ltb, le-ltb, ltb-true, not-true, not-false}
use Rattle.refusal.specs.Number.{malformed_board}
use Rattle.refusal.specs.Cause.{Cause, ◌when◌, first_of, There, here, later, First}
use Rattle.refusal.proofs.Order.{numbered, first_iff, none_given}
use Rattle.wire.specs.Number.{Bytes}
use Rattle.wire.specs.Mark.{board_mark, opens_with}
use Rattle.wire.proofs.Marks.{board_mark_iff}
use Rattle.lists.proofs.Bools.{not_both, every_not, refuted}
use Rattle.choice_map.specs.Choice.{map_bytes, chosen_in, clear_past, Clean}
use Rattle.board.specs.Board.{board_header, board_turns, board_steps, board_length, board_map}
use Rattle.board_open.specs.Open.{bad_sizes, malformed, open_of, WellFormed, OpenCause, short_header, other_mark, more_steps, other_length, bit_past, FirstOpenCause}
use Rattle.choice_map.proofs.Clean.{clear_bits, bits_clear, bytes_take, bytes_drop}
use Rattle.board_open.proofs.Openings.{formed_header, formed_mark, formed_steps, formed_length, formed_clear, formed_map, opened}

-- ---- the tests, and what they say

pub formed_board : (b : List ℕ) → malformed b ≡ false → WellFormed b (board_turns b) (board_steps b)
formed_board b e =
    record {
      header = formed_header b e;
      mark = (board_mark_iff b).0 (formed_mark b e);
      turns = refl;
      steps = refl;
      steps_fit = formed_steps b e;
      exact = formed_length b e;
      clear = clear_bits (board_turns b) (board_map b) (formed_clear b e);
    }

pub board_formed : (b : List ℕ) {n m : ℕ} → WellFormed b n m → malformed b ≡ false
unfolding malformed bad_sizes
board_formed b w =
    rw (w.turns, w.steps, le-ltb (length b) board_header w.header, (board_mark_iff b).1 w.mark, le-ltb _ _ w.steps_fit, eq-eqb _ _ w.exact, bits_clear _ (board_map b) w.clear)

-- the map of a board that opens is clean
pub formed_clean : (b : List ℕ) → malformed b ≡ false → Bytes b → Clean (board_turns b) (board_map b)
unfolding board_map
formed_clean b e y = record { size = formed_map b e; bytes = bytes_take (map_bytes (board_turns b)) (bytes_drop board_header y); clear = formed_clear b e }

-- ---- 0 or 12

first_two : (x : Bool) → (first_of (malformed_board when x ∷ []) ≡ 0) ⊎ (first_of (malformed_board when x ∷ []) ≡ malformed_board)
unfolding first_of
first_two true = inr refl
first_two false = inl refl

-- opening gives one of two numbers
pub open_two : (b : List ℕ) → (open_of b ≡ 0) ⊎ (open_of b ≡ malformed_board)
unfolding open_of
open_two b = first_two (malformed b)

-- nothing is refused exactly where the bytes are a board of the turns and steps that they name
pub open_accepted_iff : (b : List ℕ) → (open_of b ≡ 0) ↔ WellFormed b (board_turns b) (board_steps b)
unfolding open_of first_of
open_accepted_iff b = (λ e. formed_board b (opened b refl e), λ w. rw (board_formed b w))

-- ---- the tests one by one, in their order

unfoldable tests : List ℕ → List Cause
tests b =
    malformed_board when ltb (length b) board_header
    ∷ malformed_board when not (opens_with board_mark b)
    ∷ malformed_board when ltb (board_turns b) (board_steps b)
    ∷ malformed_board when not (eqb (length b) (board_length (board_turns b) (board_steps b)))
    ∷ malformed_board when not (clear_past (board_turns b) (board_map b))
    ∷ []

-- together they are the one test of opening
joined : (p q r s t : Bool) → first_of (malformed_board when p ∷ malformed_board when q ∷ malformed_board when r ∷ malformed_board when s ∷ malformed_board when t ∷ []) ≡ first_of (malformed_board when (p || (q || (r || (s || t)))) ∷ [])
unfolding first_of
joined true q r s t = refl
joined false true r s t = refl
joined false false true s t = refl
joined false false false true t = refl
joined false false false false t = refl

module _ (b : List ℕ) where
  tests_open : first_of (tests b) ≡ open_of b
  unfolding tests open_of malformed bad_sizes
  tests_open = joined (ltb (length b) board_header) (not (opens_with board_mark b)) (ltb (board_turns b) (board_steps b)) (not (eqb (length b) (board_length (board_turns b) (board_steps b)))) (not (clear_past (board_turns b) (board_map b)))

  bit_cause : not (clear_past (board_turns b) (board_map b)) ≡ true → OpenCause b malformed_board 4
  unfolding clear_past
  bit_cause e = found (every_not _ (8 * map_bytes (board_turns b) - board_turns b) (not-true (clear_past (board_turns b) (board_map b)) e))
    where
      found : (k : ℕ) × (k < 8 * map_bytes (board_turns b) - board_turns b) × (not (chosen_in (board_map b) (board_turns b + k)) ≡ false) → OpenCause b malformed_board 4
      found (k, l, f) = bit_past (board_turns b + k) (omega arith) (omega arith) (not-false (chosen_in (board_map b) (board_turns b + k)) f)

  test_cause : {k r : ℕ} → There (tests b) k r → OpenCause b k r
  unfolding tests
  test_cause (here e) = short_header (ltb-true (length b) board_header e)
  test_cause (later (here e)) = other_mark (λ q. not_both ((board_mark_iff b).1 q) (not-true (opens_with board_mark b) e))
  test_cause (later (later (here e))) = more_steps (ltb-true (board_turns b) (board_steps b) e)
  test_cause (later (later (later (here e)))) = other_length (eqb-false (length b) (board_length (board_turns b) (board_steps b)) (not-true (eqb (length b) (board_length (board_turns b) (board_steps b))) e))
  test_cause (later (later (later (later (here e))))) = bit_cause e
  test_cause {k = k} (later (later (later (later (later {r = r} x25))))) = elim x25 [ ]

  cause_test : {k r : ℕ} → OpenCause b k r → There (tests b) k r
  unfolding tests
  cause_test (short_header h) = here (lt-ltb (length b) board_header h)
  cause_test (other_mark n) = later (here (refuted (opens_with board_mark b) (λ e. n ((board_mark_iff b).0 e))))
  cause_test (more_steps h) = later (later (here (lt-ltb (board_turns b) (board_steps b) h)))
  cause_test (other_length n) = later (later (later (here (refuted (eqb (length b) (board_length (board_turns b) (board_steps b))) (λ e. n (eqb-true (length b) (board_length (board_turns b) (board_steps b)) e))))))
  cause_test (bit_past t l h e) = later (later (later (later (here (refuted (clear_past (board_turns b) (board_map b)) (λ c. not_both e (clear_bits (board_turns b) (board_map b) c t l h)))))))

  -- the number that opening gives is that of the first cause
  pub open_first_iff : (k : ℕ) → (k ≡ 0 → ⊥) → (open_of b ≡ k) ↔ FirstOpenCause b k
  open_first_iff k z = (λ e. to ((first_iff (tests b) k z).0 (tests_open ∙ e)), λ f. sym tests_open ∙ (first_iff (tests b) k z).1 (from f))
    where
      to : First (tests b) k → FirstOpenCause b k
      to f = record { place = f.place; cause = test_cause f.cause; none_before = λ j r l c. f.none_before j r l (cause_test c) }

      from : FirstOpenCause b k → First (tests b) k
      from f = record { place = f.place; cause = cause_test f.cause; none_before = λ j r l c. f.none_before j r l (test_cause c) }

  numbered_tests : numbered (tests b) ≡ true
  unfolding tests
  numbered_tests = refl

  -- 12 is given exactly where one of the causes is there
  pub open_refused_iff : (open_of b ≡ malformed_board) ↔ ((r : ℕ) × OpenCause b malformed_board r)
  open_refused_iff = (λ e. let f = (open_first_iff malformed_board (omega arith)).0 e in (f.place, f.cause), λ c. other c.0 c.1 (open_two b))
    where
      other : (r : ℕ) → OpenCause b malformed_board r → (open_of b ≡ 0) ⊎ (open_of b ≡ malformed_board) → open_of b ≡ malformed_board
      other r c (inl e) = absurd (none_given (tests b) (tests_open ∙ e) numbered_tests malformed_board r (cause_test c))
      other r c (inr e) = e
