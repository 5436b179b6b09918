-- The check gives exactly the number of the first cause in its order, and passes a board exactly where none is there. Assumes nothing.
use Prim.Native.Nat.{ℕ, ◌<◌, ◌≤◌}
use mathlib.Core.Path.{◌≡◌, refl, sym, ◌∙◌, ap, subst}
use mathlib.Core.Logic.{◌↔◌, ◌⊎◌, inl, inr, ◌≢◌}
use mathlib.Core.List.{List, [], ◌∷◌, ◌++◌}
use mathlib.Core.Bool.{Bool, true, false, not, ◌&&◌, ◌||◌}
use native.Mathlib.Omega.{arith}
use native.Mathlib.Decide.{ℕ_discrete, dec_lt}
use lib.Dec.{eqb}
use lib.IntN.{ℤ}
use lib.ListN.{length, get_or}
use borrow.Author.Tests.{eqb-false, ne_eqb, not-true, not-false}
use Rattle.refusal.specs.Cause.{first_of, There, here, later}
use Rattle.refusal.proofs.Order.{first_goes}
use Rattle.wire.specs.Number.{Bytes}
use Rattle.model.specs.Turns.{Turns, conflict, PositiveLengths}
use Rattle.model.specs.Steps.{Step, is_open, initial, after_step, after_steps, tally}
use Rattle.lists.specs.Lists.{every}
use Rattle.model.specs.Choice.{has, chosen, fits}
use Rattle.model.specs.Rules.{independent, maximal, right, all_right, none_open, sums, Right, Each, done, step}
use Rattle.lists.proofs.Bools.{and_1, and_2, or_cases, or_1, or_2, or_false_1, or_false_2, not_both, every_not, fails, refuted}
use Rattle.model.proofs.Minutes.{conflict_is}
use Rattle.model.proofs.Filled.{fits_apart}
use Rattle.model.proofs.Readings.{independent_is, maximal_is, right_is, all_right_is, none_open_is, sums_is}
use Rattle.sheet.specs.Read.{turn_count, sheet_causes}
use Rattle.sheet.specs.Accepted.{Accepted, place_of}
use Rattle.sheet.proofs.Readings.{sheet_numbered}
use Rattle.sheet.proofs.Accepting.{accepted_iff}
use Rattle.board.specs.Board.{board_turns, board_tally, board_worth, board_choice, written_steps}
use Rattle.board_open.specs.Open.{malformed, OpenCause}
use Rattle.refusal.specs.Number.{malformed_board}
use Rattle.board_open.proofs.Openings.{open_refused, shut}
use Rattle.board_open.proofs.OpenCauses.{open_refused_iff}
use Rattle.instance_spec.specs.Problem.{sheet_turns}
use Rattle.instance_spec.proofs.SheetTurns.{sheet_lengths}
use Rattle.check_spec.specs.Check.{choice_causes, after_right, step_causes, rule_causes, sum_causes, board_causes, check_causes, check_of, OneWrong, UntilWrong, BoardCause, no_board, other_count, two_conflict, room_left, step_wrong, turn_open, sums_differ, CheckCause, FirstCheckCause, Passes, BoardKeeps}
use Rattle.check_spec.proofs.Passing.{check_number, board_numbered, passes_parts, parts_pass}
use Rattle.refusal.proofs.Words.{Within, Tells, tells_none, says_tells, then_within, then_tells}
use Rattle.refusal.proofs.Outcome.{number_iff}
use Rattle.sheet.proofs.ReadCauses.{sheet_tells, sheet_within}
use Rattle.check_spec.specs.declared.CheckAnswer.{CheckAnswer}

-- ---- steps of which one is not right

module _ (T : Turns) where
  -- the first that is not right, from a state on
  record WrongFrom (s : List ℤ) (xs : List Step) : Type 0 where
    before : List Step
    wrong : Step
    behind : List Step
    steps : xs ≡ before ++ (wrong ∷ behind)
    before_right : Each (after_step T) (Right T) s before
    not_right : Right T (after_steps T s before) wrong → ⊥

  one_wrong : (s : List ℤ) (xs : List Step) → all_right T s xs ≡ false → WrongFrom s xs
  unfolding all_right after_steps
  one_wrong s [] e = absurd (not_both refl e)
  one_wrong s (x ∷ xs) e = go (right T s x) refl (one_wrong (after_step T s x) xs)
    where
      go : (r : Bool) → right T s x ≡ r → (all_right T (after_step T s x) xs ≡ false → WrongFrom (after_step T s x) xs) → WrongFrom s (x ∷ xs)
      go false f ih = record { before = []; wrong = x; behind = xs; steps = refl; before_right = done; not_right = λ p. not_both ((right_is T s x).1 p) f }
      go true f ih =
          let w = ih (rw f at e) in
          record { before = x ∷ w.before; wrong = w.wrong; behind = w.behind; steps = ap (λ (ys : List Step). x ∷ ys) w.steps; before_right = step ((right_is T s x).0 f) w.before_right; not_right = w.not_right }

  -- the steps that take their amounts, and the residuals after them, from a state on
  record TakingFrom (s : List ℤ) (xs : List Step) : Type 0 where
    taking : List Step
    rest : List Step
    steps : xs ≡ taking ++ rest
    taking_right : Each (after_step T) (Right T) s taking
    stops : (x : Step) (ys : List Step) → rest ≡ x ∷ ys → Right T (after_steps T s taking) x → ⊥
    after : after_right T s xs ≡ after_steps T s taking

  taking_from : (s : List ℤ) (xs : List Step) → TakingFrom s xs
  unfolding after_right after_steps
  taking_from s [] = record { taking = []; rest = []; steps = refl; taking_right = done; stops = λ x ys e p. omega (arith, ap (λ (l : List Step). length l) e); after = refl }
  taking_from s (x ∷ xs) = go (right T s x) refl (taking_from (after_step T s x) xs)
    where
      go : (r : Bool) → right T s x ≡ r → TakingFrom (after_step T s x) xs → TakingFrom s (x ∷ xs)
      go false f w = record { taking = []; rest = x ∷ xs; steps = refl; taking_right = done; stops = λ y ys e p. not_both ((right_is T s x).1 (subst (λ (z : Step). Right T s z) (sym (ap (λ (l : List Step). get_or l 0 x) e)) p)) f; after = rw f }
      go true f w =
          record { taking = x ∷ w.taking; rest = w.rest; steps = ap (λ (ys : List Step). x ∷ ys) w.steps; taking_right = step ((right_is T s x).0 f) w.taking_right; stops = w.stops; after = rw f w.after }

  -- no other steps take theirs
  taking_only : (s : List ℤ) (taking rest : List Step) → Each (after_step T) (Right T) s taking → ((x : Step) (ys : List Step) → rest ≡ x ∷ ys → Right T (after_steps T s taking) x → ⊥)
      → after_right T s (taking ++ rest) ≡ after_steps T s taking
  unfolding after_right after_steps
  taking_only s [] [] r n = refl
  taking_only s [] (x ∷ rest) r n = rw (fails (right T s x) (λ e. n x rest refl ((right_is T s x).0 e)))
  taking_only s (x ∷ taking) rest (step p ps) n = rw ((right_is T s x).1 p) (taking_only (after_step T s x) taking rest ps n)

  -- each step of a run that is right throughout is right where it stands
  right_there : (s : List ℤ) (xs : List Step) (x : Step) (ys : List Step) → Each (after_step T) (Right T) s (xs ++ (x ∷ ys)) → Right T (after_steps T s xs) x
  unfolding after_steps
  right_there s [] x ys (step p ps) = p
  right_there s (z ∷ xs) x ys (step p ps) = right_there (after_step T s z) xs x ys ps

module _ (T : Turns) (lengths : PositiveLengths T) (b : List ℕ) where
  -- ---- each test that fails, in words

  form_cause : (malformed b || not (eqb (board_turns b) T.count)) ≡ true → BoardCause T b 12 0
  form_cause e = go (or_cases (malformed b) (not (eqb (board_turns b) T.count)) e)
    where
      go : (malformed b ≡ true) ⊎ (not (eqb (board_turns b) T.count) ≡ true) → BoardCause T b 12 0
      go (inl m) = no_board ((open_refused_iff b).0 (sym (open_refused b (sym m) refl))).1
      go (inr n) = other_count (eqb-false (board_turns b) T.count (not-true (eqb (board_turns b) T.count) n))

  cause_opens : {r : ℕ} → OpenCause b malformed_board r → (malformed b || not (eqb (board_turns b) T.count)) ≡ true
  cause_opens {r} c = or_1 (malformed b) (not (eqb (board_turns b) T.count)) (shut b refl (λ z. omega (arith, sym z ∙ (open_refused_iff b).1 (r, c))))

  cause_count : board_turns b ≢ T.count → (malformed b || not (eqb (board_turns b) T.count)) ≡ true
  cause_count n = or_2 (malformed b) (not (eqb (board_turns b) T.count)) (rw (ne_eqb (board_turns b) T.count n))

  conflict_cause : not (independent T (board_choice b)) ≡ true → BoardCause T b 13 1
  unfolding independent
  conflict_cause e = outer (every_not _ T.count (not-true (independent T (board_choice b)) e))
    where
      S : List Bool
      S = board_choice b

      inner : (x : ℕ) → x < T.count → (y : ℕ) → y < x → not (has S x && has S y && conflict T x y) ≡ false → BoardCause T b 13 1
      inner x l y m f =
          let g : (has S x && has S y && conflict T x y) ≡ true = not-false (has S x && has S y && conflict T x y) f in
          let h : (has S x && has S y) ≡ true = and_1 (has S x && has S y) (conflict T x y) g in
          two_conflict x y l (omega arith) (λ q. omega arith) (and_1 (has S x) (has S y) h) (and_2 (has S x) (has S y) h) ((conflict_is T lengths x y l (omega arith)).0 (and_2 (has S x && has S y) (conflict T x y) g))

      outer : (x : ℕ) × (x < T.count) × (every (λ y. not (has S x && has S y && conflict T x y)) x ≡ false) → BoardCause T b 13 1
      outer (x, l, f) = let q = every_not (λ y. not (has S x && has S y && conflict T x y)) x f in inner x l q.0 q.1 q.2

  room_cause : not (maximal T (board_choice b)) ≡ true → BoardCause T b 14 2
  unfolding maximal
  room_cause e = outer (every_not _ T.count (not-true (maximal T (board_choice b)) e))
    where
      S : List Bool
      S = board_choice b

      outer : (t : ℕ) × (t < T.count) × ((has S t || not (fits T S t)) ≡ false) → BoardCause T b 14 2
      outer (t, l, f) =
          let g : fits T S t ≡ true = not-false (fits T S t) (or_false_2 (has S t) (not (fits T S t)) f) in
          room_left t l (or_false_1 (has S t) (not (fits T S t)) f) (λ u m h c. not_both ((conflict_is T lengths u t m l).1 c) (fits_apart T S t g u m h))

  open_cause : not (none_open T (after_right T (initial T) (written_steps b))) ≡ true → BoardCause T b 16 4
  unfolding none_open
  open_cause e = outer (every_not _ T.count (not-true (none_open T (after_right T (initial T) (written_steps b))) e))
    where
      w : TakingFrom T (initial T) (written_steps b)
      w = taking_from T (initial T) (written_steps b)

      outer : (t : ℕ) × (t < T.count) × (not (is_open (after_right T (initial T) (written_steps b)) t) ≡ false) → BoardCause T b 16 4
      outer (t, l, f) =
          turn_open w.taking (record { rest = w.rest; steps = w.steps; taking_right = w.taking_right; stops = w.stops }) t l
          (rw w.after at (not-false (is_open (after_right T (initial T) (written_steps b)) t) f))

  cause_open : (taking : List Step) → UntilWrong T (written_steps b) taking → after_right T (initial T) (written_steps b) ≡ after_steps T (initial T) taking
  cause_open taking w = ap (after_right T (initial T)) w.steps ∙ taking_only T (initial T) taking w.rest w.taking_right w.stops

  wrong_cause : not (all_right T (initial T) (written_steps b)) ≡ true → BoardCause T b 15 3
  wrong_cause e =
      let w = one_wrong T (initial T) (written_steps b) (not-true (all_right T (initial T) (written_steps b)) e) in
      step_wrong (record { before = w.before; wrong = w.wrong; behind = w.behind; steps = w.steps; before_right = w.before_right; not_right = w.not_right })

  cause_wrong : OneWrong T (written_steps b) → all_right T (initial T) (written_steps b) ≡ true → ⊥
  cause_wrong w e = w.not_right (right_there T (initial T) w.before w.wrong w.behind (rw w.steps at ((all_right_is T (initial T) (written_steps b)).0 e)))

  sums_cause : not (sums T (board_choice b) (written_steps b) (board_tally b) (board_worth b)) ≡ true → BoardCause T b 17 5
  sums_cause e = go (ℕ_discrete (board_tally b) (tally (written_steps b))) (ℕ_discrete (board_worth b) (chosen T.count (board_choice b) T.worth)) (dec_lt (board_worth b) (board_tally b))
    where
      go : Dec (board_tally b ≡ tally (written_steps b)) → Dec (board_worth b ≡ chosen T.count (board_choice b) T.worth) → Dec (board_worth b < board_tally b) → BoardCause T b 17 5
      go (no p) q r = sums_differ (inl p)
      go (yes p) (no q) r = sums_differ (inr (inl q))
      go (yes p) (yes q) (yes r) = sums_differ (inr (inr r))
      go (yes p) (yes q) (no r) = absurd (not_both ((sums_is T (board_choice b) (written_steps b) (board_tally b) (board_worth b)).1 (p, q, omega arith)) (not-true _ e))

  -- ---- the causes are those of the list

  pub board_cause : {k r : ℕ} → There (board_causes T b) k r → BoardCause T b k r
  unfolding board_causes rule_causes choice_causes step_causes sum_causes
  board_cause (here e) = form_cause e
  board_cause (later (here e)) = conflict_cause e
  board_cause (later (later (here e))) = room_cause e
  board_cause (later (later (later (here e)))) = wrong_cause e
  board_cause (later (later (later (later (here e))))) = open_cause e
  board_cause (later (later (later (later (later (here e)))))) = sums_cause e
  board_cause {k = k} (later (later (later (later (later (later {r = r} x30)))))) = elim x30 [ ]

  pub cause_board : {k r : ℕ} → BoardCause T b k r → There (board_causes T b) k r
  unfolding board_causes rule_causes choice_causes step_causes sum_causes
  cause_board (no_board c) = here (cause_opens c)
  cause_board (other_count n) = here (cause_count n)
  cause_board (two_conflict x y l m d p q c) = later (here (refuted _ (λ e. (independent_is T (board_choice b) lengths).0 e x y l m d p q c)))
  cause_board (room_left t l h n) = later (later (here (refuted _ (λ e. let w = (maximal_is T (board_choice b) lengths).0 e t l h in n w.0 w.1 w.2 w.3))))
  cause_board (step_wrong w) = later (later (later (here (refuted _ (cause_wrong w)))))
  cause_board (turn_open taking w t l o) =
      later (later (later (later (here (refuted (none_open T (after_right T (initial T) (written_steps b))) (λ e. not_both o ((none_open_is T (after_steps T (initial T) taking)).0 (rw (cause_open taking w) at e) t l)))))))
  cause_board (sums_differ d) = later (later (later (later (later (here (refuted _ (λ e. differ d ((sums_is T (board_choice b) (written_steps b) (board_tally b) (board_worth b)).0 e))))))))
    where
      differ : (board_tally b ≢ tally (written_steps b)) ⊎ (board_worth b ≢ chosen T.count (board_choice b) T.worth) ⊎ (board_worth b < board_tally b)
          → (board_tally b ≡ tally (written_steps b)) × (board_worth b ≡ chosen T.count (board_choice b) T.worth) × (board_tally b ≤ board_worth b) → ⊥
      differ (inl p) s = p s.0
      differ (inr (inl q)) s = q s.1
      differ (inr (inr r)) s = omega (arith, s.2)

-- ---- the check's number

-- a board's causes have six places
pub board_within : (T : Turns) (b : List ℕ) → Within (BoardCause T b) 6
board_within T b k r (no_board c) = omega arith
board_within T b k r (other_count n) = omega arith
board_within T b k r (two_conflict x y l m d p q c) = omega arith
board_within T b k r (room_left t l h n) = omega arith
board_within T b k r (step_wrong n) = omega arith
board_within T b k r (turn_open xs w t l o) = omega arith
board_within T b k r (sums_differ d) = omega arith

module _ (s b : List ℕ) where
  pub check_within : Within (CheckCause s b) (place_of (turn_count s) 7)
  check_within k r c = omega (arith, then_within (place_of (turn_count s) 1) (sheet_within s) 6 (board_within (sheet_turns s) b) k r c)

  -- the words tell what the lists give: of a board once the sheet is not refused, since conflicts are in words only between turns that have a length
  board_tells : first_of (sheet_causes s) ≡ 0 → Tells (BoardCause (sheet_turns s) b) (board_causes (sheet_turns s) b)
  board_tells e =
      says_tells (BoardCause (sheet_turns s) b) (board_causes (sheet_turns s) b) (λ k r. (cause_board (sheet_turns s) (sheet_lengths s e) b, board_cause (sheet_turns s) (sheet_lengths s e) b))
      (board_numbered (sheet_turns s) b)

  pub check_tells : Tells (CheckCause s b) (check_causes s b)
  unfolding check_causes
  check_tells = then_tells (place_of (turn_count s) 1) (sheet_within s) (sheet_causes s) (board_causes (sheet_turns s) b) (sheet_numbered s) (sheet_tells s) board_tells

  -- the check gives k exactly where the first cause has number k
  pub check_refused_iff : (k : ℕ) → (k ≡ 0 → ⊥) → ((check_of s b).refusal ≡ k) ↔ FirstCheckCause s b k
  unfolding check_of
  check_refused_iff = number_iff (check_causes s b) _ _ (λ (x : CheckAnswer). x.refusal) refl (λ k. refl) check_tells

  -- ---- no cause

  -- of a sheet that is not refused: the rules are kept exactly where no cause to refuse the board is there
  keeps_none : first_of (sheet_causes s) ≡ 0 → BoardKeeps s b ↔ ((k r : ℕ) → BoardCause (sheet_turns s) b k r → ⊥)
  unfolding check_causes
  keeps_none e =
      let after = first_goes (sheet_causes s) (board_causes (sheet_turns s) b) (sheet_numbered s) e in
      let none = tells_none (board_tells e) in (
        λ w. none.0 (sym after ∙ sym (check_number s b) ∙ parts_pass s b e w),
        λ n. (passes_parts s b (check_number s b ∙ after ∙ none.1 n)).1,
      )

  -- for an accepted sheet, a board keeps the rules exactly where all causes from 12 to 17 are absent
  pub keeps_no_cause : Bytes s → Accepted s → BoardKeeps s b ↔ ((k r : ℕ) → BoardCause (sheet_turns s) b k r → ⊥)
  keeps_no_cause y a = keeps_none ((accepted_iff y).1 a)

  -- for every list of numbers: the check gives 0 exactly where no cause is there, the sheet's or the board's
  pub passes_no_cause : Passes s b ↔ ((k r : ℕ) → CheckCause s b k r → ⊥)
  passes_no_cause = let none = tells_none check_tells in (λ p. none.0 (sym (check_number s b) ∙ p), λ n. check_number s b ∙ none.1 n)
