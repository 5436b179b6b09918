-- What is promised where nothing is refused: the caller's list when the shift is over. Assumes nothing.
use Prim.Native.Nat.{ℕ, suc, ◌+◌, ◌-◌, ◌≤◌, ◌<◌}
use mathlib.Core.Path.{◌≡◌, sym, ◌∙◌, ap, refl}
use mathlib.Core.Logic.{◌↔◌}
use mathlib.Core.Bool.{true, false, cond, true≢false}
use lib.Dec.{eqb}
use mathlib.Core.List.{List, ◌++◌}
use native.Mathlib.Omega.{arith}
use native.Mathlib.Decide.{dec_lt}
use lib.ListN.{length, get_or, take, drop, get_or-eq_default}
use lib.Seq.{take_at, drop_at}
use Rattle.lists.specs.Lists.{tab}
use Rattle.lists.proofs.Sums.{tab_length, tab_at}
use Rattle.refusal.specs.Cause.{first_of}
use Rattle.turn.specs.Turn.{shift_minutes}
use Rattle.sheet.specs.Read.{counts_in, turn_count, sheet_causes}
use Rattle.sheet.proofs.Unrefused.{few_groomers, few_turns}
use Rattle.model.specs.Choice.{has, chosen}
use Rattle.choice_map.proofs.Clean.{choice_length}
use Rattle.instance_spec.specs.Problem.{problem_of, sheet_turns}
use Rattle.instance_spec.proofs.SheetTurns.{sheet_count, sheet_lengths, sheet_ends, sheet_groomers}
use Rattle.board.specs.Board.{board_turns, board_map, board_choice}
use Rattle.check_spec.specs.Check.{BoardKeeps}
use Rattle.check_spec.proofs.Passing.{passes_parts}
use Rattle.play_spec.specs.declared.Standing.{Standing}
use Rattle.play_spec.specs.Day.{over_minutes, delay_in, day_of, works, doing_at, DayIs, DoingIs, OnTime}
use Rattle.play_spec.specs.Standing.{last_minute, fresh_of, standing_after, StandingIs}
use Rattle.play_spec.proofs.Stints.{day_laid}
use Rattle.play_spec.proofs.Delayed.{on_time}
use Rattle.play_spec.proofs.Planned.{worked_planned, hand_planned}
use Rattle.play_spec.proofs.Days.{day_is, doing_is}
use Rattle.play_spec.proofs.Standings.{standing_is}
use Rattle.play_spec.specs.DayTable.{Days}
use Rattle.play_spec.specs.declared.PlayAnswer.{PlayAnswer}
use Rattle.play_spec.specs.Minutes.{minutes_from}
use Rattle.play_spec.specs.Play.{play_causes, day_at, standings_of, play_of}
use Rattle.play_spec.specs.Promises.{MovedByMinutes, PlayPromised, PlayedAlike}
use Rattle.play_spec.proofs.ListedStandings.{append_left, minutes_say, minutes_more, table_there}
use Rattle.play_spec.proofs.PlayCauses.{play_clear, answer_same}
use Rattle.refusal.specs.Outcome.{Outcome, beside}
use Rattle.refusal.proofs.Outcome.{number_none}

sheet_gap : (s : List ℕ) → over_minutes ≤ (sheet_turns s).gap
unfolding sheet_turns problem_of
sheet_gap s = omega arith

-- a chosen turn is one of the board's
chosen_inside : (b : List ℕ) (u : ℕ) → has (board_choice b) u ≡ true → u < board_turns b
unfolding board_choice
chosen_inside b u h = go (dec_lt u (board_turns b))
  where
    go : Dec (u < board_turns b) → u < board_turns b
    go (yes l) = l
    go (no l) = absurd (true≢false (sym h ∙ get_or-eq_default (board_choice b) false (omega (arith, choice_length (board_turns b) (board_map b)))))

-- ---- the days

module _ (s b delays : List ℕ) where
  its_day : (g : ℕ) → DayIs (sheet_turns s) (board_choice b) (delay_in delays) (suc g) (day_at s b delays g)
  unfolding day_at
  its_day g = day_is (sheet_turns s) (board_choice b) (suc g) (delay_in delays)

  its_doings : (g m : ℕ) → DoingIs (day_at s b delays g) m (doing_at (day_at s b delays g) m)
  unfolding day_at
  its_doings g m = doing_is (day_laid (sheet_turns s) (board_choice b) (delay_in delays) (suc g)) m

  its_turn : (g m u : ℕ) → doing_at (day_at s b delays g) m ≡ works u → (has (board_choice b) u ≡ true) × ((sheet_turns s).groomer u ≡ suc g)
  its_turn g m u e =
      let (i, l, t, w) = ((its_doings g m).works_iff u).0 e in
      let k = (its_day g).its_own i l in rw (← t) (k.chosen, k.groomer_is)

  its_time : first_of (sheet_causes s) ≡ 0 → BoardKeeps s b → ((u : ℕ) → delay_in delays u ≡ 0) → (u : ℕ) → has (board_choice b) u ≡ true → (g : ℕ) × (g < (counts_in s).groomers) × ((sheet_turns s).groomer u ≡ suc g) × OnTime (sheet_turns s) (day_at s b delays g) u
  unfolding day_at
  its_time z keeps none u h =
      let l : u < turn_count s = omega (arith, chosen_inside b u h, keeps.form.turns) in
      let r = sheet_groomers s z u l in
      let e : (sheet_turns s).groomer u ≡ suc ((sheet_turns s).groomer u - 1) = omega (arith, r.0) in
      let same : delay_in delays ≡ (λ (v : ℕ). 0) = λ i v. none v i in
      let t : OnTime (sheet_turns s) (day_of (sheet_turns s) (board_choice b) (λ _. 0) (suc ((sheet_turns s).groomer u - 1))) u = on_time (sheet_turns s) (board_choice b) (suc ((sheet_turns s).groomer u - 1)) keeps.rules.apart (sheet_lengths s z) (sheet_gap s) u (omega (arith, sheet_count s z, l)) h e in
      ((sheet_turns s).groomer u - 1, omega (arith, r.0, r.1), e, rw same t)

-- ---- the list

module _ (s b delays : List ℕ) (lent : List Standing) (z : (play_of s b delays lent).answer.refusal ≡ 0) where
  is_played : play_of s b delays lent ≡ beside (record { refusal = 0; groomers = (counts_in s).groomers }) (standings_of s b delays ++ drop (counts_in s).groomers lent)
  unfolding play_of
  is_played = number_none (play_causes s b delays (length lent)) _ _ (λ (p : Outcome PlayAnswer (List Standing)). p.answer.refusal) refl (λ k. refl) z

  many : length (standings_of s b delays) ≡ (counts_in s).groomers
  unfolding standings_of
  many = tab_length (counts_in s).groomers (λ g. standing_after (day_at s b delays g) shift_minutes)

  its_standing : (g : ℕ) → g < (counts_in s).groomers → get_or (play_of s b delays lent).lent g fresh_of ≡ standing_after (day_at s b delays g) shift_minutes
  unfolding standings_of
  its_standing g l =
      ap (λ (p : Outcome PlayAnswer (List Standing)). get_or p.lent g fresh_of) is_played ∙ append_left (standings_of s b delays) (drop (counts_in s).groomers lent) g fresh_of (omega (arith, many))
      ∙ tab_at (counts_in s).groomers (λ k. standing_after (day_at s b delays k) shift_minutes) fresh_of g l

  its_counts : (g : ℕ) → g < (counts_in s).groomers → StandingIs (day_at s b delays g) last_minute (get_or (play_of s b delays lent).lent g fresh_of)
  its_counts g l = rw (its_standing g l) (standing_is (day_at s b delays g) last_minute)

  all_behind : drop (counts_in s).groomers (play_of s b delays lent).lent ≡ drop (counts_in s).groomers lent
  all_behind = ap (λ (p : Outcome PlayAnswer (List Standing)). drop (counts_in s).groomers p.lent) is_played ∙ drop_at (standings_of s b delays) (drop (counts_in s).groomers lent) (counts_in s).groomers many

  -- ---- the list in between

  module _ (table : List ℕ) (w : Days (sheet_turns s) (board_choice b) (delay_in delays) table) where
    by_then : (k : ℕ) → 0 < k → k ≤ shift_minutes → minutes_from k 0 (counts_in s).groomers lent table ≡ tab (counts_in s).groomers (λ g. standing_after (day_at s b delays g) k) ++ drop (counts_in s).groomers lent
    unfolding day_at
    by_then k l h =
        let c = play_clear s b delays lent z in
        minutes_say (sheet_turns s) (board_choice b) (delay_in delays) table w (counts_in s).groomers (few_groomers s (passes_parts s b c.0).0) lent c.2 k l h

    moved_by : MovedByMinutes s b delays lent table
    unfolding standings_of
    moved_by =
        record {
          one_minute = λ m. let q : 0 + m ≡ m = omega arith in rw q at (minutes_more m 0 (counts_in s).groomers lent table);
          standings = λ m l g k.
              let its : ℕ → Standing = λ h. standing_after (day_at s b delays h) (suc m) in
              let e : get_or (minutes_from (suc m) 0 (counts_in s).groomers lent table) g fresh_of ≡ standing_after (day_at s b delays g) (suc m) = ap (λ (ys : List Standing). get_or ys g fresh_of) (by_then (suc m) (omega arith) (omega arith)) ∙ append_left (tab (counts_in s).groomers its) (drop (counts_in s).groomers lent) g fresh_of (omega (arith, tab_length (counts_in s).groomers its)) ∙ tab_at (counts_in s).groomers its fresh_of g k in
              rw e (standing_is (day_at s b delays g) m);
          behind = λ m l. ap (drop (counts_in s).groomers) (by_then (suc m) (omega arith) (omega arith)) ∙ drop_at (tab (counts_in s).groomers (λ g. standing_after (day_at s b delays g) (suc m))) (drop (counts_in s).groomers lent) (counts_in s).groomers (tab_length (counts_in s).groomers (λ g. standing_after (day_at s b delays g) (suc m)));
          last = by_then shift_minutes (omega arith) (omega arith) ∙ sym (ap (λ (p : Outcome PlayAnswer (List Standing)). p.lent) is_played);
        }

  -- ---- without delays

  module _ (none : (u : ℕ) → delay_in delays u ≡ 0) (g : ℕ) (l : g < (counts_in s).groomers) where
    clear : first_of (sheet_causes s) ≡ 0
    clear = (passes_parts s b (play_clear s b delays lent z).0).0

    there : (m u : ℕ) → doing_at (day_at s b delays g) m ≡ works u → (u < (sheet_turns s).count) × (has (board_choice b) u ≡ true) × ((sheet_turns s).groomer u ≡ suc g)
    there m u e =
        let (i, k, t, w) = ((its_doings s b delays g m).works_iff u).0 e in
        let o = (its_day s b delays g).its_own i k in rw (← t) (o.inside, o.chosen, o.groomer_is)

    timely : (u : ℕ) → u < (sheet_turns s).count → has (board_choice b) u ≡ true → (sheet_turns s).groomer u ≡ suc g → OnTime (sheet_turns s) (day_at s b delays g) u
    timely u k c e =
        let (h, m, f, o) = its_time s b delays clear (passes_parts s b (play_clear s b delays lent z).0).1 none u c in
        let q : h ≡ g = omega (arith, e, f) in
        rw (← q) o

    worked_there : (get_or (play_of s b delays lent).lent g fresh_of).working ≡ chosen (turn_count s) (board_choice b) (λ u. cond (eqb ((sheet_turns s).groomer u) (suc g)) ((sheet_turns s).end u - (sheet_turns s).start u) 0)
    worked_there =
        (its_counts g l).working_is
        ∙ worked_planned (sheet_turns s) (board_choice b) (suc g) (day_at s b delays g) there timely shift_minutes (λ u k. (omega (arith, sheet_lengths s clear u k), sheet_ends s clear u (omega (arith, sheet_count s clear))))
        ∙ ap (λ (n : ℕ). chosen n (board_choice b) (λ u. cond (eqb ((sheet_turns s).groomer u) (suc g)) ((sheet_turns s).end u - (sheet_turns s).start u) 0)) (sheet_count s clear)

    hand_there : (u : ℕ) → u < turn_count s → ((get_or (play_of s b delays lent).lent g fresh_of).turn ≡ u) ↔ ((has (board_choice b) u ≡ true) × ((sheet_turns s).groomer u ≡ suc g) × ((sheet_turns s).end u ≡ shift_minutes))
    hand_there u k =
        let few : u < (sheet_turns s).count = omega (arith, sheet_count s clear) in
        let w = hand_planned (sheet_turns s) (board_choice b) (suc g) (day_at s b delays g) there timely last_minute u few (λ e. omega (arith, few_turns s clear, e)) in
        let t = (its_counts g l).turn_is in (
          λ e. let (c, h, a, m) = w.0 (sym t ∙ e) in (c, h, omega (arith, sheet_ends s clear u k, m)),
          λ (c, h, m). t ∙ w.1 (c, h, omega (arith, sheet_lengths s clear u few, m), omega (arith, m)),
        )

  pub play_promised : PlayPromised s b delays lent
  play_promised =
      let parts = passes_parts s b (play_clear s b delays lent z).0 in
      record {
        groomers_are = ap (λ (p : Outcome PlayAnswer (List Standing)). p.answer.groomers) is_played;
        standings = its_counts;
        whole = λ g l. (its_counts g l).minutes;
        behind = all_behind;
        days = its_day s b delays;
        doings = its_doings s b delays;
        its_own = its_turn s b delays;
        on_time = its_time s b delays parts.0 parts.1;
        on_time_worked = λ none g l. worked_there none g l;
        on_time_turn = λ none g l u k. hand_there none g l u k;
        table_there = table_there (sheet_turns s) (board_choice b) (delay_in delays);
        by_minutes = moved_by;
      }

  -- the first standings, whatever was there
  first_places : take (counts_in s).groomers (play_of s b delays lent).lent ≡ standings_of s b delays
  first_places = ap (λ (p : Outcome PlayAnswer (List Standing)). take (counts_in s).groomers p.lent) is_played ∙ take_at (standings_of s b delays) (drop (counts_in s).groomers lent) (counts_in s).groomers many

-- two lists that both have a place for each groomer, or neither, are alike: what they held plays no part
pub play_alike : (s b delays : List ℕ) (lent other : List Standing) → ((counts_in s).groomers ≤ length lent) ↔ ((counts_in s).groomers ≤ length other) → PlayedAlike s b delays lent other
play_alike s b delays lent other room =
    let same = answer_same s b delays lent other room in
    record {
      answer = same;
      standings = λ z. first_places s b delays lent z ∙ sym (first_places s b delays other (ap (λ (a : PlayAnswer). a.refusal) (sym same) ∙ z));
    }
