-- The entry's number: exactly the first cause in the order gives it, and 0 is given exactly where there is none. Assumes nothing.
use Prim.Native.Nat.{ℕ, ◌≤◌, ◌<◌}
use mathlib.Core.Path.{◌≡◌, refl, sym, ◌∙◌}
use mathlib.Core.List.{List}
use mathlib.Core.Logic.{◌↔◌}
use mathlib.Core.Bool.{Bool, true, false, cond}
use native.Mathlib.Omega.{arith}
use lib.Dec.{ltb}
use lib.ListN.{length}
use borrow.Author.Tests.{ltb-true, ltb-false, lt-ltb, le-ltb}
use Rattle.refusal.specs.Number.{buffer_too_small, too_many_to_search}
use Rattle.refusal.specs.Cause.{first_of}
use Rattle.refusal.proofs.Order.{numbered, numbered_append, first_stops, first_goes, clear_last}
use Rattle.wire.specs.Number.{Bytes}
use Rattle.sheet.specs.Read.{turn_count, sheet_causes}
use Rattle.sheet.specs.Accepted.{place_of, Accepted}
use Rattle.sheet.proofs.Readings.{sheet_numbered}
use Rattle.sheet.proofs.Accepting.{accepted_iff}
use Rattle.sheet.proofs.ReadCauses.{more_tell, more_within}
use Rattle.choice_map.specs.Choice.{map_bytes}
use Rattle.instance_spec.specs.Problem.{sheet_turns}
use Rattle.improve_spec.specs.Improve.{most_searched, improve_causes, improved_for, improve_refused, improve_of, ImproveCause, FirstImproveCause, search_causes, Improvement}
use Rattle.refusal.proofs.Words.{Tells, room_tells}
use Rattle.refusal.specs.Outcome.{beside}
use Rattle.refusal.proofs.Outcome.{number_first, number_iff, number_refused, unless_none, enough_iff}

module _ (s : List ℕ) where
  search_numbered : numbered (search_causes s) ≡ true
  unfolding search_causes
  search_numbered = numbered_append (sheet_causes s) _ (sheet_numbered s) refl

  -- the words tell what the list gives
  improve_tells : (places : ℕ) → Tells (ImproveCause s places) (improve_causes s places)
  unfolding improve_causes search_causes
  improve_tells places =
      room_tells (place_of (turn_count s) 2) (more_within s too_many_to_search (most_searched < turn_count s)) (search_causes s) search_numbered
      (more_tell s too_many_to_search (most_searched < turn_count s) (ltb most_searched (turn_count s)) (ltb-true most_searched (turn_count s), lt-ltb most_searched (turn_count s)) refl) (map_bytes (turn_count s)) places

  -- no cause is there: the sheet is not refused, has no more turns than are searched, and the lent bytes hold a bit for each turn
  pub clear_iff : (places : ℕ) → (first_of (improve_causes s places) ≡ 0) ↔ ((first_of (sheet_causes s) ≡ 0) × (turn_count s ≤ most_searched) × (map_bytes (turn_count s) ≤ places))
  unfolding improve_causes search_causes
  clear_iff places =
      let room = enough_iff (search_causes s) places (map_bytes (turn_count s)) search_numbered in
      let last = clear_last (sheet_causes s) too_many_to_search (ltb most_searched (turn_count s)) (sheet_numbered s) (omega arith) in (
        λ e. let (a, l) = room.0 e in let (z, n) = last.0 a in (z, ltb-false most_searched (turn_count s) n, l),
        λ (z, f, l). room.1 (last.1 (z, le-ltb most_searched (turn_count s) f), l),
      )

module _ (s lent : List ℕ) (limit : ℕ) where
  pub improve_number : (improve_of s limit lent).answer.refusal ≡ first_of (improve_causes s (length lent))
  unfolding improve_of improved_for
  improve_number = number_first (improve_causes s (length lent)) _ _ (λ (o : Improvement). o.answer.refusal) refl (λ k. refl)

  -- where nothing is refused the answer is what the search finds
  pub improve_answers : first_of (improve_causes s (length lent)) ≡ 0 → improve_of s limit lent ≡ improved_for (sheet_turns s) limit lent
  unfolding improve_of
  improve_answers = unless_none (improve_causes s (length lent)) _ _

  -- the entry refuses with k exactly where the first cause has number k
  pub improve_refused_iff : (k : ℕ) → (k ≡ 0 → ⊥) → ((improve_of s limit lent).answer.refusal ≡ k) ↔ FirstImproveCause s (length lent) k
  unfolding improve_of improved_for
  improve_refused_iff = number_iff (improve_causes s (length lent)) _ _ (λ (o : Improvement). o.answer.refusal) refl (λ k. refl) (improve_tells s (length lent))

  -- a refusal leaves the lent bytes as they were, and gives no figures
  pub improve_unchanged : ((improve_of s limit lent).answer.refusal ≡ 0 → ⊥) → improve_of s limit lent ≡ beside (improve_refused (improve_of s limit lent).answer.refusal) lent
  unfolding improve_of improved_for
  improve_unchanged = number_refused (improve_causes s (length lent)) _ _ (λ (o : Improvement). o.answer.refusal) refl (λ k. refl)

-- the entry refuses nothing just if the sheet is accepted, has no more turns than are searched, and the lent bytes hold a bit for each turn
pub improve_accepted_iff : {s : List ℕ} → Bytes s → (lent : List ℕ) (limit : ℕ) →
    ((improve_of s limit lent).answer.refusal ≡ 0) ↔ (Accepted s × (turn_count s ≤ most_searched) × (map_bytes (turn_count s) ≤ length lent))
improve_accepted_iff {s} b lent limit = (
  λ e. let (z, f, l) = (clear_iff s (length lent)).0 (sym (improve_number s lent limit) ∙ e) in ((accepted_iff b).0 z, f, l),
  λ (a, f, l). improve_number s lent limit ∙ (clear_iff s (length lent)).1 ((accepted_iff b).1 a, f, l),
)

-- an accepted sheet is refused with 22 just if it has more turns than are searched, whatever is lent
pub too_many_iff : {s : List ℕ} → Bytes s → Accepted s → (lent : List ℕ) (limit : ℕ) → ((improve_of s limit lent).answer.refusal ≡ too_many_to_search) ↔ (most_searched < turn_count s)
unfolding improve_causes search_causes first_of
too_many_iff {s} b a lent limit = (λ e. go (ltb most_searched (turn_count s)) refl (sym (improve_number s lent limit) ∙ e), many)
  where
    z : first_of (sheet_causes s) ≡ 0
    z = (accepted_iff b).1 a

    many : most_searched < turn_count s → (improve_of s limit lent).answer.refusal ≡ too_many_to_search
    many h =
        improve_number s lent limit
        ∙ first_stops (search_causes s) _ too_many_to_search (first_goes (sheet_causes s) _ (sheet_numbered s) z ∙ rw (lt-ltb most_searched (turn_count s) h)) (omega arith)

    other : (t : Bool) → cond t buffer_too_small 0 ≡ too_many_to_search → ⊥
    other true e = omega (arith, e)
    other false e = omega (arith, e)

    go : (t : Bool) → ltb most_searched (turn_count s) ≡ t → first_of (improve_causes s (length lent)) ≡ too_many_to_search → most_searched < turn_count s
    go true q e = ltb-true most_searched (turn_count s) q
    go false q e =
        absurd (other (ltb (length lent) (map_bytes (turn_count s)))
        (sym (first_goes (search_causes s) _ (search_numbered s) ((clear_last (sheet_causes s) too_many_to_search _ (sheet_numbered s) (omega arith)).1 (z, q))) ∙ e))
