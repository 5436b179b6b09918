-- Words that tell what a list of causes gives, and such words one after another. Assumes nothing.
use Prim.Native.Nat.{ℕ, ◌+◌, ◌<◌, ◌≤◌}
use mathlib.Core.Path.{◌≡◌, refl, sym, ◌∙◌}
use mathlib.Core.Bool.{Bool, true}
use mathlib.Core.List.{List, [], ◌∷◌, ◌++◌}
use mathlib.Core.Logic.{◌↔◌}
use native.Mathlib.Omega.{arith}
use native.Mathlib.Decide.{ℕ_discrete}
use lib.Dec.{ltb}
use lib.ListN.{length}
use borrow.Author.Tests.{ltb-true, lt-ltb}
use Rattle.refusal.specs.Number.{buffer_too_small}
use Rattle.refusal.specs.Cause.{Cause, ◌when◌, There, here, later, first_of, FirstAmong}
use Rattle.refusal.specs.Outcome.{then_room}
use Rattle.refusal.specs.Words.{Only, only, Then, before, behind, ThenRoom}
use Rattle.refusal.proofs.Order.{numbered, first_stops, first_goes, clear_append, none_given, first_same, none_there}

-- the words have no place from n on
abbrev pub Within : (ℕ → ℕ → Type 0) → ℕ → Type 0
Within Words n = (k r : ℕ) → Words k r → r < n

-- the number that the list gives is that of the first of the words, and 0 where there is none
pub record Tells (Words : ℕ → ℕ → Type 0) (cs : List Cause) : Type 0 where
  pub none : first_of cs ≡ 0 → (k r : ℕ) → Words k r → ⊥
  pub first : (k : ℕ) → (k ≡ 0 → ⊥) → (first_of cs ≡ k) ↔ FirstAmong Words k

-- so nothing is given just if no word holds
pub tells_none : {Words : ℕ → ℕ → Type 0} {cs : List Cause} → Tells Words cs → (first_of cs ≡ 0) ↔ ((k r : ℕ) → Words k r → ⊥)
tells_none {Words} {cs} t = (t.none, λ n. go n (ℕ_discrete (first_of cs) 0))
  where
    go : ((k r : ℕ) → Words k r → ⊥) → Dec (first_of cs ≡ 0) → first_of cs ≡ 0
    go n (yes e) = e
    go n (no z) = let f = (t.first (first_of cs) z).0 refl in absurd (n (first_of cs) f.place f.cause)

-- ---- words that say of each place what the list says

module _ (Words : ℕ → ℕ → Type 0) (cs : List Cause) (same : (k r : ℕ) → Words k r ↔ There cs k r) where
  pub says_tells : numbered cs ≡ true → Tells Words cs
  says_tells n = record { none = λ e k r w. none_given cs e n k r ((same k r).0 w); first = first_same cs Words same }

  pub says_within : Within Words (length cs)
  says_within k r w = short ((same k r).0 w)
    where
      short : {cs : List Cause} {k r : ℕ} → There cs k r → r < length cs
      short (here h) = omega arith
      short (later h) = omega (arith, short h)

-- ---- one cause

module _ (n : ℕ) (P : Type 0) (test : Bool) (iff : (test ≡ true) ↔ P) where
  says : {k r : ℕ} → Only n P k r → There (n when test ∷ []) k r
  says (only p) = here (iff.1 p)

  said : {k r : ℕ} → There (n when test ∷ []) k r → Only n P k r
  said (here e) = only (iff.0 e)
  said (later h) = absurd (none_there h)

  pub only_tells : numbered (n when test ∷ []) ≡ true → Tells (Only n P) (n when test ∷ [])
  only_tells z = says_tells (Only n P) (n when test ∷ []) (λ k r. (says, said)) z

pub only_within : (n : ℕ) (P : Type 0) → Within (Only n P) 1
only_within n P k r (only p) = omega arith

-- ---- one kind after another: what tells of the second list may rest on nothing in the first

module _ {A : ℕ → ℕ → Type 0} (n : ℕ) {B : ℕ → ℕ → Type 0} (inside : Within A n) where
  pub then_within : (m : ℕ) → Within B m → Within (Then A n B) (n + m)
  then_within m w k r (before a) = omega (arith, inside k r a)
  then_within m w k r (behind {r = q} b) = omega (arith, w k q b)

  module _ (cs ds : List Cause) (numbers : numbered cs ≡ true) (one : Tells A cs) (other : first_of cs ≡ 0 → Tells B ds) where
    none : first_of (cs ++ ds) ≡ 0 → (k r : ℕ) → Then A n B k r → ⊥
    none e k r (before a) = one.none (clear_append cs ds numbers e).0 k r a
    none e k r (behind {r = q} b) = let z = clear_append cs ds numbers e in (other z.0).none z.1 k q b

    to : (k : ℕ) → (k ≡ 0 → ⊥) → Dec (first_of cs ≡ 0) → first_of (cs ++ ds) ≡ k → FirstAmong (Then A n B) k
    to k z (no y) e = let f = (one.first k z).0 (sym (first_stops cs ds (first_of cs) refl y) ∙ e) in record { place = f.place; cause = before f.cause; none_before = λ j r l w. early f j r l w }
      where
        early : (f : FirstAmong A k) (j r : ℕ) → r < f.place → Then A n B j r → ⊥
        early f j r l (before a) = f.none_before j r l a
        early f j r l (behind b) = omega (arith, inside k f.place f.cause)
    to k z (yes y) e = let f = ((other y).first k z).0 (sym (first_goes cs ds numbers y) ∙ e) in record { place = n + f.place; cause = behind f.cause; none_before = λ j r l w. early f j r l w }
      where
        early : (f : FirstAmong B k) (j r : ℕ) → r < n + f.place → Then A n B j r → ⊥
        early f j r l (before a) = one.none y j r a
        early f j r l (behind {r = q} b) = f.none_before j q (omega arith) b

    -- a cause of the second list is first only where the first list gives none
    passed : (p : ℕ) → n ≤ p → ((j r : ℕ) → r < p → Then A n B j r → ⊥) → Dec (first_of cs ≡ 0) → first_of cs ≡ 0
    passed p l early (yes y) = y
    passed p l early (no y) = let f = (one.first (first_of cs) y).0 refl in absurd (early (first_of cs) f.place (omega (arith, inside (first_of cs) f.place f.cause)) (before f.cause))

    from : (k p : ℕ) → (k ≡ 0 → ⊥) → Then A n B k p → ((j r : ℕ) → r < p → Then A n B j r → ⊥) → first_of (cs ++ ds) ≡ k
    from k p z (before a) early = first_stops cs ds k ((one.first k z).1 (record { place = p; cause = a; none_before = λ j r l w. early j r l (before w) })) z
    from k p z (behind {r = q} b) early =
        let y = passed (n + q) (omega arith) early (ℕ_discrete (first_of cs) 0) in
        first_goes cs ds numbers y ∙ ((other y).first k z).1 (record { place = q; cause = b; none_before = λ j r l w. early j (n + r) (omega arith) (behind w) })

    pub then_tells : Tells (Then A n B) (cs ++ ds)
    then_tells = record { none = none; first = λ k z. (to k z (ℕ_discrete (first_of cs) 0), λ f. from k f.place z f.cause f.none_before) }

-- the lent places come last
pub room_tells : {A : ℕ → ℕ → Type 0} (n : ℕ) → Within A n → (cs : List Cause) → numbered cs ≡ true → Tells A cs → (need places : ℕ) → Tells (ThenRoom A n need places) (then_room cs need places)
room_tells n inside cs numbers one need places =
    then_tells n inside cs (buffer_too_small when ltb places need ∷ []) numbers one
    (λ z. only_tells buffer_too_small (places < need) (ltb places need) (ltb-true places need, lt-ltb places need) refl)
