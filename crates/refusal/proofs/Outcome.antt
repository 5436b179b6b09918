-- What an entry gives, by its cases: shown once, for every list of causes and every answer. Assumes nothing.
use Prim.Native.Nat.{ℕ, ◌<◌, ◌≤◌}
use mathlib.Core.Path.{◌≡◌, refl, sym, ◌∙◌, ap}
use mathlib.Core.Bool.{Bool, true, false, cond}
use mathlib.Core.List.{List, [], ◌∷◌, ◌++◌, append_assoc}
use mathlib.Core.Logic.{◌↔◌}
use native.Mathlib.Omega.{arith}
use lib.Dec.{ltb, eqb}
use borrow.Author.Tests.{eqb-true, ne_eqb, lt-ltb, le-ltb, ltb-false}
use Rattle.refusal.specs.Number.{buffer_too_small}
use Rattle.refusal.specs.Cause.{Cause, ◌when◌, first_of, FirstAmong}
use Rattle.refusal.specs.Outcome.{unless, then_room}
use Rattle.refusal.proofs.Order.{numbered, first_stops, first_goes, clear_last}
use Rattle.refusal.proofs.Words.{Tells}

module _ {A : Type 0} (cs : List Cause) (found : A) (refused : ℕ → A) where
  -- with no cause what was found, with one the refusal
  pub unless_none : first_of cs ≡ 0 → unless cs found refused ≡ found
  unfolding unless
  unless_none e = rw e

  pub unless_first : (k : ℕ) → first_of cs ≡ k → (k ≡ 0 → ⊥) → unless cs found refused ≡ refused k
  unfolding unless
  unless_first k e z = rw (e, ne_eqb k 0 z)

  -- nothing else of the causes matters
  pub unless_same : (ds : List Cause) → first_of cs ≡ first_of ds → unless cs found refused ≡ unless ds found refused
  unfolding unless
  unless_same ds e = rw e

  -- ---- where each answer has a number, and 0 stands for what was found

  module _ (number : A → ℕ) (zero : number found ≡ 0) (numbers : (k : ℕ) → number (refused k) ≡ k) where
    -- it is that of the first cause
    pub number_first : number (unless cs found refused) ≡ first_of cs
    unfolding unless
    number_first = go (eqb (first_of cs) 0) refl
      where
        go : (b : Bool) → eqb (first_of cs) 0 ≡ b → number (cond b found (refused (first_of cs))) ≡ first_of cs
        go true q = zero ∙ sym (eqb-true (first_of cs) 0 q)
        go false q = numbers (first_of cs)

    -- 0: what was found
    pub number_none : number (unless cs found refused) ≡ 0 → unless cs found refused ≡ found
    number_none e = unless_none (sym number_first ∙ e)

    -- another: the refusal with this number
    pub number_refused : (number (unless cs found refused) ≡ 0 → ⊥) → unless cs found refused ≡ refused (number (unless cs found refused))
    number_refused n = unless_first (number (unless cs found refused)) (sym number_first) n

    -- in words
    pub number_iff : {Words : ℕ → ℕ → Type 0} → Tells Words cs → (k : ℕ) → (k ≡ 0 → ⊥) → (number (unless cs found refused) ≡ k) ↔ FirstAmong Words k
    number_iff t k z = (λ e. (t.first k z).0 (sym number_first ∙ e), λ f. number_first ∙ (t.first k z).1 f)

-- ---- where some causes are tried before others

-- n is the number of the first that is there, 0 if none is
pub record Tried (cs : List Cause) (n : ℕ) : Type 0 where
  pub number : n ≡ first_of cs
  pub above : numbered cs ≡ true

module _ {A : Type 0} {cs : List Cause} {n : ℕ} (t : Tried cs n) (found : A) (refused : ℕ → A) where
  -- one is there: it is given
  pub tried_stops : (more : List Cause) → (n ≡ 0 → ⊥) → refused n ≡ unless (cs ++ more) found refused
  tried_stops more f = sym (unless_first (cs ++ more) found refused n (first_stops cs more n (sym t.number) f) f)

  -- none is: the others decide
  module _ (z : n ≡ 0) where
    pub tried_goes : (more : List Cause) → unless more found refused ≡ unless (cs ++ more) found refused
    tried_goes more = unless_same more found refused (cs ++ more) (sym (first_goes cs more t.above (sym t.number ∙ z)))

    -- where there is one other: it is given, or what was found
    pub tried_last : (k : ℕ) {b : Bool} → (k ≡ 0 → ⊥) → b ≡ true → refused k ≡ unless (cs ++ k when b ∷ []) found refused
    unfolding first_of
    tried_last k {b} f e = sym (unless_first (k when b ∷ []) found refused k (rw e) f) ∙ tried_goes (k when b ∷ [])

    pub tried_found : (k : ℕ) {b : Bool} → b ≡ false → found ≡ unless (cs ++ k when b ∷ []) found refused
    unfolding first_of
    tried_found k {b} e = sym (unless_none (k when b ∷ []) found refused (rw e)) ∙ tried_goes (k when b ∷ [])

  -- the same where the others are two lists
  module _ (more last : List Cause) where
    joined : unless (cs ++ (more ++ last)) found refused ≡ unless ((cs ++ more) ++ last) found refused
    joined = ap (λ (ds : List Cause). unless ds found refused) (sym (append_assoc cs more last))

    pub tried_before : (n ≡ 0 → ⊥) → refused n ≡ unless ((cs ++ more) ++ last) found refused
    tried_before f = tried_stops (more ++ last) f ∙ joined

    pub tried_behind : n ≡ 0 → unless (more ++ last) found refused ≡ unless ((cs ++ more) ++ last) found refused
    tried_behind z = tried_goes z (more ++ last) ∙ joined

-- ---- where the last cause is that the lent places are fewer than needed

module _ {A : Type 0} (cs : List Cause) (need places : ℕ) (found : A) (refused : ℕ → A) where
  -- a cause before it is given
  pub room_stopped : (k : ℕ) → first_of cs ≡ k → (k ≡ 0 → ⊥) → unless (then_room cs need places) found refused ≡ refused k
  room_stopped k e z = unless_first (then_room cs need places) found refused k (first_stops cs (buffer_too_small when ltb places need ∷ []) k e z) z

  -- where none is there: too few places, and enough
  module _ (n : numbered cs ≡ true) (z : first_of cs ≡ 0) where
    none : Tried cs 0
    none = record { number = sym z; above = n }

    pub room_short : places < need → unless (then_room cs need places) found refused ≡ refused buffer_too_small
    room_short h = sym (tried_last none found refused refl buffer_too_small (omega arith) (lt-ltb places need h))

    pub room_enough : need ≤ places → unless (then_room cs need places) found refused ≡ found
    room_enough h = sym (tried_found none found refused refl buffer_too_small (le-ltb places need h))

-- nothing is given exactly where no cause before it is there and the lent places are enough
pub enough_iff : (cs : List Cause) (places need : ℕ) → numbered cs ≡ true → (first_of (then_room cs need places) ≡ 0) ↔ ((first_of cs ≡ 0) × (need ≤ places))
enough_iff cs places need n =
    let both = clear_last cs buffer_too_small (ltb places need) n (omega arith) in
    (λ e. let h = both.0 e in (h.0, ltb-false places need h.1), λ h. both.1 (h.0, le-ltb places need h.1))
