-- Where in an order a cause stands: by its place, and in one list after another. Assumes nothing.
use mathlib.Core.Path.{◌≡◌, refl, sym, ap, ◌∙◌}
use mathlib.Core.Bool.{true, false, true≢false}
use mathlib.Core.List.{List, [], ◌∷◌, ◌++◌}
use mathlib.Core.Logic.{◌⊎◌, inl, inr, ⊎_elim}
use Prim.Native.Nat.{ℕ, zero, suc, ◌+◌}
use native.Mathlib.Nat.{zero-add, suc-add}
use lib.ListN.{length, get_or}
use Rattle.refusal.specs.Cause.{Cause, ◌when◌, There, here, later}

-- what a list reads as past its end
abbrev pub absent : Cause
absent = 0 when false

abbrev pub cause_at : List Cause → ℕ → Cause
cause_at cs r = get_or cs r absent

-- ---- a cause is there just if the one at its place is

pub there_at : (cs : List Cause) (r : ℕ) → (cause_at cs r).there ≡ true → There cs (cause_at cs r).number r
there_at [] r e = absurd (true≢false (sym e))
there_at (c ∷ cs) zero e = here e
there_at (c ∷ cs) (suc r) e = later (there_at cs r e)

pub at_there : {cs : List Cause} {k r : ℕ} → There cs k r → ((cause_at cs r).there ≡ true) × (k ≡ (cause_at cs r).number)
at_there (here h) = (h, refl)
at_there (later h) = at_there h

-- ---- one list after another

pub there_left : {a : List Cause} {k r : ℕ} (b : List Cause) → There a k r → There (a ++ b) k r
there_left b (here h) = here h
there_left b (later h) = later (there_left b h)

pub there_right : (a : List Cause) {b : List Cause} {k r : ℕ} → There b k r → There (a ++ b) k (length a + r)
there_right [] h = rw zero-add h
there_right (c ∷ a) h = rw suc-add (later (there_right a h))

pub there_split : (a : List Cause) {b : List Cause} {k r : ℕ} → There (a ++ b) k r → There a k r ⊎ ((q : ℕ) × (r ≡ length a + q) × There b k q)
there_split [] {r = r} h = inr (r, sym (zero-add r), h)
there_split (c ∷ a) (here h) = inl (here h)
there_split (c ∷ a) (later h) = ⊎_elim (λ l. inl (later l)) (λ x. inr (x.0, ap suc x.1 ∙ sym (suc-add (length a) x.0), x.2)) (there_split a h)
