-- Choice maps and choices: a map holds a choice bit by bit, one turn more sets one element, and a clean map is the map of its choice. Assumes nothing.
use Prim.Native.Nat.{ℕ, zero, suc, ◌+◌, ◌-◌, ◌*◌, ◌/◌, ◌%◌, ◌^◌, ◌<◌, ◌≤◌}
use mathlib.Core.Path.{◌≡◌, refl, sym, ◌∙◌, ap}
use mathlib.Core.Bool.{Bool, true, false, not, cond}
use mathlib.Core.List.{List}
use native.Mathlib.Omega.{arith}
use native.Mathlib.Decide.{dec_lt, ℕ_discrete}
use lib.Dec.{eqb}
use lib.ListN.{length, get_or, set, take, drop, replicate, length-set, length-replicate, get_or-replicate, get_or-eq_default}
use lib.Seq.{get_or-set_same, get_or-set_other, ext_get_or}
use borrow.Author.Tests.{eq-eqb, ne_eqb, not-true}
use Rattle.wire.specs.Number.{Bytes, none, more}
use Rattle.wire.proofs.Numbers.{byte_below}
use Rattle.lists.specs.Lists.{tab}
use Rattle.model.specs.Choice.{has}
use Rattle.lists.proofs.Bools.{every_at, every_of}
use Rattle.lists.proofs.Sums.{sum_same, tab_length, tab_at}
use Rattle.choice_map.specs.Choice.{bit_of, map_bytes, chosen_in, choice_in, with_bit, with_turn, clear_past, byte_of, map_of, Clean}
use Rattle.choice_map.proofs.Bytes as byte

-- the choice that a map holds has a turn just where its bit stands
pub choice_has : (n : ℕ) (map : List ℕ) (t : ℕ) → t < n → has (choice_in n map) t ≡ chosen_in map t
unfolding choice_in
choice_has n map t h = tab_at n (chosen_in map) false t h

pub choice_length : (n : ℕ) (map : List ℕ) → length (choice_in n map) ≡ n
unfolding choice_in
choice_length n map = tab_length n (chosen_in map)

-- ---- no bit past the last turn stands, bit by bit

pub clear_bits : (n : ℕ) (map : List ℕ) → clear_past n map ≡ true → (t : ℕ) → n ≤ t → t < 8 * map_bytes n → chosen_in map t ≡ false
unfolding clear_past
clear_bits n map e t l h =
    let z : n + (t - n) ≡ t = omega arith in
    not-true (chosen_in map t) (rw z at (every_at (λ k. not (chosen_in map (n + k))) (8 * map_bytes n - n) e (t - n) (omega arith)))

pub bits_clear : (n : ℕ) (map : List ℕ) → ((t : ℕ) → n ≤ t → t < 8 * map_bytes n → chosen_in map t ≡ false) → clear_past n map ≡ true
unfolding clear_past
bits_clear n map h = every_of (λ k. not (chosen_in map (n + k))) (8 * map_bytes n - n) (λ k l. rw (h (n + k) (omega arith) (omega arith)))

-- ---- lists of bytes

bytes_set : {map : List ℕ} (i x : ℕ) → Bytes map → x < 256 → Bytes (set map i x)
bytes_set i x none h = none
bytes_set zero x (more b r) h = more h r
bytes_set (suc i) x (more b r) h = more b (bytes_set i x r h)

bytes_tab : (n : ℕ) (f : ℕ → ℕ) → ((k : ℕ) → f k < 256) → Bytes (tab n f)
unfolding tab
bytes_tab zero f h = none
bytes_tab (suc n) f h = more (h zero) (bytes_tab n (λ k. f (suc k)) (λ k. h (suc k)))

pub bytes_take : (k : ℕ) {l : List ℕ} → Bytes l → Bytes (take k l)
bytes_take zero b = none
bytes_take (suc k) none = none
bytes_take (suc k) (more b r) = more b (bytes_take k r)

pub bytes_drop : (k : ℕ) {l : List ℕ} → Bytes l → Bytes (drop k l)
bytes_drop zero b = b
bytes_drop (suc k) none = none
bytes_drop (suc k) (more b r) = bytes_drop k r

bytes_zeros : (k : ℕ) → Bytes (replicate k 0)
bytes_zeros zero = none
bytes_zeros (suc k) = more {b = 0} (omega arith) (bytes_zeros k)

-- ---- one turn more

module _ (map : List ℕ) (t : ℕ) (b : Bytes map) (h : t < 8 * length map) where
  with_turn_lem : (u : ℕ) → chosen_in (with_turn map t) u ≡ cond (eqb u t) true (chosen_in map u)
  unfolding with_turn chosen_in
  with_turn_lem u = go (ℕ_discrete (u / 8) (t / 8)) (ℕ_discrete u t)
    where
      x : ℕ
      x = get_or map (t / 8) 0

      small : x < 256
      small = byte_below b (t / 8)

      inside : t / 8 < length map
      inside = omega arith

      same_byte : u / 8 ≡ t / 8 → bit_of (get_or (set map (t / 8) (with_bit x (t % 8))) (u / 8) 0) (u % 8) ≡ cond (eqb (u % 8) (t % 8)) true (bit_of (get_or map (u / 8) 0) (u % 8))
      same_byte q = rw (q, get_or-set_same map (t / 8) (with_bit x (t % 8)) 0 inside) (byte.with_bit_bits x (t % 8) (u % 8) small (omega arith) (omega arith))

      go : Dec (u / 8 ≡ t / 8) → Dec (u ≡ t) → bit_of (get_or (set map (t / 8) (with_bit x (t % 8))) (u / 8) 0) (u % 8) ≡ cond (eqb u t) true (bit_of (get_or map (u / 8) 0) (u % 8))
      go (yes q) (yes e) = same_byte q ∙ rw (eq-eqb (u % 8) (t % 8) (ap (λ (k : ℕ). k % 8) e), eq-eqb u t e)
      go (yes q) (no e) = same_byte q ∙ rw (ne_eqb (u % 8) (t % 8) (omega arith), ne_eqb u t e)
      go (no q) d = rw (get_or-set_other map (t / 8) (u / 8) (with_bit x (t % 8)) 0 q, ne_eqb u t (λ e. q (ap (λ (k : ℕ). k / 8) e)))

  pub choice_with : (n : ℕ) → t < n → choice_in n (with_turn map t) ≡ set (choice_in n map) t true
  choice_with n l =
      ext_get_or false (choice_in n (with_turn map t)) (set (choice_in n map) t true)
      (choice_length n (with_turn map t) ∙ sym (length-set (choice_in n map) t true ∙ choice_length n map))
      (λ i k. at i (omega (arith, choice_length n (with_turn map t))) (ℕ_discrete i t))
    where
      at : (i : ℕ) → i < n → Dec (i ≡ t) → has (choice_in n (with_turn map t)) i ≡ has (set (choice_in n map) t true) i
      at i k (yes e) = choice_has n (with_turn map t) i k ∙ with_turn_lem i ∙ rw (eq-eqb i t e, e, get_or-set_same (choice_in n map) t true false (omega (arith, choice_length n map)))
      at i k (no e) = choice_has n (with_turn map t) i k ∙ with_turn_lem i ∙ rw (ne_eqb i t e, get_or-set_other (choice_in n map) t i true false e) (sym (choice_has n map i k))

  bytes_with : Bytes (with_turn map t)
  unfolding with_turn
  bytes_with = bytes_set (t / 8) (with_bit (get_or map (t / 8) 0) (t % 8)) b (omega (arith, byte.with_bit_least (get_or map (t / 8) 0) (t % 8) (byte_below b (t / 8)) (omega arith)))

  clear_with : (n : ℕ) → t < n → clear_past n map ≡ true → clear_past n (with_turn map t) ≡ true
  clear_with n l c = bits_clear n (with_turn map t) (λ u h k. with_turn_lem u ∙ rw (ne_eqb u t (omega arith)) (clear_bits n map c u h k))

length_with : (map : List ℕ) (t : ℕ) → length (with_turn map t) ≡ length map
unfolding with_turn
length_with map t = length-set map (t / 8) (with_bit (get_or map (t / 8) 0) (t % 8))

-- a clean map has a bit for each turn
pub clean_bits : {n : ℕ} {map : List ℕ} → Clean n map → n ≤ 8 * length map
clean_bits c = omega (arith, c.size)

pub clean_with : (n : ℕ) (map : List ℕ) (t : ℕ) → Clean n map → t < n → Clean n (with_turn map t)
clean_with n map t c l =
    let h : t < 8 * length map = omega (arith, clean_bits c) in
    record { size = length_with map t ∙ c.size; bytes = bytes_with map t c.bytes h; clear = clear_with map t c.bytes h n l c.clear }

-- ---- at first nothing is chosen

bits_zero : (k : ℕ) → k < 8 → bit_of 0 k ≡ false
bits_zero k h = byte.byte_bits (λ i. false) k h

pub zeros_at : (k i : ℕ) → ◌≡◌ {A = ℕ} (get_or (replicate k 0) i 0) 0
zeros_at zero i = refl
zeros_at (suc k) zero = refl
zeros_at (suc k) (suc i) = zeros_at k i

zeros_none : (k t : ℕ) → chosen_in (replicate k 0) t ≡ false
unfolding chosen_in
zeros_none k t = rw (zeros_at k (t / 8)) (bits_zero (t % 8) (omega arith))

pub zeros_choice : (n k : ℕ) → choice_in n (replicate k 0) ≡ replicate n false
zeros_choice n k =
    ext_get_or false (choice_in n (replicate k 0)) (replicate n false)
    (choice_length n (replicate k 0) ∙ sym (length-replicate n false))
    (λ i l. let m : i < n = omega (arith, choice_length n (replicate k 0)) in choice_has n (replicate k 0) i m ∙ zeros_none k i ∙ sym (get_or-replicate n i false false m))

pub zeros_clean : (n k : ℕ) → k ≡ map_bytes n → Clean n (replicate k 0)
zeros_clean n k e = record { size = length-replicate k 0 ∙ e; bytes = bytes_zeros k; clear = bits_clear n (replicate k 0) (λ t l h. zeros_none k t) }

-- ---- a clean map is the map of its choice

pub map_length : (S : List Bool) → length (map_of S) ≡ map_bytes (length S)
unfolding map_of
map_length S = tab_length (map_bytes (length S)) (byte_of S)

map_at : (S : List Bool) (k : ℕ) → k < map_bytes (length S) → get_or (map_of S) k 0 ≡ byte_of S k
unfolding map_of
map_at S k h = tab_at (map_bytes (length S)) (byte_of S) 0 k h

module _ (n : ℕ) (map : List ℕ) (c : Clean n map) where
  has_bit : (t : ℕ) → t < 8 * map_bytes n → has (choice_in n map) t ≡ chosen_in map t
  has_bit t h = go (dec_lt t n)
    where
      go : Dec (t < n) → has (choice_in n map) t ≡ chosen_in map t
      go (yes l) = choice_has n map t l
      go (no l) =
          let q : length (choice_in n map) ≤ t = omega (arith, choice_length n map) in
          get_or-eq_default (choice_in n map) false q ∙ sym (clear_bits n map c.clear t (omega arith) h)

  same_byte : (k : ℕ) → k < map_bytes n → get_or map k 0 ≡ byte_of (choice_in n map) k
  unfolding byte_of chosen_in
  same_byte k h =
      sym (byte.bits_byte (get_or map k 0) (byte_below c.bytes k))
      ∙ sum_same (λ i. cond (bit_of (get_or map k 0) i) (2 ^ i) 0) (λ i. cond (has (choice_in n map) (8 * k + i)) (2 ^ i) 0) 8
      (λ i l. ap (λ (b : Bool). cond b (2 ^ i) 0) (sym (has_bit (8 * k + i) (omega arith) ∙ at i l)))
    where
      at : (i : ℕ) → i < 8 → bit_of (get_or map ((8 * k + i) / 8) 0) ((8 * k + i) % 8) ≡ bit_of (get_or map k 0) i
      at i l = let p : (8 * k + i) / 8 ≡ k = omega arith in let q : (8 * k + i) % 8 ≡ i = omega arith in rw (p, q)

  pub clean_map : map ≡ map_of (choice_in n map)
  clean_map =
      let s : length (map_of (choice_in n map)) ≡ map_bytes n = map_length (choice_in n map) ∙ ap map_bytes (choice_length n map) in
      ext_get_or 0 map (map_of (choice_in n map)) (c.size ∙ sym s)
      (λ k l. same_byte k (omega (arith, c.size)) ∙ sym (map_at (choice_in n map) k (omega (arith, map_length (choice_in n map), s, c.size))))

-- ---- and the map of a choice is clean, and holds it

module _ (S : List Bool) where
  map_chosen : (t : ℕ) → t < 8 * map_bytes (length S) → chosen_in (map_of S) t ≡ has S t
  unfolding chosen_in byte_of
  map_chosen t h =
      let e : 8 * (t / 8) + t % 8 ≡ t = omega arith in
      rw (map_at S (t / 8) (omega arith)) (byte.byte_bits (λ i. has S (8 * (t / 8) + i)) (t % 8) (omega arith) ∙ rw e)

  pub map_choice : choice_in (length S) (map_of S) ≡ S
  map_choice =
      ext_get_or false (choice_in (length S) (map_of S)) S (choice_length (length S) (map_of S))
      (λ i l. let k : i < length S = omega (arith, choice_length (length S) (map_of S)) in choice_has (length S) (map_of S) i k ∙ map_chosen i (omega arith))

  pub map_clean : Clean (length S) (map_of S)
  unfolding map_of byte_of
  map_clean =
      record {
        size = map_length S;
        bytes = bytes_tab (map_bytes (length S)) (byte_of S) (λ k. omega (arith, byte.bits_below (λ i. has S (8 * k + i))));
        clear = bits_clear (length S) (map_of S) (λ t l h. map_chosen t h ∙ get_or-eq_default S false l);
      }
