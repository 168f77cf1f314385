-- Laws of a stream's state.
--
--   low_below       a number of n bytes is below 2 to the power 8 n
--   low_digit       its digits are the bits of the bytes
--   low_same        a number below 2 to the power 64 with the bits of 8 bytes is their number
--   state_written   a state of which the two numbers were stored, and then the checks, is the stream with these
--   state_single    two states of as many bytes that are one stream are equal
use mathlib.Core.Path.{◌≡◌, refl, sym, ap, subst, ◌∙◌}
use mathlib.Core.List.{List, [], ◌∷◌}
use Prim.Native.Nat.{ℕ, suc, ◌+◌, ◌-◌, ◌*◌, ◌/◌, ◌%◌, ◌^◌, ◌≤◌, ◌<◌}
use native.Mathlib.Decide.{dec_lt}
use native.Mathlib.Omega.{arith}
use lib.Dec.{lit<}
use lib.Pow.{pow-add}
use lib.ListN.{length, take, drop, length-take, length-drop, get_or-eq_default}
use lib.Seq.{get_or-take, get_or-drop, length-take-le, drop_at}
use Rattle.rules.specs.Bits.{bit, Bytes}
use Rattle.rules.specs.Words.{digit}
use Rattle.rules.specs.Streams.{stream_bytes}
use Rattle.rules.specs.declared.Stream.{Stream}
use Rattle.laws.proofs.Bits.{bit_digit, bit_past, bit_drop, bit_part, numbers_same, bits_same}
use Rattle.laws.proofs.Bits.{mid, length_mid, bit_below, mid_rest}
use Rattle.laws.proofs.Numbers.{digit_low, digit_high, digit_right}
use Rattle.numbers.specs.Numbers.{Replaced}
use Rattle.states.specs.States.{low_first, state_bytes, stream_in}

-- a number of one byte and then of others is put together from both
module _ (x y : ℕ) (h : x < 256) where
  first_byte : (x + 256 * y) % 2 ^ 8 ≡ x
  first_byte = omega arith

  other_bytes : (x + 256 * y) / 2 ^ 8 ≡ y
  other_bytes = omega arith

pub low_below : (s : List ℕ) → Bytes s → low_first s < 2 ^ (8 * length s)
unfolding low_first
low_below [] h = lit< tt
low_below (x ∷ s) h =
    let more : 2 ^ (8 * suc (length s)) ≡ 2 ^ 8 * 2 ^ (8 * length s) =
    ap (λ (n : ℕ). 2 ^ n) (omega arith) ∙ pow-add 2 8 (8 * length s) in
    omega (arith, more, h 0, low_below s (λ i. h (suc i)))

pub low_digit : (s : List ℕ) → Bytes s → (k : ℕ) → digit (low_first s) k ≡ bit s k
unfolding low_first
low_digit [] h k = digit_high 0 0 k (lit< tt) (omega arith) ∙ sym (bit_past [] k (omega arith))
low_digit (x ∷ s) h k =
    let v : ℕ = x + 256 * low_first s in
    elim (dec_lt k 8) [
      | yes l ↦
          let e : 8 * 0 + k ≡ k = omega arith in
          sym (digit_low v 8 k l)
          ∙ ap (λ (n : ℕ). digit n k) (first_byte x (low_first s) (h 0))
          ∙ sym (bit_digit (x ∷ s) 0 k l)
          ∙ ap (bit (x ∷ s)) e
      | no l ↦
          let e : k ≡ (k - 8) + 8 = omega arith in
          let j : 8 * 1 + (k - 8) ≡ k = omega arith in
          ap (digit v) e
          ∙ sym (digit_right v 8 (k - 8))
          ∙ ap (λ (n : ℕ). digit n (k - 8)) (other_bytes x (low_first s) (h 0))
          ∙ low_digit s (λ i. h (suc i)) (k - 8)
          ∙ bit_drop (x ∷ s) 1 (k - 8)
          ∙ ap (bit (x ∷ s)) j
    ]

-- eight bytes of s, from byte a on
module _ (s : List ℕ) (h : Bytes s) (a : ℕ) (l : a + 8 ≤ length s) where
  abbrev part : List ℕ
  part = take 8 (drop a s)

  part_long : length part ≡ 8
  part_long = simp (length-take, length-drop) (omega arith)

  part_bytes_law : Bytes part
  part_bytes_law i = elim (dec_lt i 8) [
    | yes k ↦ rw (get_or-take 8 (drop a s) i 0 k, get_or-drop a s i 0) (h (a + i))
    | no k ↦ rw (get_or-eq_default part 0 {n = i} (omega (arith, part_long))) (lit< tt)
  ]

  part_digit : (k : ℕ) → k < 64 → digit (low_first part) k ≡ bit s (8 * a + k)
  part_digit k i = low_digit part part_bytes_law k ∙ bit_part s a 8 k i

  pub low_same : (x : ℕ) → x < 2 ^ 64 → ((k : ℕ) → k < 64 → digit x k ≡ bit s (8 * a + k)) → x ≡ low_first part
  low_same x b each =
      numbers_same 64 x (low_first part) b (rw part_long at (low_below part part_bytes_law))
      (λ k i. each k i ∙ sym (part_digit k i))

-- a state s in which a number n was stored, then h; the rest was then written over with p, which are c
module _ {s s₁ s₂ p : List ℕ} (n h : ℕ) (c : List ℕ) (n< : n < 2 ^ 64) (h< : h < 2 ^ 64)
    (first : Replaced s s₁ 0 64 (digit n)) (second : Replaced s₁ s₂ 8 64 (digit h)) (long : length s₂ ≡ state_bytes)
    (rest : p ≡ c) (checks : length c ≡ stream_bytes) where
  abbrev all : List ℕ
  all = mid 16 (length s₂ - 16) s₂ p

  fits : 16 + (length s₂ - 16) ≤ length s₂
  fits = omega arith

  rest_long : length p ≡ length s₂ - 16
  rest_long = rw rest (omega arith)

  all_long : length all ≡ state_bytes
  all_long = length_mid s₂ p 16 (length s₂ - 16) fits rest_long ∙ long

  front_bit : (k : ℕ) → k < 128 → bit all k ≡ bit s₂ k
  front_bit k l = bit_below s₂ p 16 (length s₂ - 16) fits rest_long k (omega arith)

  number_bit : (k : ℕ) → k < 64 → digit n k ≡ bit all (8 * 0 + k)
  number_bit k l =
      sym (front_bit (8 * 0 + k) (omega arith) ∙ second.below (8 * 0 + k) (omega arith) ∙ first.within k l)

  held_bit : (k : ℕ) → k < 64 → digit h k ≡ bit all (8 * 8 + k)
  held_bit k l = sym (front_bit (8 * 8 + k) (omega arith) ∙ second.within k l)

  all_checks : drop 16 all ≡ c
  all_checks =
      ap (drop 16) (mid_rest s₂ p 16) ∙ drop_at (take 16 s₂) p 16 (length-take-le 16 s₂ (omega arith)) ∙ rest

  pub state_written : Bytes all → (length all ≡ state_bytes)
      × (stream_in all ≡ record { number = n; held = h; checks = c })
  state_written b = (
    all_long,
    rw (
      sym (low_same all b 0 (omega (arith, all_long)) n n< number_bit),
      sym (low_same all b 8 (omega (arith, all_long)) h h< held_bit),
      all_checks,
    ) refl,
  )

-- two states that are one stream: each part of it says some of their bits
module _ (s t : List ℕ) (hs : Bytes s) (ht : Bytes t) (ls : length s ≡ state_bytes) (lt : length t ≡ state_bytes)
    (e : stream_in s ≡ stream_in t) where
  from_byte : (a n : ℕ) → 8 * a ≤ n → bit s (8 * a + (n - 8 * a)) ≡ bit t (8 * a + (n - 8 * a)) → bit s n ≡ bit t n
  from_byte a n l same =
      let j : 8 * a + (n - 8 * a) ≡ n = omega arith in
      subst (λ (m : ℕ). bit s m ≡ bit t m) j same

  number_bits : (a : ℕ) → a + 8 ≤ state_bytes → low_first (take 8 (drop a s)) ≡ low_first (take 8 (drop a t)) → (n : ℕ)
      → 8 * a ≤ n → n < 8 * a + 64 → bit s n ≡ bit t n
  number_bits a l same n low high =
      from_byte a n low
      (sym (part_digit s hs a (omega arith) (n - 8 * a) (omega arith))
      ∙ ap (λ (m : ℕ). digit m (n - 8 * a)) same
      ∙ part_digit t ht a (omega arith) (n - 8 * a) (omega arith))

  check_bits : (n : ℕ) → 8 * 16 ≤ n → bit s n ≡ bit t n
  check_bits n low =
      from_byte 16 n low
      (sym (bit_drop s 16 (n - 8 * 16))
      ∙ ap (λ (v : Stream). bit v.checks (n - 8 * 16)) e
      ∙ bit_drop t 16 (n - 8 * 16))

  state_bits : (n : ℕ) → bit s n ≡ bit t n
  state_bits n = elim (dec_lt n 64) [
    | yes l ↦ number_bits 0 (omega arith) (ap (λ (v : Stream). v.number) e) n (omega arith) (omega arith)
    | no l ↦ elim (dec_lt n 128) [
      | yes k ↦ number_bits 8 (omega arith) (ap (λ (v : Stream). v.held) e) n (omega arith) (omega arith)
      | no k ↦ check_bits n (omega arith)
    ]
  ]

  pub state_single : s ≡ t
  state_single = bits_same s t hs ht (ls ∙ sym lt) (λ n i. state_bits n)
