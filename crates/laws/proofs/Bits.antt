-- Laws of bits in bytes: a bit read, a byte stored, a part of a list, a part replaced, and the bytes that hold given
-- bits.
--
--   bit<                     a bit is below 2
--   bit_past                 past the end of a list every bit is 0
--   bit_digit                bit t of byte i
--   bit_xor_law              a bit of an exclusive or is the sum mod 2
--   bit_or_law, bit_and_law  a bit of an or is the larger one, of an and the smaller
--   bit_set, bit_set_other   a bit of a byte that was stored, and of another
--   bits_more                bits that are those of f below byte i are so below the next, once byte i has its eight
--   bit_take, bit_drop       a bit of the first k bytes, and of all from byte a on
--   bit_front, bit_back      a bit of the first of two lists that are joined, and of the second
--   bit_part                 a bit of the k bytes from a on
--   mid a k s p              s with its k bytes from a on replaced by p
--   length_mid               it is as long as s
--   bit_mid                  it has p's bits there
--   bit_below, bit_above     and those of s below and above
--   mid_rest                 where all from a on is replaced
--   byte_zeros               a byte of zero bytes
--   bit_zeros, bit_ones      a bit of zero bytes, and of bytes of ones
--   bit_cleared              a bit of s with its first k bytes cleared, of one of these
--   numbers_same             numbers below 2 to the power n with the same n bits are equal
--   bits_same                lists of bytes of one length with the same bits are equal
--   pack n f                 n bytes that hold the bits of f
--   length_pack, bytes_pack  they are n, and each is below 256
--   bit_pack                 their bit k is f k
use mathlib.Core.Path.{◌≡◌, refl, sym, ap, ◌∙◌}
use mathlib.Core.Bool.{Bool}
use mathlib.Core.List.{List, [], ◌∷◌, ◌++◌, append-nil}
use Prim.Native.Nat.{ℕ, zero, suc, min, max, ◌+◌, ◌-◌, ◌*◌, ◌/◌, ◌%◌, ◌^◌, ◌≤◌, ◌<◌}
use native.Mathlib.Decide.{dec_lt}
use native.Mathlib.Nat.{mod-lt, div-one, zero-div}
use native.Mathlib.Omega.{arith}
use lib.Bits.{bit_and, bit_or, bit_xor, and_shr, and_step, or_shr, or_step, xor_shr, xor_mod}
use lib.Dec.{eqb, eqb→eq, lit<}
use lib.ListN.{length, get_or, set, take, drop, replicate, length-append, length-take, length-drop, length-replicate}
use lib.ListN.{drop_of_length-le, get_or-append, get_or-eq_default, get_or-replicate}
use lib.Pow.{shr-shr}
use lib.Seq.{get_or-set_same, get_or-set_other, get_or-take, get_or-drop, get_or-append-add, length-take-le, ext_get_or}
use Rattle.rules.specs.Bits.{bit, Bytes}
use Rattle.rules.proofs.Tests.{every, every_at}

pub bit< : (s : List ℕ) (n : ℕ) → bit s n < 2
bit< s n = mod-lt _ (lit< tt)

pub bit_digit : (s : List ℕ) (i t : ℕ) → t < 8 → bit s (8 * i + t) ≡ get_or s i 0 / 2 ^ t % 2
bit_digit s i t h =
    let p : (8 * i + t) / 8 ≡ i = omega arith in
    let q : (8 * i + t) % 8 ≡ t = omega arith in
    rw (p, q)

-- a bit of a byte that is 0, and of equal bytes
bit_none : (s : List ℕ) (n : ℕ) → get_or s (n / 8) 0 ≡ 0 → bit s n ≡ 0
bit_none s n e = rw (e, zero-div)

bit_as : (s t : List ℕ) (n : ℕ) → get_or s (n / 8) 0 ≡ get_or t (n / 8) 0 → bit s n ≡ bit t n
bit_as s t n e = rw e

pub bit_past : (s : List ℕ) (n : ℕ) → 8 * length s ≤ n → bit s n ≡ 0
bit_past s n h = bit_none s n (get_or-eq_default s 0 (omega arith))

sums : ℕ → ℕ → Bool
sums p q = eqb (bit_xor p q) ((p + q) % 2)

xor_two : (p q : ℕ) → p < 2 → q < 2 → bit_xor p q ≡ (p + q) % 2
unfolding sums
xor_two p q h k = eqb→eq _ _ (every_at 2 (sums p) (every_at 2 (λ p. every 2 (sums p)) tt p h) q k)

pub bit_xor_law : (x y t : ℕ) → bit_xor x y / 2 ^ t % 2 ≡ (x / 2 ^ t % 2 + y / 2 ^ t % 2) % 2
bit_xor_law x y t =
    ap (λ (n : ℕ). n % 2) (xor_shr x y t)
    ∙ xor_mod (x / 2 ^ t) (y / 2 ^ t) 1
    ∙ xor_two (x / 2 ^ t % 2) (y / 2 ^ t % 2) (mod-lt _ (lit< tt)) (mod-lt _ (lit< tt))

pub bit_or_law : (x y t : ℕ) → bit_or x y / 2 ^ t % 2 ≡ max (x / 2 ^ t % 2) (y / 2 ^ t % 2)
bit_or_law x y t = ap (λ (n : ℕ). n % 2) (or_shr x y t) ∙ omega (arith, or_step (x / 2 ^ t) (y / 2 ^ t))

pub bit_and_law : (x y t : ℕ) → bit_and x y / 2 ^ t % 2 ≡ min (x / 2 ^ t % 2) (y / 2 ^ t % 2)
bit_and_law x y t = ap (λ (n : ℕ). n % 2) (and_shr x y t) ∙ omega (arith, and_step (x / 2 ^ t) (y / 2 ^ t))

pub bit_set : (s : List ℕ) (i v n : ℕ) → i < length s → n / 8 ≡ i → bit (set s i v) n ≡ v / 2 ^ (n % 8) % 2
bit_set s i v n h e = rw (e, get_or-set_same)

pub bit_set_other : (s : List ℕ) (i v n : ℕ) → (n / 8 ≡ i → ⊥) → bit (set s i v) n ≡ bit s n
bit_set_other s i v n d = rw get_or-set_other

pub bits_more : (f : ℕ → ℕ) (s : List ℕ) (i v : ℕ) → i < length s → ((n : ℕ) → n < 8 * i → bit s n ≡ f n)
    → ((t : ℕ) → t < 8 → v / 2 ^ t % 2 ≡ f (8 * i + t))
    → (n : ℕ) → n < 8 * (i + 1) → bit (set s i v) n ≡ f n
bits_more f s i v h before here n l = elim (dec_lt n (8 * i)) [
  | yes k ↦ bit_set_other s i v n (omega arith) ∙ before n k
  | no k ↦
      let e : 8 * i + n % 8 ≡ n = omega arith in
      bit_set s i v n h (omega arith) ∙ here (n % 8) (mod-lt n (lit< tt)) ∙ ap f e
]

-- byte a + n / 8 has bit 8 a + n
bit_from : (s t : List ℕ) (a n : ℕ) → get_or s (a + n / 8) 0 ≡ get_or t (n / 8) 0 → bit s (8 * a + n) ≡ bit t n
bit_from s t a n e =
    let p : (8 * a + n) / 8 ≡ a + n / 8 = omega arith in
    let q : (8 * a + n) % 8 ≡ n % 8 = omega arith in
    rw (p, q, e)

pub bit_take : (s : List ℕ) (k n : ℕ) → n < 8 * k → bit (take k s) n ≡ bit s n
bit_take s k n h = bit_as (take k s) s n (get_or-take k s (n / 8) 0 (omega arith))

pub bit_drop : (s : List ℕ) (a n : ℕ) → bit (drop a s) n ≡ bit s (8 * a + n)
bit_drop s a n = sym (bit_from s (drop a s) a n (sym (get_or-drop a s (n / 8) 0)))

pub bit_front : (s t : List ℕ) (n : ℕ) → n < 8 * length s → bit (s ++ t) n ≡ bit s n
bit_front s t n h = bit_as (s ++ t) s n (get_or-append s t 0 (n / 8) (omega arith))

pub bit_back : (s t : List ℕ) (a n : ℕ) → length s ≡ a → bit (s ++ t) (8 * a + n) ≡ bit t n
bit_back s t a n e = bit_from (s ++ t) t a n (rw (← e) (get_or-append-add s t (n / 8) 0))

pub bit_part : (s : List ℕ) (a k n : ℕ) → n < 8 * k → bit (take k (drop a s)) n ≡ bit s (8 * a + n)
bit_part s a k n h = bit_take (drop a s) k n h ∙ bit_drop s a n

abbrev pub mid : ℕ → ℕ → List ℕ → List ℕ → List ℕ
mid a k s p = take a s ++ (p ++ drop k (drop a s))

module _ (s p : List ℕ) (a k : ℕ) (fits : a + k ≤ length s) (long : length p ≡ k) where
  pub length_mid : length (mid a k s p) ≡ length s
  length_mid = simp (length-append, length-take, length-drop) (omega arith)

  before : length (take a s) ≡ a
  before = length-take-le a s (omega arith)

  pub bit_mid : (n : ℕ) → n < 8 * k → bit (mid a k s p) (8 * a + n) ≡ bit p n
  bit_mid n h = bit_back (take a s) _ a n before ∙ bit_front p _ n (omega arith)

  pub bit_below : (n : ℕ) → n < 8 * a → bit (mid a k s p) n ≡ bit s n
  bit_below n h = bit_front (take a s) _ n (omega (arith, before)) ∙ bit_take s a n h

  pub bit_above : (n : ℕ) → 8 * (a + k) ≤ n → bit (mid a k s p) n ≡ bit s n
  bit_above n h =
      let m = n - 8 * (a + k) in
      let e : n ≡ 8 * a + (8 * k + m) = omega arith in
      rw e
      (bit_back (take a s) _ a (8 * k + m) before
      ∙ bit_back p _ k m long
      ∙ bit_drop (drop a s) k m
      ∙ bit_drop s a (8 * k + m))

pub mid_rest : (s p : List ℕ) (a : ℕ) → mid a (length s - a) s p ≡ take a s ++ p
mid_rest s p a =
    let h : length (drop a s) ≤ length s - a = rw length-drop (omega arith) in
    simp (drop_of_length-le (drop a s) h, append-nil)

pub byte_zeros : (k i : ℕ) → ◌≡◌ {A = ℕ} (get_or (replicate k 0) i 0) 0
byte_zeros zero i = refl
byte_zeros (suc k) zero = refl
byte_zeros (suc k) (suc i) = byte_zeros k i

pub bit_zeros : (k n : ℕ) → bit (replicate k 0) n ≡ 0
bit_zeros k n = elim (dec_lt (n / 8) k) [
  | yes h ↦ bit_none (replicate k 0) n (get_or-replicate k (n / 8) 0 0 h)
  | no h ↦ bit_past (replicate k 0) n (omega (arith, length-replicate {A = ℕ} k 0))
]

-- whether digit t of a byte of ones is 1
filled : ℕ → Bool
filled t = eqb (255 / 2 ^ t % 2) 1

pub bit_ones : (k n : ℕ) → n < 8 * k → bit (replicate k 255) n ≡ 1
unfolding filled
bit_ones k n h =
    rw (get_or-replicate {A = ℕ} k (n / 8) 255 0 (omega arith))
    (eqb→eq _ _ (every_at 8 filled tt (n % 8) (mod-lt n (lit< tt))))

pub bit_cleared : (s : List ℕ) (k n : ℕ) → n < 8 * k → bit (replicate k 0 ++ drop k s) n ≡ 0
bit_cleared s k n h =
    bit_front (replicate k 0) (drop k s) n (omega (arith, length-replicate {A = ℕ} k 0)) ∙ bit_zeros k n

halved : (x t : ℕ) → x / 2 ^ suc t ≡ x / 2 / 2 ^ t
halved x t = let e : suc t ≡ 1 + t = omega arith in rw e (sym (shr-shr x 1 t))

pub numbers_same : (n x y : ℕ) → x < 2 ^ n → y < 2 ^ n → ((t : ℕ) → t < n → x / 2 ^ t % 2 ≡ y / 2 ^ t % 2) → x ≡ y
numbers_same zero x y hx hy b = omega arith
numbers_same (suc n) x y hx hy b =
    let low : x % 2 ≡ y % 2 = simp div-one at (b 0 (omega arith)) in
    let high : x / 2 ≡ y / 2 =
    numbers_same n (x / 2) (y / 2) (omega arith) (omega arith) (λ t h. simp halved at (b (suc t) (omega arith))) in
    omega arith

pub bits_same : (s t : List ℕ) → Bytes s → Bytes t → length s ≡ length t
    → ((n : ℕ) → n < 8 * length s → bit s n ≡ bit t n) → s ≡ t
bits_same s t hs ht long b =
    ext_get_or 0 s t long
    (λ i h. numbers_same 8 (get_or s i 0) (get_or t i 0) (hs i) (ht i)
    (λ k l. sym (bit_digit s i k l) ∙ b (8 * i + k) (omega arith) ∙ bit_digit t i k l))

-- the number whose n lowest bits are those of f
joined : ℕ → (ℕ → ℕ) → ℕ
joined zero f = 0
joined (suc n) f = f 0 % 2 + 2 * joined n (λ t. f (suc t))

joined_below : (n : ℕ) (f : ℕ → ℕ) → joined n f < 2 ^ n
unfolding joined
joined_below zero f = lit< tt
joined_below (suc n) f = omega (arith, joined_below n (λ t. f (suc t)))

joined_bit : (n : ℕ) (f : ℕ → ℕ) (t : ℕ) → t < n → joined n f / 2 ^ t % 2 ≡ f t % 2
unfolding joined
joined_bit zero f t h = absurd (omega arith)
joined_bit (suc n) f zero h = rw div-one (omega arith)
joined_bit (suc n) f (suc t) h =
    let q : (f 0 % 2 + 2 * joined n (λ t. f (suc t))) / 2 ≡ joined n (λ t. f (suc t)) = omega arith in
    rw (halved, q) (joined_bit n (λ t. f (suc t)) t (omega arith))

pub pack : ℕ → (ℕ → ℕ) → List ℕ
pack zero f = []
pack (suc n) f = joined 8 f ∷ pack n (λ t. f (8 + t))

pub length_pack : (n : ℕ) (f : ℕ → ℕ) → length (pack n f) ≡ n
unfolding pack
length_pack zero f = refl
length_pack (suc n) f = ap suc (length_pack n (λ t. f (8 + t)))

pub bytes_pack : (n : ℕ) (f : ℕ → ℕ) → Bytes (pack n f)
unfolding pack
bytes_pack zero f i = lit< tt
bytes_pack (suc n) f zero = joined_below 8 f
bytes_pack (suc n) f (suc i) = bytes_pack n (λ t. f (8 + t)) i

pub bit_pack : (n : ℕ) (f : ℕ → ℕ) (k : ℕ) → k < 8 * n → f k < 2 → bit (pack n f) k ≡ f k
unfolding pack
bit_pack zero f k h l = absurd (omega arith)
bit_pack (suc n) f k h l = elim (dec_lt k 8) [
  | yes q ↦
      let i : k / 8 ≡ 0 = omega arith in
      let t : k % 8 ≡ k = omega arith in
      rw (i, t) (joined_bit 8 f k q ∙ omega arith)
  | no q ↦
      let e : k ≡ 8 * 1 + (k - 8) = omega arith in
      let e' : k ≡ 8 + (k - 8) = omega arith in
      ap (bit (pack (suc n) f)) e
      ∙ bit_back (joined 8 f ∷ []) (pack n (λ t. f (8 + t))) 1 (k - 8) refl
      ∙ bit_pack n (λ t. f (8 + t)) (k - 8) (omega arith) (rw e' at l)
      ∙ ap f (sym e')
]
