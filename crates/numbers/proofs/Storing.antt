-- Laws of numbers stored in bytes, and added to them.
--
--   replaced_bytes   the bytes of a number stored, the lowest first
--   replaced_none    nothing stored
--   replaced_as      by equal bits
--   replaced_more    more bits stored, from the byte on where those before them end
--   adds_replaced    a sum stored is added
--   adds_moved       b bits added from byte i on, of x moved up by w: the digits of x from the weight w on
--   adds_inside      a number added from a place inside a byte on: what leaves its eight bytes goes to a ninth
--   later w x        the digits of a rest x from its second byte on, where it begins at the weight w
--   rest_more        one more byte of a rest
--   rest_all         all bytes of a rest
use mathlib.Core.Path.{◌≡◌, refl, sym, ap, ◌∙◌}
use mathlib.Core.List.{List}
use Prim.Native.Nat.{ℕ, zero, suc, ◌+◌, ◌-◌, ◌*◌, ◌/◌, ◌%◌, ◌^◌, ◌≤◌, ◌<◌}
use native.Mathlib.Decide.{dec_lt, ℕ_discrete}
use native.Mathlib.Nat.{div-one}
use native.Mathlib.Omega.{arith}
use lib.ListN.{length, get_or}
use Rattle.std.specs.Int.{bytes_low_first}
use Rattle.rules.specs.Bits.{bit, zeros, placed, sum, Adds}
use Rattle.rules.specs.Words.{digit}
use Rattle.laws.proofs.Bits.{bit<, mid, length_mid, bit_mid, bit_below, bit_above}
use Rattle.laws.proofs.Numbers.{digit_high, digit_right, digit_left, digit_low, digit_kept}
use Rattle.laws.proofs.Runs.{run_low, run_high, placed_each, placed_none, placed_same, placed_moved, placed_fewer}
use Rattle.laws.proofs.Adds.{adds_as, adds_join}
use Rattle.numbers.proofs.Reading.{powers}
use Rattle.numbers.specs.Numbers.{Holds, Replaced}

-- byte j of a number stored, the lowest first
byte_stored : (i m j x : ℕ) → j < m → get_or (bytes_low_first i m x) j 0 ≡ x / 2 ^ (8 * (i + j)) % 2 ^ 8
byte_stored i zero j x h = absurd (omega arith)
byte_stored zero (suc m) zero x h = rw div-one refl
byte_stored (suc i) (suc m) zero x h =
    let e : suc i + 0 ≡ suc i = omega arith in
    rw (e, powers (suc i)) refl
byte_stored i (suc m) (suc j) x h =
    let e : i + suc j ≡ suc i + j = omega arith in
    rw e (byte_stored (suc i) m j x (omega arith))

length_stored : (i m x : ℕ) → length (bytes_low_first i m x) ≡ m
length_stored i zero x = refl
length_stored i (suc m) x = ap suc (length_stored (suc i) m x)

pub replaced_bytes : (s p : List ℕ) (a n x : ℕ) → a + n ≤ length s → p ≡ bytes_low_first 0 n x
    → Replaced s (mid a n s p) a (8 * n) (digit x)
replaced_bytes s p a n x fits e =
    let long : length p ≡ n = ap length e ∙ length_stored 0 n x in
    record {
      length_same = length_mid s p a n fits long;
      below = bit_below s p a n fits long;
      within = λ k l.
          bit_mid s p a n fits long k l
          ∙ ap (λ (q : List ℕ). bit q k) e
          ∙ ap (λ (v : ℕ). digit v (k % 8)) (byte_stored 0 n (k / 8) x (omega arith))
          ∙ digit_low (x / 2 ^ (8 * (0 + k / 8))) 8 (k % 8) (omega arith)
          ∙ digit_right x (8 * (0 + k / 8)) (k % 8)
          ∙ ap (digit x) (omega arith);
      above = λ m l. bit_above s p a n fits long m (omega arith);
    }

pub replaced_none : (s : List ℕ) (a : ℕ) (f : ℕ → ℕ) → Replaced s s a 0 f
replaced_none s a f = record {
  length_same = refl;
  below = λ n l. refl;
  within = λ k l. absurd (omega arith);
  above = λ n l. refl;
}

pub replaced_as : {s t : List ℕ} {a b : ℕ} {f g : ℕ → ℕ} → ((k : ℕ) → k < b → f k ≡ g k) → Replaced s t a b f
    → Replaced s t a b g
replaced_as e p = record {
  length_same = p.length_same;
  below = p.below;
  within = λ k l. p.within k l ∙ e k l;
  above = p.above;
}

module _ {s t u : List ℕ} {a b : ℕ} {f : ℕ → ℕ} (p : Replaced s t a b f) (c m : ℕ) {g : ℕ → ℕ}
    (q : Replaced t u c m g) where
  pub replaced_more : 8 * c ≡ 8 * a + b → ((k : ℕ) → g k ≡ f (b + k)) → Replaced s u a (b + m) f
  replaced_more e same = record {
    length_same = q.length_same ∙ p.length_same;
    below = λ n l. q.below n (omega arith) ∙ p.below n l;
    within = λ k l. elim (dec_lt k b) [
      | yes h ↦ q.below (8 * a + k) (omega arith) ∙ p.within k h
      | no h ↦
          let place : 8 * a + k ≡ 8 * c + (k - b) = omega arith in
          let all : b + (k - b) ≡ k = omega arith in
          ap (bit u) place ∙ q.within (k - b) (omega arith) ∙ same (k - b) ∙ ap f all
    ];
    above = λ n l. q.above n (omega arith) ∙ p.above n (omega arith);
  }

pub adds_replaced : {s t : List ℕ} (a b : ℕ) (f : ℕ → ℕ) {g : ℕ → ℕ} → Replaced s t a b g
    → ((k : ℕ) → k < b → g k ≡ (bit s (8 * a + k) + f k) % 2) → Adds s t (placed (8 * a) b f)
adds_replaced {s} {t} a b f p same = record {
  length_same = p.length_same;
  each = λ n.
      placed_each (8 * a) b f n (λ v. bit t n ≡ (bit s n + v) % 2)
      (λ l. p.below n l ∙ omega (arith, bit< s n))
      (λ l h.
      let e : 8 * a + (n - 8 * a) ≡ n = omega arith in
      rw e at (p.within (n - 8 * a) (omega arith) ∙ same (n - 8 * a) (omega arith)))
      (λ l. p.above n l ∙ omega (arith, bit< s n));
}

pub adds_moved : {s t : List ℕ} (i w x b : ℕ) → w ≤ b → b ≤ 64
    → Adds s t (placed (8 * i) b (digit ((x * 2 ^ w) % 2 ^ 64))) → Adds s t (placed (8 * i + w) (b - w) (digit x))
adds_moved i w x b l h p =
    let all : w + (b - w) ≡ b = omega arith in
    adds_as
    (λ n. rw (← placed_moved (8 * i) w (b - w) (digit x) n, all)
    (placed_same (8 * i) b _ _ (λ k m. digit_left x w 64 k (omega arith)) n)) p

module _ (s : List ℕ) (i w x : ℕ) (less : w < 8) (small : x < 2 ^ 64) where
  -- what is stored in the eight bytes: the sum with x, moved up by w
  abbrev Summed : ℕ → Type 0
  Summed y = Holds y (sum (λ k. bit s (8 * i + k)) (digit ((x * 2 ^ w) % 2 ^ 64)))

  -- it adds the first 64 - w digits
  first : {t : List ℕ} {y : ℕ} → Replaced s t i 64 (digit y) → Summed y
      → Adds s t (placed (8 * i + w) (64 - w) (digit x))
  first q p =
      adds_moved i w x 64 (omega arith) (omega arith) (adds_replaced i 64 (digit ((x * 2 ^ w) % 2 ^ 64)) q p.each)

  -- the others, in the ninth
  ninth : (n : ℕ) → placed (8 * (i + (w + 63) / 8)) 8 (digit (x / 2 ^ 1 / 2 ^ (63 - w))) n
      ≡ placed (8 * i + w + (64 - w)) w (λ k. digit x (64 - w + k)) n
  ninth n = elim (ℕ_discrete w 0) [
    | yes e ↦
        placed_fewer (8 * (i + (w + 63) / 8)) 8 0 _ (omega arith)
        (λ k l. moved k ∙ digit_high x 64 (64 - w + k) small (omega arith)) n
        ∙ placed_none _ _ n
        ∙ sym (rw e (placed_none _ _ n))
    | no d ↦
        let e : 8 * (i + (w + 63) / 8) ≡ 8 * i + w + (64 - w) = omega arith in
        rw e
        (placed_fewer (8 * i + w + (64 - w)) 8 w _ (omega arith)
        (λ k l. moved k ∙ digit_high x 64 (64 - w + k) small (omega arith)) n
        ∙ placed_same (8 * i + w + (64 - w)) w _ _ (λ k h. moved k) n)
  ]
    where
      moved : (k : ℕ) → digit (x / 2 ^ 1 / 2 ^ (63 - w)) k ≡ digit x (64 - w + k)
      moved k = digit_right (x / 2 ^ 1) (63 - w) k ∙ digit_right x 1 (k + (63 - w)) ∙ ap (digit x) (omega arith)

  pub adds_inside : {t u : List ℕ} {y : ℕ} → Replaced s t i 64 (digit y) → Summed y
      → Adds t u (placed (8 * (i + (w + 63) / 8)) 8 (digit (x / 2 ^ 1 / 2 ^ (63 - w))))
      → Adds s u (placed (8 * i + w) 64 (digit x))
  adds_inside q p r =
      let all : 64 - w + w ≡ 64 = omega arith in
      rw all at (adds_join (8 * i + w) (64 - w) w (digit x) (first q p) (adds_as ninth r))

abbrev pub later : ℕ → ℕ → ℕ → ℕ
later w x k = digit x (8 - w + k)

-- x is a rest: its digits are added from a place inside byte i on. The first byte has 8 - w of them, each other 8
module _ {s t : List ℕ} (i w x : ℕ) (less : w < 8) where
  pub rest_more : {u : List ℕ} (j : ℕ) → 0 < j → Adds s t (placed (8 * i + w + (8 - w)) (8 * j - 8) (later w x))
      → Adds t u (placed (8 * (i + j)) 8 (digit (x / 2 ^ (8 * j - w))))
      → Adds s u (placed (8 * i + w + (8 - w)) (8 * (j + 1) - 8) (later w x))
  rest_more j some p q =
      let place : 8 * (i + j) ≡ 8 * i + w + (8 - w) + (8 * j - 8) = omega arith in
      let all : 8 * j - 8 + 8 ≡ 8 * (j + 1) - 8 = omega arith in
      rw all at
      (adds_join (8 * i + w + (8 - w)) (8 * j - 8) 8 (later w x) p
      (adds_as (λ n. placed_same _ 8 _ _ (λ k h. digit_right x (8 * j - w) k ∙ ap (digit x) (omega arith)) n)
      (rw place at q)))

  pub rest_all : {u : List ℕ} (y c j : ℕ) → x ≡ y % 2 ^ c → 0 < j → c ≤ 8 * j - w
      → Adds s t (placed (8 * i + w) (8 - w) (digit x))
      → Adds t u (placed (8 * i + w + (8 - w)) (8 * j - 8) (later w x)) → Adds s u (placed (8 * i + w) c (digit y))
  rest_all y c j e some l p q =
      adds_as
      (λ n.
      placed_fewer (8 * i + w) (8 - w + (8 * j - 8)) c (digit x) (omega arith) past n
      ∙ placed_same (8 * i + w) c _ _ kept n)
      (adds_join (8 * i + w) (8 - w) (8 * j - 8) (digit x) p q)
    where
      past : (k : ℕ) → c ≤ k → digit x k ≡ 0
      past k h = ap (λ (v : ℕ). digit v k) e ∙ digit_kept y c k ∙ run_high c (digit y) zeros k h

      kept : (k : ℕ) → k < c → digit x k ≡ digit y k
      kept k h = ap (λ (v : ℕ). digit v k) e ∙ digit_kept y c k ∙ run_low c (digit y) zeros k h
