-- Paper 01, 'Bits in bytes': where a bit stands, how many bytes a run of bits takes, and runs of bits one after
-- another.
-- A run of bits is a function of the place, counted from 0.
--
--   bit s n          bit n of the bytes s: in byte n / 8, with weight 2 to the power n mod 8
--   Bytes s          every element of s is below 256
--   need b           the bytes that a run of b bits takes: b / 8 rounded up
--   UnusedSet s b    an unused high bit of s, which holds b bits, is 1
--   zeros            0 at every place
--   only p           1 at place p, and 0 elsewhere
--   run b x y        b bits of x, then y from its place 0 on
--   placed h b x     b bits of x at the places h to h + b - 1, and 0 elsewhere
--   sum x y          the sum mod 2 of x and y, place by place
--   Written b x s t  the first need b bytes of t hold the b bits of x, then zeros; all after them is as in s
--   Packed b s       s is just the bytes of a run of b bits: as many as it takes, their unused high bits 0
--   Adds s t f       t is s with f n added, mod 2, to bit n, for each n
--
-- Believe this file beside the paper; nothing here is proved.
use Rattle.std.specs.Prelude.{◌≡◌, cond, List, ℕ, ◌+◌, ◌-◌, ◌*◌, ◌/◌, ◌%◌, ◌^◌, ◌≤◌}
use Rattle.std.specs.Prelude.{◌<◌, ltb, eqb, length, get_or, drop}

abbrev pub bit : List ℕ → ℕ → ℕ
bit s n = get_or s (n / 8) 0 / 2 ^ (n % 8) % 2

abbrev pub Bytes : List ℕ → Type 0
Bytes s = (i : ℕ) → get_or s i 0 < 256

abbrev pub need : ℕ → ℕ
need b = (b + 7) / 8

abbrev pub UnusedSet : List ℕ → ℕ → Type 0
UnusedSet s b = (n : ℕ) × (b ≤ n) × (bit s n ≡ 1)

abbrev pub zeros : ℕ → ℕ
zeros n = 0

abbrev pub only : ℕ → ℕ → ℕ
only p n = cond (eqb n p) 1 0

unfoldable pub run : ℕ → (ℕ → ℕ) → (ℕ → ℕ) → ℕ → ℕ
run b x y n = cond (ltb n b) (x n) (y (n - b))

abbrev pub placed : ℕ → ℕ → (ℕ → ℕ) → ℕ → ℕ
placed h b x = run h zeros (run b x zeros)

abbrev pub sum : (ℕ → ℕ) → (ℕ → ℕ) → ℕ → ℕ
sum x y n = (x n + y n) % 2

pub record Written (b : ℕ) (x : ℕ → ℕ) (s t : List ℕ) : Type 0 where
  pub length_same : length t ≡ length s
  pub bits : (n : ℕ) → n < 8 * need b → bit t n ≡ run b x zeros n
  pub after : drop (need b) t ≡ drop (need b) s

pub record Packed (b : ℕ) (s : List ℕ) : Type 0 where
  pub bytes : length s ≡ need b
  pub unused : UnusedSet s b → ⊥

pub record Adds (s t : List ℕ) (f : ℕ → ℕ) : Type 0 where
  pub length_same : length t ≡ length s
  pub each : (n : ℕ) → bit t n ≡ (bit s n + f n) % 2
