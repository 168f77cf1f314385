-- A number that is said spells that number.
--
--   front_same       what the first bytes of a text spell, whatever follows
--   more_digits      one digit more
--   said_spelled     the decimal digits of a number below 2^64 spell it
use mathlib.Core.Path.{◌≡◌, refl, sym, ◌∙◌}
use mathlib.Core.List.{List, [], ◌∷◌, ◌++◌}
use Prim.Native.Nat.{ℕ, zero, suc, ◌+◌, ◌*◌, ◌/◌, ◌%◌, ◌^◌, ◌≤◌, ◌<◌}
use native.Mathlib.Nat.{pow-suc}
use native.Mathlib.Decide.{dec_lt, ℕ_discrete}
use native.Mathlib.Omega.{arith}
use lib.ListN.{length, get_or, length-append, get_or-append}
use lib.Seq.{get_or-append_seam}
use borrow.Author.Tests.{lt-ltb, le-ltb}
use Rattle.lines.specs.Texts.{digits_of, decimal}
use Rattle.console.specs.Spelled.{IsDigit, Digits, value_of, Spelled}
use Rattle.std.specs.Prelude.{Ok}

pub front_same : (i : ℕ) (s t : List ℕ) → i ≤ length s → value_of i (s ++ t) ≡ value_of i s
unfolding value_of
front_same zero s t h = refl
front_same (suc i) s t h = rw (front_same i s t (omega arith), get_or-append s t 0 i (omega arith)) refl

-- so many digits alone, which spell n
abbrev Spells : List ℕ → ℕ → Type 0
Spells s n = Digits (length s) s × (value_of (length s) s ≡ n)

pub more_digits : (s : List ℕ) (n d : ℕ) → Spells s n → d < 10 → Spells (s ++ (48 + d) ∷ []) (10 * n + d)
unfolding value_of
more_digits s n d h l =
    let all : List ℕ = s ++ (48 + d) ∷ [] in
    let size : length all ≡ suc (length s) = length-append s ((48 + d) ∷ []) ∙ omega arith in
    let last : get_or all (length s) 0 ≡ 48 + d = get_or-append_seam s (48 + d) [] 0 in
    let before : value_of (length s) all ≡ n = front_same (length s) s ((48 + d) ∷ []) (omega arith) ∙ h.1 in
    let digits : Digits (length all) all = λ k b. digit k (omega (arith, size, b)) last in
    (digits, rw size (omega (arith, before, last)))
  where
    digit : (k : ℕ) → k ≤ length s → get_or (s ++ (48 + d) ∷ []) (length s) 0 ≡ 48 + d
        → IsDigit (get_or (s ++ (48 + d) ∷ []) k 0)
    digit k b last = elim (ℕ_discrete k (length s)) [
      | yes e ↦ rw (e, last) (omega arith, omega arith)
      | no e ↦ rw (get_or-append s ((48 + d) ∷ []) 0 k (omega arith)) (h.0 k (omega arith))
    ]

-- a digit after what spells a tenth of n
tenth_more : (s : List ℕ) (n : ℕ) → Spells s (n / 10)
    → Spells (s ++ (48 + n % 10) ∷ []) n × (0 < length (s ++ (48 + n % 10) ∷ []))
tenth_more s n h =
    let more = more_digits s (n / 10) (n % 10) h (omega arith) in
    ((more.0, more.1 ∙ omega arith), rw length-append (omega arith))

-- the digits of a number, where there may be as many as it has
all_digits : (most n : ℕ) → n < 10 ^ most → 0 < most → Spells (digits_of most n) n × (0 < length (digits_of most n))
unfolding digits_of value_of
all_digits zero n h o = absurd (omega arith)
all_digits (suc most) n h o = elim (dec_lt n 10) [
  | yes l ↦
      let none : 0 ≡ n / 10 = omega arith in
      rw (lt-ltb n 10 l) (tenth_more [] n (λ k b. absurd (omega arith), none))
  | no l ↦
      let some : 0 < most = some_left most h (omega (arith, l)) in
      rw (le-ltb n 10 (omega (arith, l)))
      (tenth_more (digits_of most (n / 10)) n (all_digits most (n / 10) (omega (arith, h, pow-suc 10 most)) some).0)
]
  where
    some_left : (most : ℕ) → n < 10 ^ suc most → 10 ≤ n → 0 < most
    some_left zero h l = absurd (omega arith)
    some_left (suc most) h l = omega arith

pub said_spelled : (n : ℕ) → n < 2 ^ 64 → Spelled (decimal n) (Ok n)
said_spelled n h =
    let all = all_digits 20 n (omega arith) (omega arith) in
    (all.1, all.0.0, sym all.0.1, h)
