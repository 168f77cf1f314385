-- Laws of runs of bits, one after another.
--
--   run_low, run_high            a run's first part, and what follows it
--   run_none                     a run of no bits is what follows it
--   run_each                     what holds of both parts, each at its places, holds of the run
--   run_below                    a run of bits is bits
--   run_same                     equal parts make equal runs
--   run_sum                      a run of sums is the sum of the runs
--   run_run                      zeros after zeros
--   run_join, placed_join        m more bits
--   placed_below, placed_above   the places before and after b bits of x placed at h are 0
--   placed_in                    the places between are those of x
--   placed_each                  what holds in all three cases, holds of the placed run
--   placed_bits                  placed bits are bits
--   placed_none                  no bits placed
--   placed_same                  equal bits placed
--   placed_moved                 zeros before b bits of x move them up
--   placed_fewer                 bits from c on that are 0 can be left out
--   placed_whole                 b bits of y from place h on, at their places, are all of y where it is 0 elsewhere
use mathlib.Core.Path.{◌≡◌, refl, sym, ap, ◌∙◌}
use Prim.Native.Nat.{ℕ, ◌+◌, ◌-◌, ◌≤◌, ◌<◌}
use native.Mathlib.Decide.{dec_lt}
use native.Mathlib.Omega.{arith}
use lib.Dec.{lit<}
use borrow.Author.Tests.{lt-ltb, le-ltb}
use Rattle.rules.specs.Bits.{zeros, run, placed}

module _ (b : ℕ) (x y : ℕ → ℕ) (n : ℕ) where
  pub run_low : n < b → run b x y n ≡ x n
  unfolding run
  run_low h = rw lt-ltb

  pub run_high : b ≤ n → run b x y n ≡ y (n - b)
  unfolding run
  run_high h = rw le-ltb

  pub run_each : (P : ℕ → Type 0) → (n < b → P (x n)) → (b ≤ n → P (y (n - b))) → P (run b x y n)
  run_each P low high = elim (dec_lt n b) [
    | yes h ↦ rw (run_low h) (low h)
    | no h ↦ let l : b ≤ n = omega arith in rw (run_high l) (high l)
  ]

pub run_none : (x y : ℕ → ℕ) (n : ℕ) → run 0 x y n ≡ y n
run_none x y n = run_high 0 x y n (omega arith) ∙ ap y (omega arith)

pub run_below : (b : ℕ) (x y : ℕ → ℕ) → ((n : ℕ) → n < b → x n < 2) → ((n : ℕ) → y n < 2) → (n : ℕ) → run b x y n < 2
run_below b x y low high n = run_each b x y n (λ v. v < 2) (low n) (λ h. high (n - b))

module _ (b : ℕ) (x y x' y' : ℕ → ℕ) where
  pub run_same : ((n : ℕ) → n < b → x n ≡ x' n) → ((n : ℕ) → y n ≡ y' n) → (n : ℕ) → run b x y n ≡ run b x' y' n
  run_same low high n =
      run_each b x y n (λ v. v ≡ run b x' y' n) (λ h. rw run_low (low n h)) (λ h. rw run_high (high (n - b)))

  pub run_sum : (n : ℕ) → run b (λ k. x k + x' k) (λ k. y k + y' k) n ≡ run b x y n + run b x' y' n
  run_sum n =
      run_each b _ _ n (λ v. v ≡ run b x y n + run b x' y' n) (λ h. rw (run_low b x y n, run_low b x' y' n))
      (λ h. rw (run_high b x y n, run_high b x' y' n))

pub run_run : (h b : ℕ) (y : ℕ → ℕ) (n : ℕ) → run h zeros (run b zeros y) n ≡ run (h + b) zeros y n
run_run h b y n =
    run_each h zeros (run b zeros y) n (λ v. v ≡ run (h + b) zeros y n)
    (λ l. sym (run_low (h + b) zeros y n (omega arith)))
    (λ l. run_each b zeros y (n - h) (λ v. v ≡ run (h + b) zeros y n)
    (λ k. sym (run_low (h + b) zeros y n (omega arith)))
    (λ k. ap y (omega arith) ∙ sym (run_high (h + b) zeros y n (omega arith))))

module _ (h b : ℕ) (x : ℕ → ℕ) (n : ℕ) where
  pub placed_below : n < h → placed h b x n ≡ 0
  placed_below l = run_low h zeros (run b x zeros) n l

  pub placed_in : h ≤ n → n < h + b → placed h b x n ≡ x (n - h)
  placed_in l k = run_high h zeros (run b x zeros) n l ∙ run_low b x zeros (n - h) (omega arith)

  pub placed_above : h + b ≤ n → placed h b x n ≡ 0
  placed_above l = run_high h zeros (run b x zeros) n (omega arith) ∙ run_high b x zeros (n - h) (omega arith)

  pub placed_each : (P : ℕ → Type 0) → (n < h → P 0) → (h ≤ n → n < h + b → P (x (n - h))) → (h + b ≤ n → P 0)
      → P (placed h b x n)
  placed_each P below within above =
      run_each h zeros (run b x zeros) n P below
      (λ l. run_each b x zeros (n - h) P (λ k. within l (omega arith)) (λ k. above (omega arith)))

pub placed_bits : (h b : ℕ) (x : ℕ → ℕ) → ((t : ℕ) → x t < 2) → (n : ℕ) → placed h b x n < 2
placed_bits h b x bits =
    run_below h zeros (run b x zeros) (λ n l. lit< tt) (run_below b x zeros (λ n l. bits n) (λ n. lit< tt))

pub placed_none : (h : ℕ) (x : ℕ → ℕ) (n : ℕ) → placed h 0 x n ≡ 0
placed_none h x n = placed_each h 0 x n (λ v. v ≡ 0) (λ l. refl) (λ l k. absurd (omega arith)) (λ l. refl)

pub run_join : (b m : ℕ) (x : ℕ → ℕ) (n : ℕ) → run (b + m) x zeros n ≡ run b x zeros n + placed b m (λ t. x (b + t)) n
run_join b m x n =
    placed_each b m (λ t. x (b + t)) n (λ v. run (b + m) x zeros n ≡ run b x zeros n + v)
    (λ l. rw (run_low (b + m) x zeros n (omega arith), run_low b x zeros n l) (omega arith))
    (λ l k.
    let e : b + (n - b) ≡ n = omega arith in
    rw (run_low (b + m) x zeros n k, run_high b x zeros n l, e) (omega arith))
    (λ l. rw (run_high (b + m) x zeros n l, run_high b x zeros n (omega arith)))

pub placed_join : (h b m : ℕ) (x : ℕ → ℕ) (n : ℕ)
    → placed h (b + m) x n ≡ placed h b x n + placed (h + b) m (λ t. x (b + t)) n
placed_join h b m x n =
    run_same h zeros (run (b + m) x zeros) zeros _ (λ k l. refl) (run_join b m x) n
    ∙ run_sum h zeros (run b x zeros) zeros (placed b m (λ t. x (b + t))) n
    ∙ ap (λ (v : ℕ). placed h b x n + v) (run_run h b (run m (λ t. x (b + t)) zeros) n)

pub placed_same : (h b : ℕ) (x y : ℕ → ℕ) → ((t : ℕ) → t < b → x t ≡ y t) → (n : ℕ) → placed h b x n ≡ placed h b y n
placed_same h b x y e =
    run_same h zeros (run b x zeros) zeros (run b y zeros) (λ k l. refl) (run_same b x zeros y zeros e (λ k. refl))

pub placed_whole : (h b : ℕ) (y : ℕ → ℕ) (n : ℕ) → (n < h → y n ≡ 0) → (h + b ≤ n → y n ≡ 0)
    → placed h b (λ t. y (h + t)) n ≡ y n
placed_whole h b y n below above =
    placed_each h b (λ t. y (h + t)) n (λ v. v ≡ y n) (λ l. sym (below l)) (λ l k. ap y (omega arith))
    (λ l. sym (above l))

pub placed_moved : (h w b : ℕ) (x : ℕ → ℕ) (n : ℕ) → placed h (w + b) (run w zeros x) n ≡ placed (h + w) b x n
placed_moved h w b x n =
    placed_each (h + w) b x n (λ v. placed h (w + b) (run w zeros x) n ≡ v)
    (λ l. placed_each h (w + b) (run w zeros x) n (λ v. v ≡ 0) (λ k. refl)
    (λ k m. run_low w zeros x (n - h) (omega arith)) (λ k. refl))
    (λ l k.
    placed_in h (w + b) (run w zeros x) n (omega arith) (omega arith)
    ∙ run_high w zeros x (n - h) (omega arith)
    ∙ ap x (omega arith))
    (λ l. placed_above h (w + b) (run w zeros x) n (omega arith))

pub placed_fewer : (h b c : ℕ) (x : ℕ → ℕ) → c ≤ b → ((k : ℕ) → c ≤ k → x k ≡ 0) → (n : ℕ)
    → placed h b x n ≡ placed h c x n
placed_fewer h b c x l none n =
    placed_each h c x n (λ v. placed h b x n ≡ v)
    (λ k. placed_below h b x n k)
    (λ k m. placed_in h b x n k (omega arith))
    (λ k. placed_each h b x n (λ v. v ≡ 0) (λ q. refl) (λ q r. none (n - h) (omega arith)) (λ q. refl))
