-- A recipe as the code follows it: registers are bits one after another, and a step is one number. Any size and recipe.
--
--   code c              the step c as a number: its target, its source and its turn
--   codes cs            the steps cs so, as the code's constant has them
--   coded n z gs        the test of a recipe: registers and turns fit such a number, every register is below n, and
--                       every turn below z
--
--   followed_none       before the first step
--   followed_more       after one step more, which is added to the bytes
--   codes_fit           the steps of a recipe that passes the test fit, where n registers do
--   followed_own        after the steps of a recipe that solves a code, from checks and then zeros, the registers from
--                       o on hold a parity that has these checks as its own
use mathlib.Core.Path.{◌≡◌, refl, sym, ap, ap₂, ◌∙◌, fun_ext}
use mathlib.Core.Bool.{Bool}
use mathlib.Core.List.{List, [], ◌∷◌}
use Prim.Native.Nat.{ℕ, zero, suc, ◌+◌, ◌-◌, ◌*◌, ◌/◌, ◌%◌, ◌≤◌, ◌<◌}
use native.Mathlib.Decide.{dec_lt, ℕ_discrete}
use native.Mathlib.Nat.{mod-lt, not-suc-le-zero, le_of_suc-le-suc, mul-le-mul_left, mul-suc, mul-add, div-add-mod}
use native.Mathlib.Numerals.{add-one}
use native.Mathlib.Omega.{arith}
use lib.Dec.{T, eqb, ltb, leb, ltb→lt, leb→le, lit<}
use lib.ListN.{length, get_or, take}
use borrow.Author.Tests.{eq-eqb, ne_eqb, lt-ltb, le-ltb}
use Rattle.rules.specs.Bits.{bit, placed, Packed, Adds}
use Rattle.rules.specs.Matrix.{Code, checks}
use Rattle.rules.specs.Words.{OwnChecks}
use Rattle.rules.proofs.Tests.{both, both_left, both_right, all, as_bit, as_bit_bit_law, as_bit_told_law}
use Rattle.rules.proofs.Checks.{block_of, place_below, block_below}
use Rattle.laws.proofs.Bits.{bit<}
use Rattle.laws.proofs.Runs.{placed_in, placed_each, placed_bits}
use Rattle.recipes.specs.Steps.{target, source, turn, stepped, followed, StepFits, Followed}
use Rattle.recipes.proofs.Sums.{◌⊕◌, xor_none}
use Rattle.recipes.proofs.Recipe.{Blocks, leading, Near, Step, add, step, follow, Group, flat, step_near}
use Rattle.recipes.proofs.Places.{bits, as_bit_sum_law}
use Rattle.recipes.proofs.Parity.{Solves, parity_found}

abbrev pub code : Step → ℕ
code (add d s a) = 16777216 * (a / 256) + 65536 * d + 256 * s + a % 256

abbrev pub codes : List Step → List ℕ
codes [] = []
codes (c ∷ cs) = code c ∷ codes cs

-- how many registers, and turns, such a number has room for
abbrev registers_most : ℕ
registers_most = 256

abbrev turns_most : ℕ
turns_most = 65536

abbrev room : ℕ → ℕ → Bool
room n z = both (leb n registers_most) (leb z turns_most)

abbrev in_range : ℕ → ℕ → Step → Bool
in_range n z (add d s a) = both (ltb d n) (both (ltb s n) (ltb a z))

abbrev pub coded : ℕ → ℕ → List Group → Bool
coded n z gs = both (room n z) (all (in_range n z) (flat gs))

pub followed_none : (z : ℕ) (es s : List ℕ) → Followed z (take 0 es) s s
unfolding followed
followed_none z es s = record { length_same = refl; each = λ n. refl }

-- the bits after one step more
more : (z : ℕ) (es : List ℕ) (k : ℕ) (x : ℕ → ℕ) → k < length es
    → followed z (take (suc k) es) x ≡ stepped z (get_or es k 0) (followed z (take k es) x)
unfolding followed
more z [] k x h = absurd (not-suc-le-zero h)
more z (e ∷ es) zero x h = refl
more z (e ∷ es) (suc k) x h = more z es k (stepped z e x) (le_of_suc-le-suc h)

pub followed_more : (z : ℕ) (es : List ℕ) (k e : ℕ) {s t u : List ℕ} → k < length es → get_or es k 0 ≡ e
    → Followed z (take k es) s t → Adds t u (placed (z * target e) z (λ n. bit t (z * source e + (n + turn e) % z)))
    → Followed z (take (k + 1) es) s u
unfolding stepped
followed_more z es k e {s} h is before added = record {
  length_same = added.length_same ∙ before.length_same;
  each = λ n.
      added.each n
      ∙ ap (λ (x : ℕ → ℕ). stepped z e x n) (fun_ext before.each)
      ∙ rw (add-one k, more z es k (bit s) h, is);
}

sum_bit : (u v : ℕ) → u < 2 → v < 2 → eqb ((u + v) % 2) 1 ≡ eqb u 1 ⊕ eqb v 1
sum_bit u v hu hv =
    ap₂ (λ (m n : ℕ). eqb ((m + n) % 2) 1) (sym (as_bit_bit_law u hu)) (sym (as_bit_bit_law v hv))
    ∙ ap (λ (n : ℕ). eqb n 1) (as_bit_sum_law (eqb u 1) (eqb v 1))
    ∙ as_bit_told_law (eqb u 1 ⊕ eqb v 1)

-- a step of bits is a step of their blocks
module _ (z d s a : ℕ) (x : ℕ → ℕ) (are : (n : ℕ) → x n < 2) where
  abbrev addend : ℕ → ℕ
  addend = placed (z * d) z (λ t. x (z * s + (t + a) % z))

  here : (r : ℕ) → r < z → addend (z * d + r) ≡ x (z * s + (r + a) % z)
  here r h =
      placed_in (z * d) z _ (z * d + r) (omega arith) (omega arith)
      ∙ ap (λ (t : ℕ). x (z * s + (t + a) % z)) (omega arith)

  elsewhere : (k r : ℕ) → r < z → (k ≡ d → ⊥) → addend (z * k + r) ≡ 0
  elsewhere k r h other =
      placed_each (z * d) z _ (z * k + r) (λ v. v ≡ 0) (λ l. refl)
      (λ l m.
      let t = z * k + r - z * d in
      let same : z * k + r ≡ z * d + t = omega arith in
      absurd (other (sym (block_of z k r h) ∙ ap (λ (n : ℕ). n / z) same ∙ block_of z d t (omega arith))))
      (λ l. refl)

  sum_step : (k r : ℕ) → r < z
      → eqb ((x (z * k + r) + addend (z * k + r)) % 2) 1 ≡ step z (add d s a) (bits z x) k r
  sum_step k r h =
      sum_bit _ _ (are (z * k + r)) (placed_bits (z * d) z _ (λ t. are _) (z * k + r))
      ∙ elim (ℕ_discrete k d) [
        | yes e ↦ rw (e, eq-eqb d d refl, here r h)
        | no n ↦ rw (ne_eqb k d n, elsewhere k r h n) (xor_none (eqb (x (z * k + r)) 1))
      ]

-- a number's parts are those of its step, and in range
record Parts (n z e : ℕ) (c : Step) : Type 0 where
  same : add (target e) (source e) (turn e) ≡ c
  target_below : target e < n
  source_below : source e < n
  turn_below : turn e < z

-- the digits of a number in base 256, of which the first may be larger
module _ (q d s r : ℕ) (hd : d < 256) (hs : s < 256) (hr : r < 256) where
  abbrev whole : ℕ
  whole = 16777216 * q + 65536 * d + 256 * s + r

  whole_target : target whole ≡ d
  whole_target = let e : whole / 65536 ≡ 256 * q + d = omega arith in omega arith

  whole_source : source whole ≡ s
  whole_source = let e : whole / 256 ≡ 65536 * q + 256 * d + s = omega arith in omega arith

  whole_turn : turn whole ≡ r + 256 * q
  whole_turn =
      let e : whole / 16777216 ≡ q = omega arith in
      let f : whole % 256 ≡ r = omega arith in
      omega arith

module _ (n z : ℕ) (few : n ≤ registers_most) (short : z ≤ turns_most) where
  parts : (c : Step) → T (in_range n z c) → Parts n z (code c) c
  parts (add d s a) t =
      let rest = both_right (ltb d n) (both (ltb s n) (ltb a z)) t in
      let hd = ltb→lt d n (both_left (ltb d n) (both (ltb s n) (ltb a z)) t) in
      let hs = ltb→lt s n (both_left (ltb s n) (ltb a z) rest) in
      let ha = ltb→lt a z (both_right (ltb s n) (ltb a z) rest) in
      let q = a / 256 in
      let r = a % 256 in
      let small : r < 256 = omega arith in
      let ed : target (code (add d s a)) ≡ d = whole_target q d s r (omega arith) (omega arith) small in
      let es : source (code (add d s a)) ≡ s = whole_source q d s r (omega arith) (omega arith) small in
      let turned = whole_turn q d s r (omega arith) (omega arith) small in
      let ea : turn (code (add d s a)) ≡ a = omega (arith, turned) in
      record { same = cc; target_below = rw ed hd; source_below = rw es hs; turn_below = rw ea ha }

  register_fits : (k b : ℕ) → k < n → z * n ≤ b → z * k + z ≤ b
  register_fits k b h l = omega (arith, mul-le-mul_left z h, mul-suc z k)

  steps_fit : (b : ℕ) → z * n ≤ b → (cs : List Step) → T (all (in_range n z) cs) → (k : ℕ) → k < length (codes cs)
      → StepFits z b (get_or (codes cs) k 0)
  steps_fit b l [] t k h = absurd (not-suc-le-zero h)
  steps_fit b l (c ∷ cs) t zero h =
      let p = parts c (both_left (in_range n z c) (all (in_range n z) cs) t) in
      record {
        target_fits = register_fits _ b p.target_below l;
        source_fits = register_fits _ b p.source_below l;
        turn_below = p.turn_below;
      }
  steps_fit b l (c ∷ cs) t (suc k) h =
      steps_fit b l cs (both_right (in_range n z c) (all (in_range n z) cs) t) k (le_of_suc-le-suc h)

  steps_near : 0 < z → (cs : List Step) → T (all (in_range n z) cs) → (x : ℕ → ℕ) (y : Blocks) → ((k : ℕ) → x k < 2)
      → Near z n (bits z x) y → Near z n (bits z (followed z (codes cs) x)) (follow z cs y)
  unfolding followed stepped
  steps_near some [] t x y are near = near
  steps_near some (c ∷ cs) t x y are near =
      let p = parts c (both_left (in_range n z c) (all (in_range n z) cs) t) in
      let e = code c in
      steps_near some cs (both_right (in_range n z c) (all (in_range n z) cs) t) (stepped z e x) (step z c y)
      (λ k. mod-lt _ (lit< tt))
      (λ k r hk hr.
      sum_step z (target e) (source e) (turn e) x are k r hr
      ∙ step_near z n some _ _ (turn e) p.target_below p.source_below (bits z x) y near k r hk hr
      ∙ ap (λ (c : Step). step z c y k r) p.same)

module _ {c : Code} {R : List Group} {n o B M : ℕ} (S : Solves c R n o B M) (test : T (coded n c.size R))
    {es : List ℕ} (are : es ≡ codes (flat R)) where
  abbrev z : ℕ
  z = c.size

  few : n ≤ registers_most
  few = leb→le n registers_most (both_left (leb n registers_most) (leb z turns_most) (both_left (room n z) _ test))

  short : z ≤ turns_most
  short = leb→le z turns_most (both_right (leb n registers_most) (leb z turns_most) (both_left (room n z) _ test))

  within : T (all (in_range n z) (flat R))
  within = both_right (room n z) _ test

  pub codes_fit : (b : ℕ) → c.size * n ≤ b → (k : ℕ) → k < length es → StepFits c.size b (get_or es k 0)
  codes_fit b l = rw are (steps_fit n z few short b l (flat R) within)

  module _ (x y s p : List ℕ) (begins : (t : ℕ) → t < checks c → bit x t ≡ bit s t)
      (clear : (t : ℕ) → checks c ≤ t → bit x t ≡ 0) (done : Followed c.size es x y) (packed : Packed (checks c) p)
      (ends : (t : ℕ) → t < checks c → bit p t ≡ bit y (c.size * o + t)) where
    begun : Near z n (bits z (bit x)) (leading c.rows (bits z (bit s)))
    begun k r hk hr = elim (dec_lt k c.rows) [
      | yes h ↦ rw (lt-ltb k c.rows h, begins (z * k + r) (place_below z k c.rows r h hr))
      | no h ↦
          let l : c.rows ≤ k = omega arith in
          rw (le-ltb k c.rows l, clear (z * k + r) (omega (arith, mul-le-mul_left z l)))
    ]

    made : (t : ℕ) → t < checks c → bit p t ≡ as_bit (follow z (flat R) (bits z (bit x)) (o + t / z) (t % z))
    made t h =
        let k = o + t / z in
        let place : z * o + t ≡ z * k + t % z = omega (arith, mul-add z o (t / z), div-add-mod t z) in
        let near = steps_near n z few short S.some (flat R) within (bit x) _ (bit< x) (λ k r hk hr. refl) in
        ends t h
        ∙ ap (bit y) place
        ∙ sym (as_bit_bit_law _ (bit< y (z * k + t % z)))
        ∙ ap (λ (v : ℕ). as_bit (eqb v 1)) (done.each (z * k + t % z))
        ∙ rw are (ap as_bit (near k (t % z) (omega (arith, block_below z c.rows t h, S.room)) (mod-lt t S.some)))

    pub followed_own : OwnChecks c s p
    followed_own = record {
      packed = packed;
      same = parity_found S (bits z (bit x)) (bit s) (bit p) (λ t h. bit< s t) begun made;
    }
