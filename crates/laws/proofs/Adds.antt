-- Laws of bits added to bytes.
--
--   adds_none      what is 0 everywhere adds nothing
--   adds_then      one after the other
--   adds_as        by an equal function
--   adds_mod       by one that is equal mod 2
--   adds_same      what is left is single
--   adds_join      m more bits of a placed run
--   added s i x    s after an exclusive or of its byte i with the lowest eight bits of the number x
--   adds_byte      which adds these bits to those of the byte
--   adds_mid       what is added to a part, is added to the whole at its places
use mathlib.Core.Path.{◌≡◌, refl, sym, ap, ◌∙◌}
use mathlib.Core.List.{List}
use Prim.Native.Nat.{ℕ, ◌+◌, ◌-◌, ◌*◌, ◌/◌, ◌%◌, ◌^◌, ◌≤◌, ◌<◌}
use native.Mathlib.Decide.{ℕ_discrete}
use native.Mathlib.Omega.{arith}
use lib.Bits.{bit_xor}
use lib.ListN.{length, get_or, set, take, drop, length-set, length-take, length-drop}
use Rattle.rules.specs.Bits.{bit, Bytes, placed, Adds}
use Rattle.rules.specs.Words.{digit}
use Rattle.laws.proofs.Bits.{bit<, bit_xor_law, bit_set, bit_set_other, bit_part, mid, length_mid, bit_mid}
use Rattle.laws.proofs.Bits.{bit_below, bit_above, bits_same}
use Rattle.laws.proofs.Numbers.{digit_low}
use Rattle.laws.proofs.Runs.{placed_in, placed_each, placed_join}

pub adds_none : (s : List ℕ) (f : ℕ → ℕ) → ((n : ℕ) → f n ≡ 0) → Adds s s f
adds_none s f z = record { length_same = refl; each = λ n. omega (arith, z n, bit< s n) }

pub adds_then : {s t u : List ℕ} {f g : ℕ → ℕ} → Adds s t f → Adds t u g → Adds s u (λ n. f n + g n)
adds_then p q = record {
  length_same = q.length_same ∙ p.length_same;
  each = λ n. q.each n ∙ omega (arith, p.each n);
}

pub adds_as : {s t : List ℕ} {f g : ℕ → ℕ} → ((n : ℕ) → f n ≡ g n) → Adds s t f → Adds s t g
adds_as e p = record { length_same = p.length_same; each = λ n. rw (← e n) (p.each n) }

pub adds_mod : {s t : List ℕ} {f g : ℕ → ℕ} → ((n : ℕ) → f n % 2 ≡ g n % 2) → Adds s t f → Adds s t g
adds_mod e p = record { length_same = p.length_same; each = λ n. p.each n ∙ omega (arith, e n) }

pub adds_same : {s t u : List ℕ} {f : ℕ → ℕ} → Bytes t → Bytes u → Adds s t f → Adds s u f → t ≡ u
adds_same {s} {t} {u} bytes-t bytes-u p q =
    bits_same t u bytes-t bytes-u (p.length_same ∙ sym q.length_same) (λ n h. p.each n ∙ sym (q.each n))

pub adds_join : {s t u : List ℕ} (h b m : ℕ) (x : ℕ → ℕ) → Adds s t (placed h b x)
    → Adds t u (placed (h + b) m (λ k. x (b + k))) → Adds s u (placed h (b + m) x)
adds_join h b m x p q = adds_as (λ n. sym (placed_join h b m x n)) (adds_then p q)

abbrev pub added : List ℕ → ℕ → ℕ → List ℕ
added s i x = set s i (bit_xor (get_or s i 0) (x % 2 ^ 8))

module _ (s : List ℕ) (i x : ℕ) (h : i < length s) where
  same_byte : (n : ℕ) → n / 8 ≡ i → bit (added s i x) n ≡ (bit s n + placed (8 * i) 8 (digit x) n) % 2
  same_byte n e =
      let t : n - 8 * i ≡ n % 8 = omega arith in
      bit_set s i _ n h e
      ∙ bit_xor_law (get_or s i 0) _ (n % 8)
      ∙ rw (digit_low x 8 (n % 8) (omega arith), placed_in (8 * i) 8 (digit x) n (omega arith) (omega arith), t, e)

  other_byte : (n : ℕ) → (n / 8 ≡ i → ⊥) → placed (8 * i) 8 (digit x) n ≡ 0
  other_byte n d = placed_each (8 * i) 8 (digit x) n (λ v. v ≡ 0) (λ l. refl) (λ l k. absurd (d (omega arith)))
      (λ l. refl)

  pub adds_byte : Adds s (added s i x) (placed (8 * i) 8 (digit x))
  adds_byte = record {
    length_same = length-set s i _;
    each = λ n. elim (ℕ_discrete (n / 8) i) [
      | yes e ↦ same_byte n e
      | no d ↦ bit_set_other s i _ n d ∙ omega (arith, other_byte n d, bit< s n)
    ];
  }

module _ (s p : List ℕ) (a k : ℕ) (f : ℕ → ℕ) (fits : a + k ≤ length s) (q : Adds (take k (drop a s)) p f) where
  long : length p ≡ k
  long = q.length_same ∙ simp (length-take, length-drop) (omega arith)

  inside : (n : ℕ) → 8 * a ≤ n → n < 8 * a + 8 * k → bit (mid a k s p) n ≡ (bit s n + f (n - 8 * a)) % 2
  inside n l h =
      let e : 8 * a + (n - 8 * a) ≡ n = omega arith in
      ap (bit (mid a k s p)) (sym e)
      ∙ bit_mid s p a k fits long (n - 8 * a) (omega arith)
      ∙ q.each (n - 8 * a)
      ∙ rw (bit_part s a k (n - 8 * a) (omega arith), e)

  pub adds_mid : Adds s (mid a k s p) (placed (8 * a) (8 * k) f)
  adds_mid = record {
    length_same = length_mid s p a k fits long;
    each = λ n.
        placed_each (8 * a) (8 * k) f n (λ v. bit (mid a k s p) n ≡ (bit s n + v) % 2)
        (λ l. bit_below s p a k fits long n l ∙ omega (arith, bit< s n))
        (inside n)
        (λ l. bit_above s p a k fits long n (omega arith) ∙ omega (arith, bit< s n));
  }
