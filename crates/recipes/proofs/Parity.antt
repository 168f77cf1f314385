-- For any checks there is one parity that has them, and only one: for any code, and any recipe that passes its computed
-- tests.
--
--   parity_entry c i j  the entry of block row i, parity block j
--   own_checks c p t    check t of the parity p alone, behind a payload of zeros
--   Solves c R n o B M  the recipe R solves the parity of the code c, over n registers: the first hold the checks at
--                       the start, and those from o on the parity at the end. The sizes fit, and the recipe passes its
--                       tests; these compute with the base B, and with M, which is B to the block size, less 1
--
--   check_blocks           the own checks of a parity are the checks of its blocks
--   parity_single          two parities that have the same own checks are the same
--   parity_found           what the recipe makes of checks is a parity that has them
--   solves_one             so there is one parity, and only one, as bytes
use mathlib.Core.Path.{◌≡◌, refl, sym, ap, ◌∙◌}
use mathlib.Core.Bool.{Bool}
use mathlib.Core.List.{List}
use Prim.Native.Nat.{ℕ, zero, suc, ◌+◌, ◌-◌, ◌*◌, ◌/◌, ◌%◌, ◌^◌, ◌≤◌, ◌<◌}
use native.Mathlib.Decide.{dec_lt}
use native.Mathlib.Nat.{add-zero, add-suc, mul-add, mod-lt}
use native.Mathlib.Omega.{arith}
use lib.Dec.{T, eqb, lit<}
use lib.IntN.{ℤ, pos, negsuc}
use Rattle.rules.specs.Bits.{bit, need, zeros, run}
use Rattle.rules.specs.Matrix.{Code, checks, places_of_payload, entry, total, check}
use Rattle.rules.specs.Terms.{spot, through, term}
use Rattle.rules.proofs.Tests.{all, every, as_bit, as_bit_bit_law, as_bit_below_law}
use Rattle.rules.proofs.Sums.{total_none}
use Rattle.rules.proofs.Checks.{place_below, check_below, check_columns}
use Rattle.laws.proofs.Bits.{bit<, bit_past, pack, length_pack, bytes_pack, bit_pack}
use Rattle.laws.proofs.Runs.{run_low, run_high, run_below}
use Rattle.laws.proofs.Parities.{OneParity}
use Rattle.recipes.proofs.Sums.{sums}
use Rattle.recipes.proofs.Recipe.{Blocks, leading, Near, follow, Group, flat, sound, follow_near}
use Rattle.recipes.proofs.Blocks.{seen, block_checks, checks_near, leading_near}
use Rattle.recipes.proofs.Computed.{back, forth}
use Rattle.recipes.proofs.Solve.{blocks_again, blocks_found}
use Rattle.recipes.proofs.Places.{AreBits, bits, as_bit_sum_law, runs_same, bits_as_bit_law}

abbrev pub parity_entry : Code → ℕ → ℕ → ℤ
parity_entry c i j = entry c i (c.columns - c.rows + j)

abbrev pub own_checks : Code → (ℕ → ℕ) → ℕ → ℕ
own_checks c p t = check c t (run (places_of_payload c) zeros p)

pub record Solves (c : Code) (R : List Group) (n o B M : ℕ) : Type 0 where
  pub some : 0 < c.size
  pub columns : c.rows ≤ c.columns
  pub room : o + c.rows ≤ n
  pub base : suc M ≡ B ^ c.size
  pub above : 1 < M
  pub sounds : T (all (sound n) R)
  pub backs : T (every c.rows (back B c.size M c.rows o (parity_entry c) R))
  pub forths : T (every c.rows (forth B c.size M c.rows o (parity_entry c) R))

-- a sum mod 2 of terms that are 0 below k, and from there on bits
total_bits : (k m : ℕ) (f : ℕ → ℕ) (b : ℕ → Bool) → ((j : ℕ) → j < k → f j ≡ 0)
    → ((j : ℕ) → j < m → f (k + j) ≡ as_bit (b j)) → total (k + m) f % 2 ≡ as_bit (sums m b)
unfolding total
total_bits k zero f b low high = rw (add-zero k, total_none k f low)
total_bits k (suc m) f b low high =
    rw (add-suc k m, ← as_bit_sum_law (sums m b) (b m), ← high m (omega arith))
    (omega (arith, total_bits k m f b low (λ j h. high j (omega arith))))

module _ (Z k : ℕ) (some : 0 < Z) (p : ℕ → ℕ) (j : ℕ) where
  spot_low : (a : ℤ) (r : ℕ) → j < k → spot Z a (λ t. run (Z * k) zeros p (Z * j + t)) r ≡ 0
  spot_low (pos a) r h = run_low (Z * k) zeros p _ (place_below Z j k ((r + a) % Z) h (mod-lt (r + a) some))
  spot_low (negsuc b) r h = refl

  word_high : (t : ℕ) → run (Z * k) zeros p (Z * (k + j) + t) ≡ p (Z * j + t)
  word_high t = let e = mul-add Z k j in run_high (Z * k) zeros p _ (omega arith) ∙ ap p (omega arith)

  spot_high : (a : ℤ) (r : ℕ) → ((t : ℕ) → t < Z → p (Z * j + t) < 2)
      → spot Z a (λ t. run (Z * k) zeros p (Z * (k + j) + t)) r ≡ as_bit (seen Z a (bits Z p j) r)
  spot_high (pos a) r are = word_high ((r + a) % Z) ∙ sym (as_bit_bit_law _ (are ((r + a) % Z) (mod-lt (r + a) some)))
  spot_high (negsuc b) r are = refl

module _ (c : Code) (some : 0 < c.size) (columns : c.rows ≤ c.columns) (p : ℕ → ℕ) (are : AreBits (checks c) p)
    (t : ℕ) where
  abbrev k : ℕ
  k = c.columns - c.rows

  low : (j : ℕ) → j < k → term c t (run (c.size * k) zeros p) j ≡ 0
  unfolding through entry
  low j h = spot_low c.size k some p j (entry c (t / c.size) j) (t % c.size) h

  high : (j : ℕ) → j < c.rows → term c t (run (c.size * k) zeros p) (k + j)
      ≡ as_bit (seen c.size (parity_entry c (t / c.size) j) (bits c.size p j) (t % c.size))
  unfolding through entry
  high j h =
      spot_high c.size k some p j (parity_entry c (t / c.size) j) (t % c.size)
      (λ u l. are (c.size * j + u) (place_below c.size j c.rows u h l))

  pub check_blocks : own_checks c p t
      ≡ as_bit (block_checks c.size (parity_entry c) c.rows (bits c.size p) (t / c.size) (t % c.size))
  check_blocks =
      let e : c.columns ≡ k + c.rows = omega arith in
      check_columns c some t (run (places_of_payload c) zeros p)
      ∙ ap (λ (m : ℕ). total m (term c t (run (places_of_payload c) zeros p)) % 2) e
      ∙ total_bits k c.rows (term c t (run (places_of_payload c) zeros p)) _ low high

module _ {c : Code} {R : List Group} {n o B M : ℕ} (S : Solves c R n o B M) where
  abbrev Z : ℕ
  Z = c.size

  abbrev m : ℕ
  m = c.rows

  abbrev checked : (ℕ → ℕ) → Blocks
  checked p = block_checks Z (parity_entry c) m (bits Z p)

  abbrev made : Blocks → Blocks
  made x i = follow Z (flat R) x (o + i)

  own_near : (p : ℕ → ℕ) → AreBits (checks c) p → Near Z m (bits Z (own_checks c p)) (checked p)
  own_near p are =
      bits_as_bit_law Z m (own_checks c p) (checked p) (λ t h. check_blocks c S.some S.columns p are t)

  made_near : (x y : Blocks) → Near Z n x y → Near Z m (made x) (made y)
  made_near x y near i r hi hr =
      follow_near Z n S.some R S.sounds x y near (o + i) r (omega (arith, S.room)) hr

  again : (p : ℕ → ℕ) → Near Z m (made (leading m (checked p))) (bits Z p)
  again p =
      blocks_again B Z M m S.base S.above S.some n o (parity_entry c) R S.sounds S.backs (bits Z p)

  pub parity_single : (p q : ℕ → ℕ) → AreBits (checks c) p → AreBits (checks c) q
      → ((t : ℕ) → t < checks c → own_checks c p t ≡ own_checks c q t) → (t : ℕ) → t < checks c → p t ≡ q t
  parity_single p q are_p are-q same = runs_same Z m S.some p q are_p are-q blocks_same
    where
      checked_same : Near Z m (checked p) (checked q)
      checked_same i r hi hr =
          sym (own_near p are_p i r hi hr)
          ∙ ap (λ (a : ℕ). eqb a 1) (same (Z * i + r) (place_below Z i m r hi hr))
          ∙ own_near q are-q i r hi hr

      blocks_same : Near Z m (bits Z p) (bits Z q)
      blocks_same i r hi hr =
          sym (again p i r hi hr)
          ∙ made_near _ _ (leading_near Z m n (checked p) (checked q) checked_same) i r hi hr
          ∙ again q i r hi hr

  pub parity_found : (x : Blocks) (s p : ℕ → ℕ) → AreBits (checks c) s
      → Near c.size n x (leading c.rows (bits c.size s))
      → ((t : ℕ) → t < checks c → p t ≡ as_bit (follow c.size (flat R) x (o + t / c.size) (t % c.size)))
      → (t : ℕ) → t < checks c → own_checks c p t ≡ s t
  parity_found x s p are-s begun Made-bits =
      runs_same Z m S.some (own_checks c p) s (λ t h. check_below c t _) are-s checks_same
    where
      are_p : AreBits (checks c) p
      are_p t h = rw (Made-bits t h) (as_bit_below_law (made x (t / Z) (t % Z)))

      blocks_same : Near Z m (bits Z p) (made (leading m (bits Z s)))
      blocks_same i r hi hr = bits_as_bit_law Z m p (made x) Made-bits i r hi hr ∙ made_near x _ begun i r hi hr

      checks_same : Near Z m (bits Z (own_checks c p)) (bits Z s)
      checks_same i r hi hr =
          own_near p are_p i r hi hr
          ∙ checks_near Z S.some (parity_entry c) m (bits Z p) _ blocks_same i r
          ∙ blocks_found B Z M m S.base S.above S.some n o (parity_entry c) R S.sounds S.forths
          (bits Z s) i r hi hr

  -- the parity that the recipe makes of the checks s: its bits, and then zeros
  abbrev found : List ℕ → ℕ → Bool
  found s t = made (leading m (bits Z (bit s))) (t / Z) (t % Z)

  abbrev ends : List ℕ → ℕ → ℕ
  ends s t = as_bit (found s t)

  abbrev parity_of : List ℕ → ℕ → ℕ
  parity_of s = run (checks c) (ends s) zeros

  parity_bit : (s : List ℕ) (t : ℕ) → bit (pack (need (checks c)) (parity_of s)) t ≡ parity_of s t
  parity_bit s t = elim (dec_lt t (8 * need (checks c))) [
    | yes h ↦
        bit_pack (need (checks c)) (parity_of s) t h
        (run_below (checks c) (ends s) zeros (λ n l. as_bit_below_law (found s n)) (λ n. lit< tt) t)
    | no h ↦
        bit_past (pack (need (checks c)) (parity_of s)) t (omega (arith, length_pack (need (checks c)) (parity_of s)))
        ∙ sym (run_high (checks c) (ends s) zeros t (omega arith))
  ]

  pub solves_one : OneParity c
  solves_one = record {
    own_exists = λ s.
        let b = need (checks c) in
        let p = pack b (parity_of s) in (
          p,
          bytes_pack b (parity_of s),
          record {
            packed = record {
              bytes = length_pack b (parity_of s);
              unused = λ u. omega (arith, u.2, parity_bit s u.0, run_high (checks c) (ends s) zeros u.0 u.1);
            };
            same = parity_found (leading m (bits Z (bit s))) (bit s) (bit p) (λ t h. bit< s t) (λ k r hk hr. refl)
                (λ t h. parity_bit s t ∙ run_low (checks c) (ends s) zeros t h);
          },
        );
    own_bits_one = λ s p q own-p own-q.
        parity_single (bit p) (bit q) (λ t h. bit< p t) (λ t h. bit< q t)
        (λ t h. own-p.same t h ∙ sym (own-q.same t h));
  }
