-- Paper 01, 'From payload to line word', step 3, for any code of which it is shown that for any checks one parity has
-- them as its own, and only one: then for any payload one parity makes every check hold, and only one.
--
--   OneParity c         what is to be shown of the code c, as `recipes` does by a recipe
--   payload_checks c x n check n of the payload x alone
--   PayloadChecks c x s the bits of s are these checks
--
--   places_parts        a full word's places are the payload places and then the parity places
--   check_run           a check of bits, and of more bits after them, is the sum mod 2 of the checks of both alone
--   full_same           words with the same payload places are equal where their bits at the parity places are
--   packed_clear        a bit after a run of b bits, in just its bytes, is 0
--   packed_same         bytes of runs of b bits are equal where these bits are
--   packed_run          bytes that hold b bits, and then zeros, are just the bytes of these bits
--   packed_bits         any b bits have such bytes
--   moved_bit           b bits that were added to bytes of zeros, from place 0 on, are these bits
--   moved_past          after them all is 0
--   moved_packed        and they are just the bytes of these bits, where they are as many as it takes
--   parity_as           a parity of a payload is one of any with the same payload places
--   padded_same         payloads are padded alike, where their K bits are equal
--   parity_filled       a parity of bits is one of K of them, where these fill the payload places
--   own_same            all bits of a parity with given own checks are single, as those after them are 0
--   parity_one          the bytes of a parity with given own checks are single
--   payload_parity      a parity whose own checks are the payload's makes every check hold
--   payload_own         a parity that makes every check hold has the payload's checks as its own
--   payload_found       so does one whose own checks are running checks that began as zeros and had the payload added
--   payload_exists      for any payload there is a parity that makes every check hold
--   parity_bits_one     its bits are single
--   payload_one         and so are its bytes
use mathlib.Core.Path.{◌≡◌, refl, sym, ap, ◌∙◌}
use mathlib.Core.List.{List}
use Prim.Native.Nat.{ℕ, ◌+◌, ◌-◌, ◌*◌, ◌%◌, ◌≤◌, ◌<◌}
use native.Mathlib.Decide.{dec_lt}
use native.Mathlib.Nat.{mul-add}
use native.Mathlib.Omega.{arith}
use lib.Dec.{lit<}
use lib.ListN.{length, replicate}
use Rattle.rules.specs.Bits.{bit, Bytes, need, zeros, run, placed, sum, Packed, Adds}
use Rattle.rules.specs.Matrix.{Code, places, checks, places_of_payload, check}
use Rattle.rules.specs.Words.{padded, full_word, Parity, OwnChecks}
use Rattle.rules.proofs.Checks.{check_below, check_same, check_zeros, check_sum}
use Rattle.laws.proofs.Bits.{bit<, bit_past, bits_same, pack, length_pack, bit_pack}
use Rattle.laws.proofs.Runs.{run_low, run_high, run_each, run_same, run_below, run_none, placed_bits}
use Rattle.laws.proofs.Running.{checks_again}
use Rattle.laws.proofs.Told.{not_different}

pub record OneParity (c : Code) : Type 0 where
  pub own_exists : (s : List ℕ) → (p : List ℕ) × Bytes p × OwnChecks c s p
  pub own_bits_one : (s p q : List ℕ) → OwnChecks c s p → OwnChecks c s q → (n : ℕ) → n < checks c → bit p n ≡ bit q n

pub places_parts : (c : Code) → c.rows ≤ c.columns → places c ≡ places_of_payload c + checks c
places_parts c h =
    let e : c.columns ≡ c.columns - c.rows + c.rows = omega arith in
    ap (λ (n : ℕ). c.size * n) e ∙ mul-add c.size (c.columns - c.rows) c.rows

pub full_same : (c : Code) → c.rows ≤ c.columns → (x y z : ℕ → ℕ) → ((n : ℕ) → n < checks c → y n ≡ z n)
    → (m : ℕ) → m < places c → run (places_of_payload c) x y m ≡ run (places_of_payload c) x z m
full_same c h x y z e m l =
    run_each (places_of_payload c) x y m (λ v. v ≡ run (places_of_payload c) x z m)
    (λ k. sym (run_low (places_of_payload c) x z m k))
    (λ k. e (m - places_of_payload c) (omega (arith, places_parts c h)) ∙ sym (run_high (places_of_payload c) x z m k))

pub check_run : (c : Code) (b n : ℕ) (x y : ℕ → ℕ)
    → check c n (run b x y) ≡ (check c n (run b x zeros) + check c n (run b zeros y)) % 2
check_run c b n x y =
    omega (arith, check_below c n (run b x y), check_zeros c n, check_sum c n (run b x y) zeros)
    ∙ check_same c n (sum (run b x y) zeros) (sum (run b x zeros) (run b zeros y))
    (λ p h. ap (λ (v : ℕ). v % 2) (parts p))
    ∙ check_sum c n (run b x zeros) (run b zeros y)
  where
    parts : (p : ℕ) → run b x y p + 0 ≡ run b x zeros p + run b zeros y p
    parts p =
        run_each b x y p (λ v. v + 0 ≡ run b x zeros p + run b zeros y p)
        (λ h. rw (run_low b x zeros p h, run_low b zeros y p h))
        (λ h. rw (run_high b x zeros p h, run_high b zeros y p h) (omega arith))

pub packed_clear : {b : ℕ} {s : List ℕ} → Packed b s → (n : ℕ) → b ≤ n → bit s n ≡ 0
packed_clear {b} {s} p n h = not_different (bit s n) 0 (λ d. p.unused (n, h, omega (arith, bit< s n)))

pub packed_same : {b : ℕ} {s t : List ℕ} → Packed b s → Packed b t → Bytes s → Bytes t
    → ((n : ℕ) → n < b → bit s n ≡ bit t n) → s ≡ t
packed_same {b} {s} {t} p q bytes-s bytes-t e = bits_same s t bytes-s bytes-t (p.bytes ∙ sym q.bytes) each
  where
    each : (n : ℕ) → n < 8 * length s → bit s n ≡ bit t n
    each n l = elim (dec_lt n b) [
      | yes h ↦ e n h
      | no h ↦ packed_clear p n (omega arith) ∙ sym (packed_clear q n (omega arith))
    ]

module _ (b : ℕ) (x : ℕ → ℕ) where
  pub packed_run : (s : List ℕ) → length s ≡ need b → ((n : ℕ) → n < 8 * need b → bit s n ≡ run b x zeros n)
      → Packed b s
  packed_run s long each = record {
    bytes = long;
    unused = λ u. elim (dec_lt u.0 (8 * need b)) [
      | yes h ↦ omega (arith, each u.0 h, run_high b x zeros u.0 u.1, u.2)
      | no h ↦ omega (arith, bit_past s u.0 (omega arith), u.2)
    ];
  }

  pub packed_bits : ((n : ℕ) → x n < 2) → (s : List ℕ) × Packed b s × ((n : ℕ) → n < b → bit s n ≡ x n)
  packed_bits below = (
    s,
    packed_run s (length_pack (need b) (run b x zeros)) each,
    λ n h. each n (omega arith) ∙ run_low b x zeros n h,
  )
    where
      s : List ℕ
      s = pack (need b) (run b x zeros)

      each : (n : ℕ) → n < 8 * need b → bit s n ≡ run b x zeros n
      each n h =
          bit_pack (need b) (run b x zeros) n h (run_below b x zeros (λ k l. below k) (λ k. lit< tt) n)

module _ (b : ℕ) {x : ℕ → ℕ} (below : (n : ℕ) → x n < 2) {s t : List ℕ} (clear : (n : ℕ) → bit s n ≡ 0)
    (a : Adds s t (placed 0 b x)) where
  moved_each : (n : ℕ) → bit t n ≡ run b x zeros n
  moved_each n =
      a.each n
      ∙ omega (arith, clear n, placed_bits 0 b x below n)
      ∙ run_none zeros (run b x zeros) n

  pub moved_bit : (n : ℕ) → n < b → bit t n ≡ x n
  moved_bit n h = moved_each n ∙ run_low b x zeros n h

  pub moved_past : (n : ℕ) → b ≤ n → bit t n ≡ 0
  moved_past n h = moved_each n ∙ run_high b x zeros n h

  pub moved_packed : length s ≡ need b → Packed b t
  moved_packed e = packed_run b x t (a.length_same ∙ e) (λ n h. moved_each n)

pub padded_same : (K : ℕ) {x y : ℕ → ℕ} → ((n : ℕ) → n < K → x n ≡ y n) → (n : ℕ) → padded K x n ≡ padded K y n
padded_same K {x} {y} e = run_same K x zeros y zeros e (λ n. refl)

module _ (c : Code) where
  abbrev pub payload_checks : (ℕ → ℕ) → ℕ → ℕ
  payload_checks x n = check c n (run (places_of_payload c) x zeros)

  abbrev pub PayloadChecks : (ℕ → ℕ) → List ℕ → Type 0
  PayloadChecks x s = (n : ℕ) → n < checks c → bit s n ≡ payload_checks x n

  module _ (x : ℕ → ℕ) (s p : List ℕ) (are : PayloadChecks x s) where
    pub payload_parity : OwnChecks c s p → Parity c x p
    payload_parity own = record {
      packed = own.packed;
      all_hold = λ n h. omega (arith, check_run c (places_of_payload c) n x (bit p), own.same n h, are n h);
    }

    pub payload_own : Parity c x p → OwnChecks c s p
    payload_own parity = record {
      packed = parity.packed;
      same = λ n h.
          let sum = check_run c (places_of_payload c) n x (bit p) in
          omega (arith, parity.all_hold n h, are n h, bit< s n, check_below c n (full_word c zeros p));
    }

  pub payload_found : (x y : ℕ → ℕ) (k : ℕ) (s p : List ℕ) → Adds (replicate k 0) s (λ n. check c n y)
      → ((n : ℕ) → n < places c → y n ≡ run (places_of_payload c) x zeros n) → OwnChecks c s p → Parity c x p
  payload_found x y k s p added same =
      payload_parity x s p (λ n h. checks_again c y k added n
      ∙ check_same c n y (run (places_of_payload c) x zeros) same)

  pub parity_as : {x y : ℕ → ℕ} {p : List ℕ} → ((n : ℕ) → n < places_of_payload c → x n ≡ y n) → Parity c x p
      → Parity c y p
  parity_as {x} {y} {p} e h = record {
    packed = h.packed;
    all_hold = λ n k.
        check_same c n (full_word c y p) (full_word c x p)
        (λ m l. run_same (places_of_payload c) y (bit p) x (bit p) (λ i j. sym (e i j)) (λ i. refl) m)
        ∙ h.all_hold n k;
  }

  pub parity_filled : (K : ℕ) {x : ℕ → ℕ} {p : List ℕ} → places_of_payload c ≤ K → Parity c x p
      → Parity c (padded K x) p
  parity_filled K {x} most = parity_as (λ n h. sym (run_low K x zeros n (omega arith)))

  -- the payload's checks, as bytes
  check_bytes : (ℕ → ℕ) → List ℕ
  check_bytes x = pack (need (checks c)) (payload_checks x)

  bytes_checks : (x : ℕ → ℕ) → PayloadChecks x (check_bytes x)
  unfolding check_bytes
  bytes_checks x n h =
      bit_pack (need (checks c)) (payload_checks x) n (omega arith)
      (check_below c n (run (places_of_payload c) x zeros))

  bytes_own : (x : ℕ → ℕ) (p : List ℕ) → Parity c x p → OwnChecks c (check_bytes x) p
  bytes_own x p = payload_own x (check_bytes x) p (bytes_checks x)

  module _ (one : OneParity c) where
    pub own_same : (s p q : List ℕ) → OwnChecks c s p → OwnChecks c s q → (n : ℕ) → bit p n ≡ bit q n
    own_same s p q own-p own-q n = elim (dec_lt n (checks c)) [
      | yes l ↦ one.own_bits_one s p q own-p own-q n l
      | no l ↦ packed_clear own-p.packed n (omega arith) ∙ sym (packed_clear own-q.packed n (omega arith))
    ]

    pub parity_one : (s p q : List ℕ) → Bytes p → Bytes q → OwnChecks c s p → OwnChecks c s q → p ≡ q
    parity_one s p q bytes-p bytes-q own-p own-q =
        packed_same own-p.packed own-q.packed bytes-p bytes-q (λ n h. own_same s p q own-p own-q n)

    pub payload_exists : (x : ℕ → ℕ) → (p : List ℕ) × Bytes p × Parity c x p
    payload_exists x =
        let p = one.own_exists (check_bytes x) in
        (p.0, p.1, payload_parity x (check_bytes x) p.0 (bytes_checks x) p.2)

    module _ (x : ℕ → ℕ) (p q : List ℕ) where
      pub parity_bits_one : Parity c x p → Parity c x q → (n : ℕ) → bit p n ≡ bit q n
      parity_bits_one parity-p parity-q = own_same (check_bytes x) p q (bytes_own x p parity-p) (bytes_own x q parity-q)

      pub payload_one : Bytes p → Bytes q → Parity c x p → Parity c x q → p ≡ q
      payload_one bytes-p bytes-q parity-p parity-q =
          parity_one (check_bytes x) p q bytes-p bytes-q (bytes_own x p parity-p) (bytes_own x q parity-q)
