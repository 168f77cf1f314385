-- Laws of reorderings of places, and of the lists that say them.
--
--   place_low, place_high   the place that a list of n entries names below n, and from n on
--   named_reorders          n entries that name each of n places are a reordering of them: none is left to name a place
--                           twice
--   listed_sound            a list that is not found at fault is one of a reordering
--   plain_listed            the list that changes nothing is one
--   plain_place             it names each place for itself
--   plain_exists            where an entry can hold each place, there is one
--   plain_same              and it is the only one
use mathlib.Core.Path.{◌≡◌, refl, sym, ap, subst, ◌∙◌}
use mathlib.Core.Bool.{cond}
use mathlib.Core.HLevel.{dec→stable}
use mathlib.Core.List.{List, [], ◌∷◌}
use Prim.Native.Nat.{ℕ, zero, suc, ◌+◌, ◌*◌, ◌/◌, ◌%◌, ◌≤◌, ◌<◌}
use native.Mathlib.Decide.{dec_lt, ℕ_discrete}
use native.Mathlib.Nat.{mod-lt}
use native.Mathlib.Omega.{arith}
use lib.Dec.{eqb, lit<}
use lib.ListN.{length, get_or}
use lib.Seq.{ext_get_or}
use borrow.Author.Tests.{lt-ltb, le-ltb, eq-eqb, ne_eqb}
use Rattle.rules.specs.Bits.{Bytes}
use Rattle.rules.specs.Lists.{Reordering, entry_of, Listed, place_in, Plain}
use Rattle.laws.proofs.Told.{not_different}

module _ (n : ℕ) (l : List ℕ) (t : ℕ) where
  pub place_low : t < n → place_in n l t ≡ entry_of l t
  unfolding place_in
  place_low h = rw lt-ltb

  pub place_high : n ≤ t → place_in n l t ≡ t
  unfolding place_in
  place_high h = rw le-ltb

-- what r names for 0 to n - 1 has each of n places
abbrev Names : ℕ → (ℕ → ℕ) → Type 0
Names n r = (p : ℕ) → p < n → (t : ℕ) × (t < n) × (r t ≡ p)

-- the places 0 to n without q, at the places below n: n stands at q, and each other at itself
without : ℕ → ℕ → ℕ → ℕ
without n q u = cond (eqb u q) n u

module _ (n q : ℕ) (h : q < suc n) where
  without_all : (t : ℕ) → t < suc n → (t ≡ q → ⊥) → (s : ℕ) × (s < n) × (without n q s ≡ t)
  unfolding without
  without_all t l d = elim (dec_lt t n) [
    | yes k ↦ (t, k, rw ne_eqb)
    | no k ↦ (q, omega arith, rw (eq-eqb q q refl) (omega arith))
  ]

  module _ (r : ℕ → ℕ) (e : r q ≡ n) where
    without_names : Names (suc n) r → Names n (λ u. r (without n q u))
    without_names f p l =
        let w = f p (omega arith) in
        let s = without_all w.0 w.1 (λ d. omega (arith, ap r d, e, w.2)) in
        (s.0, s.1, ap r s.2 ∙ w.2)

    module _ (g : Reordering n (λ u. r (without n q u))) where
      others_below : (t : ℕ) → t < suc n → (t ≡ q → ⊥) → r t < n
      others_below t l d =
          let s = without_all t l d in
          subst (λ (v : ℕ). r v < n) s.2 (g.below s.0 s.1)

      others_once : (s t : ℕ) → s < suc n → t < suc n → (s ≡ q → ⊥) → (t ≡ q → ⊥) → r s ≡ r t → s ≡ t
      others_once s t l k d c i =
          let a = without_all s l d in
          let b = without_all t k c in
          let j = g.once a.0 b.0 a.1 b.1 (ap r a.2 ∙ i ∙ sym (ap r b.2)) in
          sym a.2 ∙ ap (without n q) j ∙ b.2

      with_below : (t : ℕ) → t < suc n → r t < suc n
      with_below t l = elim (ℕ_discrete t q) [
        | yes d ↦ omega (arith, ap r d, e)
        | no d ↦ omega (arith, others_below t l d)
      ]

      -- what is named at q is named nowhere else
      q_once : (t : ℕ) → t < suc n → r t ≡ n → t ≡ q
      q_once t l i = not_different t q (λ d. omega (arith, others_below t l d, i))

      with_once : (s t : ℕ) → s < suc n → t < suc n → r s ≡ r t → s ≡ t
      with_once s t l k i = elim (ℕ_discrete (r s) n) [
        | yes d ↦ q_once s l d ∙ sym (q_once t k (sym i ∙ d))
        | no d ↦ others_once s t l k (λ c. d (ap r c ∙ e)) (λ c. d (i ∙ ap r c ∙ e)) i
      ]

pub named_reorders : (n : ℕ) (r : ℕ → ℕ) → ((p : ℕ) → p < n → (t : ℕ) × (t < n) × (r t ≡ p)) → Reordering n r
named_reorders zero r f = record {
  below = λ t l. absurd (omega arith);
  named = f;
  once = λ s t l. absurd (omega arith);
}
named_reorders (suc n) r f =
    let w = f n (omega arith) in
    let g = named_reorders n (λ u. r (without n w.0 u)) (without_names n w.0 w.1 r w.2 f) in
    record {
      below = with_below n w.0 w.1 r w.2 g;
      named = f;
      once = with_once n w.0 w.1 r w.2 g;
    }

-- a search of the numbers below n
some_dec : (P : ℕ → Type 0) → ((t : ℕ) → Dec (P t)) → (n : ℕ) → Dec ((t : ℕ) × (t < n) × P t)
some_dec P d zero = no (λ w. omega (arith, w.1))
some_dec P d (suc n) = elim (some_dec P d n) [
  | yes w ↦ yes (w.0, omega (arith, w.1), w.2)
  | no f ↦ elim (d n) [
    | yes p ↦ yes (n, omega arith, p)
    | no g ↦ no (λ w.
        let e = not_different w.0 n (λ c. f (w.0, omega (arith, w.1), w.2)) in
        g (subst P e w.2))
  ]
]

reordering_sound : (n : ℕ) (r : ℕ → ℕ) → ((Reordering n r → ⊥) → ⊥) → Reordering n r
reordering_sound n r h =
    named_reorders n r
    (λ p l. dec→stable (some_dec (λ t. r t ≡ p) (λ t. ℕ_discrete (r t) p) n) (λ f. h (λ g. f (g.named p l))))

pub listed_sound : (n : ℕ) (l : List ℕ) → ((length l ≡ 2 * n → ⊥) → ⊥) → ((Reordering n (entry_of l) → ⊥) → ⊥)
    → Listed n l
listed_sound n l h k =
    record { bytes = not_different (length l) (2 * n) h; reorders = reordering_sound n (entry_of l) k }

pub plain_listed : (n : ℕ) (l : List ℕ) → Plain n l → Listed n l
plain_listed n l h =
    record { bytes = h.bytes; reorders = named_reorders n (entry_of l) (λ p k. (p, k, h.kept p k)) }

place_plain : (n : ℕ) (l : List ℕ) → Plain n l → (t : ℕ) → place_in n l t ≡ t
place_plain n l h t = elim (dec_lt t n) [
  | yes k ↦ place_low n l t k ∙ h.kept t k
  | no k ↦ place_high n l t (omega arith)
]

pub plain_place : (n : ℕ) (l : List ℕ) → Plain n l → place_in n l ≡ (λ t. t)
plain_place n l h = λ i t. place_plain n l h t i

-- n entries, k and those that follow it
counted : ℕ → ℕ → List ℕ
counted k zero = []
counted k (suc n) = k % 256 ∷ k / 256 % 256 ∷ counted (suc k) n

length_counted : (k n : ℕ) → length (counted k n) ≡ 2 * n
unfolding counted
length_counted k zero = refl
length_counted k (suc n) = omega (arith, length_counted (suc k) n)

bytes_counted : (k n : ℕ) → Bytes (counted k n)
unfolding counted
bytes_counted k zero i = lit< tt
bytes_counted k (suc n) zero = mod-lt k (lit< tt)
bytes_counted k (suc n) (suc zero) = mod-lt (k / 256) (lit< tt)
bytes_counted k (suc n) (suc (suc i)) = bytes_counted (suc k) n i

counted_entry : (k n : ℕ) → k + n ≤ 65536 → (t : ℕ) → t < n → entry_of (counted k n) t ≡ k + t
unfolding counted
counted_entry k zero h t l = absurd (omega arith)
counted_entry k (suc n) h zero l = omega arith
counted_entry k (suc n) h (suc t) l =
    let e : 2 * suc t ≡ suc (suc (2 * t)) = omega arith in
    let e' : 2 * suc t + 1 ≡ suc (suc (2 * t + 1)) = omega arith in
    rw (e', e) (omega (arith, counted_entry (suc k) n (omega arith) t (omega arith)))

pub plain_exists : (n : ℕ) → n ≤ 65536 → (l : List ℕ) × Bytes l × Plain n l
plain_exists n h = (
  counted 0 n,
  bytes_counted 0 n,
  record {
    bytes = length_counted 0 n;
    kept = λ t l. omega (arith, counted_entry 0 n (omega arith) t l);
  },
)

module _ (n : ℕ) (l m : List ℕ) (a : Bytes l) (b : Bytes m) (p : Plain n l) (q : Plain n m) where
  low_same : (t : ℕ) → t < n → get_or l (2 * t) 0 ≡ get_or m (2 * t) 0
  low_same t h = omega (arith, a (2 * t), b (2 * t), p.kept t h, q.kept t h)

  high_same : (t : ℕ) → t < n → get_or l (2 * t + 1) 0 ≡ get_or m (2 * t + 1) 0
  high_same t h = omega (arith, a (2 * t), b (2 * t), p.kept t h, q.kept t h)

  byte_same : (i : ℕ) → i < length l → get_or l i 0 ≡ get_or m i 0
  byte_same i h =
      let k : i / 2 < n = omega arith in
      elim (ℕ_discrete i (2 * (i / 2))) [
        | yes e ↦ subst (λ (v : ℕ). get_or l v 0 ≡ get_or m v 0) (sym e) (low_same (i / 2) k)
        | no d ↦
            let e : 2 * (i / 2) + 1 ≡ i = omega arith in
            subst (λ (v : ℕ). get_or l v 0 ≡ get_or m v 0) e (high_same (i / 2) k)
      ]

pub plain_same : (n : ℕ) (l m : List ℕ) → Bytes l → Bytes m → Plain n l → Plain n m → l ≡ m
plain_same n l m a b p q = ext_get_or 0 l m (p.bytes ∙ sym q.bytes) (byte_same n l m a b p q)
