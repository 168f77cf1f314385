-- Lists of a pair, joined and cut.
--
--   joined a t b u    what the room has after each list was put at its place: a over t's place, then b, then u
--   joined_is         it begins with a, then b
--   plain_joined      so two lists that change nothing make such a pair
--   pair_same         one answer only fits a pair
use mathlib.Core.Path.{◌≡◌, sym}
use mathlib.Core.Logic.{inl, inr}
use mathlib.Core.List.{List, ◌++◌, append_assoc}
use Prim.Native.Nat.{ℕ, ◌*◌}
use native.Mathlib.Omega.{arith}
use lib.ListN.{length, take, length-append}
use lib.Seq.{take_at, drop_at}
use Rattle.io.specs.Counts.{IsPrefixLen}
use Rattle.io.proofs.Counting.{prefix_len_of_le}
use Rattle.rules.specs.Matrix.{checks, places_of_payload}
use Rattle.rules.specs.Table.{fibre}
use Rattle.rules.specs.Lists.{Plain}
use Rattle.laws.proofs.Lent.{not_bad}
use Rattle.answers.specs.declared.Said.{Said}
use Rattle.codes.specs.Codes.{pair_bytes, PlainPair, PairSaid}

-- the bytes of the first list
abbrev front : ℕ
front = 2 * places_of_payload fibre

abbrev pub joined : List ℕ → List ℕ → List ℕ → List ℕ → List ℕ
joined a t b u = take front (a ++ t) ++ (b ++ u)

joined_is : (a t b u : List ℕ) → length a ≡ front → joined a t b u ≡ (a ++ b) ++ u
joined_is a t b u h = rw (take_at a t front h) (sym (append_assoc a b u))

pub plain_joined : (a t b u : List ℕ) → Plain (places_of_payload fibre) a → Plain (checks fibre) b
    → IsPrefixLen pair_bytes (joined a t b u) × PlainPair (take pair_bytes (joined a t b u))
plain_joined a t b u p q =
    let long : length (a ++ b) ≡ pair_bytes = simp length-append (omega (arith, p.bytes, q.bytes)) in
    rw (joined_is a t b u p.bytes) (
      prefix_len_of_le pair_bytes ((a ++ b) ++ u) (simp length-append (omega (arith, p.bytes, q.bytes))),
      rw (take_at (a ++ b) u pair_bytes long)
          (record {
            first = rw (take_at a b front p.bytes) p;
            second = rw (drop_at a b front p.bytes) q;
          }),
    )

pub pair_same : (v : List ℕ) (s s' : Said) → PairSaid v s → PairSaid v s' → s ≡ s'
pair_same v s s' (inl (e, a, b)) (inl (e', a', b')) = cc
pair_same v s s' (inr (e, f)) (inr (e', f')) = cc
pair_same v s s' (inl (e, a, b)) (inr (e', inl f)) = absurd (not_bad 14592 _ a f)
pair_same v s s' (inl (e, a, b)) (inr (e', inr f)) = absurd (not_bad 3072 _ b f)
pair_same v s s' (inr (e, inl f)) (inl (e', a, b)) = absurd (not_bad 14592 _ a f)
pair_same v s s' (inr (e, inr f)) (inl (e', a, b)) = absurd (not_bad 3072 _ b f)
