-- W8 and W9 of paper 02, demand 3 of the two coax codes, each from its own fresh stream: what coax_demand of Demand
-- says, here of the coax codes' own promises. It speaks of payloads of exactly W8's sizes, 14,400 or 5,040 bits, and of
-- the whole parity, with neither lists nor delimiter. Over either code. A stream of a coax code is one that was reached
-- by its format's attempts.
--
--   coax_reached         what a coax finish leaves was reached too, as what a piece leaves
--   coax_whole           a finish that is done is that of a payload of exactly the code's size
--   coax_no_cut_told     no finish tells two cuttings of one payload apart: the same answer, stream and output
--   coax_finish_encodes  the finish writes the very parity that encode writes for the whole payload
--   coax_fresh_again     a finish that is done hands back the fresh stream of the same code
--   coax_second_refused  so that a second finish is refused by 1
--   coax_own_served      no finish refuses a stream of its own code by 12, nor by 7
--   coax_other_refused   and any stream with another number is refused by 12
--
-- That a piece is taken, what the running checks are after any attempts, how many bits are held, that the stream serves
-- its code and that two cuttings leave the same stream is said by coax_demand. Coax says when a finish is done;
-- piece_exactly of Asked, at coax_format k, when a piece is accepted.
use mathlib.Core.Path.{◌≡◌}
use mathlib.Core.List.{List}
use Prim.Native.Nat.{ℕ, ◌+◌, ◌<◌}
use native.Mathlib.Omega.{arith}
use Rattle.rules.specs.Bits.{bit, Bytes, zeros}
use Rattle.rules.specs.Matrix.{checks, places_of_payload}
use Rattle.rules.specs.Formats.{Format}
use Rattle.rules.specs.Streams.{fresh}
use Rattle.rules.specs.Promises.{refusal_of}
use Rattle.rules.specs.Coax.{coax_code, coax_number, coax_format, CoaxEncoded, CoaxFinished}
use Rattle.rules.specs.Answers.{Done}
use Rattle.rules.specs.declared.Stream.{Stream}
use Rattle.rules.specs.Answers.{Outcome}
use Rattle.rules.specs.declared.CoaxCode.{CoaxCode}
use Rattle.theorems.specs.Attempts.{chosen, Reached, finish}
use Rattle.theorems.proofs.Streams.{held_counted, second_refused}
use Rattle.theorems.proofs.Serving.{own_finish_served}
use Rattle.theorems.proofs.Others.{other_finish_refused}
use Rattle.theorems.proofs.Coax.{coax_sized, coax_encoded, coax_finished, coax_finish_exactly}
use Rattle.theorems.proofs.Demand.{coax_demand}

module _ (k : CoaxCode) where
  abbrev f : Format
  f = coax_format k

  pub coax_reached : {u : ℕ → ℕ} {h : ℕ} {t : Stream} (o : List ℕ) (r : Outcome) (o' : List ℕ) → Reached f u h t
      → CoaxFinished k t o r o' → Reached f (chosen r.answer zeros u) (chosen r.answer 0 h) r.stream
  coax_reached {t = t} o r o' x p = finish 0 o r o' x (coax_finished k t o r o' p)

  pub coax_whole : {u : ℕ → ℕ} {h : ℕ} {t : Stream} (o : List ℕ) (r : Outcome) (o' : List ℕ) → Reached f u h t
      → r.answer ≡ Done → CoaxFinished k t o r o' → h ≡ places_of_payload (coax_code k)
  coax_whole {t = t} o r o' x e p =
      let asked = (coax_finish_exactly k t o r o' p).0 e in
      omega (arith, asked.count.least, asked.count.most, held_counted f x)

  pub coax_fresh_again : (t : Stream) (o : List ℕ) (r : Outcome) (o' : List ℕ) → r.answer ≡ Done
      → CoaxFinished k t o r o' → r.stream ≡ fresh (coax_number k)
  coax_fresh_again t o r o' e p = (coax_demand k).again 0 t o r o' e (coax_finished k t o r o' p)

  pub coax_second_refused : (o : List ℕ) (r : Outcome) (o' : List ℕ) → CoaxFinished k (fresh (coax_number k)) o r o'
      → refusal_of r.answer ≡ 1
  coax_second_refused o r o' p =
      second_refused f (coax_sized k) tt 0 o r o' (coax_finished k (fresh (coax_number k)) o r o' p)

  pub coax_own_served : {u : ℕ → ℕ} {h : ℕ} {t : Stream} (o : List ℕ) (r : Outcome) (o' : List ℕ) → Reached f u h t
      → CoaxFinished k t o r o' → (refusal_of r.answer ≡ 12 → ⊥) × (refusal_of r.answer ≡ 7 → ⊥)
  coax_own_served {t = t} o r o' x p =
      own_finish_served f (coax_sized k) x 0 o r o' (coax_finished k t o r o' p)

  pub coax_other_refused : (t : Stream) → (t.number ≡ coax_number k → ⊥) → (o : List ℕ) (r : Outcome) (o' : List ℕ)
      → CoaxFinished k t o r o' → refusal_of r.answer ≡ 12
  coax_other_refused t other o r o' p = other_finish_refused f tt t other 0 o r o' (coax_finished k t o r o' p)

  pub coax_no_cut_told : {u v : ℕ → ℕ} {h : ℕ} {s t : Stream} → Reached f u h s → Reached f v h t
      → ((n : ℕ) → n < h → u n ≡ v n) → (o : List ℕ) (r r' : Outcome) (o' o'' : List ℕ) → Bytes o' → Bytes o''
      → CoaxFinished k s o r o' → CoaxFinished k t o r' o'' → (r ≡ r') × (o' ≡ o'')
  coax_no_cut_told {s = s} {t = t} x y same o r r' o' o'' b b' p q =
      (coax_demand k).not_told x y same 0 o r r' o' o'' b b' (coax_finished k s o r o' p) (coax_finished k t o r' o'' q)

  -- v is the whole payload, as encode is given it, and l' what encode wrote of it to l; o' is what the finish wrote to
  -- o
  pub coax_finish_encodes : {u : ℕ → ℕ} {h : ℕ} {t : Stream} (o : List ℕ) (r : Outcome) (o' v l l' : List ℕ)
      → Reached f u h t → ((n : ℕ) → n < h → bit v n ≡ u n) → r.answer ≡ Done → CoaxFinished k t o r o'
      → CoaxEncoded k h v l Done l' → (n : ℕ) → n < checks (coax_code k) → bit o' n ≡ bit l' (h + n)
  coax_finish_encodes {h = h} {t = t} o r o' v l l' x same e p w n i =
      (coax_demand k).encodes 0 o r o' v l l' x same e (coax_finished k t o r o' p) (coax_encoded k h v l Done l' w) n
      (omega arith)
