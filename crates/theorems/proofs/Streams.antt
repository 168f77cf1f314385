-- Demand 3, and W9 of paper 02: a stream takes a payload cut anywhere, from its own fresh stream on, and no cut can be
-- told from another. Any format.
--
--   running         after any attempts the running checks are those of the bits accepted so far, followed by zeros, all
--                   reordered
--   held_counted    and the bits held are the counts of the accepted pieces added up
--   served          so the stream serves its code: neither 12 nor 7 applies to it
--   piece_accepted  and a piece of any count is accepted, where the lists fit, its bytes are right and there is room
--                   for its bits
--   cut_alike       two cuttings of one payload, told bit by bit, leave the same stream
--   no_cut_told     and no finish tells them apart: the same answer, the same stream, the same output
--   finish_encodes  the finish writes the tail that encode writes for the whole payload
--   fresh_again     a finish that is done hands back the fresh stream of the same code
--   second_refused  so that a second finish, by lists that fit, is refused by 1
--
-- Asked says when a piece is accepted, whatever its count, and when a finish is done.
use mathlib.Core.Path.{◌≡◌, refl, sym, subst, ◌∙◌}
use mathlib.Core.Logic.{inl, inr}
use mathlib.Core.List.{List}
use Prim.Native.Nat.{ℕ, ◌+◌, ◌-◌, ◌%◌, ◌≤◌, ◌<◌}
use native.Mathlib.Decide.{dec_lt}
use native.Mathlib.Omega.{arith}
use lib.Dec.{lit<}
use lib.ListN.{length, length-replicate}
use Rattle.rules.specs.Bits.{bit, Bytes, zeros, run, placed, sum, Packed}
use Rattle.rules.specs.Matrix.{places_of_payload}
use Rattle.rules.specs.Formats.{Format}
use Rattle.rules.specs.Words.{padded, reordered, tail_bits}
use Rattle.rules.specs.Streams.{stream_bytes, fresh, Fed}
use Rattle.rules.specs.Refusals.{Refusal, piece_order, finish_order}
use Rattle.rules.specs.Asked.{ListsFit, Serves}
use Rattle.rules.specs.Promises.{refusal_of, Promise, Encoded, PieceTaken, Finished}
use Rattle.rules.specs.Answers.{Answer}
use Rattle.rules.specs.Answers.{Done, Refused}
use Rattle.rules.specs.declared.Stream.{Stream}
use Rattle.rules.specs.Answers.{Outcome}
use Rattle.rules.proofs.Checks.{check_same, check_sum, check_zeros}
use Rattle.laws.proofs.Bits.{bit<, byte_zeros, bit_zeros, bits_same}
use Rattle.laws.proofs.Runs.{run_low, run_high, run_each, run_below}
use Rattle.laws.proofs.Told.{told_single}
use Rattle.laws.proofs.Lent.{lent_told}
use Rattle.laws.proofs.Asked.{piece_asked}
use Rattle.laws.proofs.Columns.{check_past}
use Rattle.laws.proofs.Tails.{line_high}
use Rattle.laws.proofs.Parities.{OneParity, payload_parity}
use Rattle.theorems.specs.Sized.{Sized}
use Rattle.theorems.specs.Attempts.{chosen, Reached, begun, piece, finish, Running}
use Rattle.theorems.proofs.Same.{written_bit, stream_of, finish_same}
use Rattle.theorems.proofs.Refusing.{done_part}
use Rattle.theorems.proofs.Asked.{stream_free, piece_exactly}
use Rattle.theorems.proofs.Lines.{encode_exact}

-- the bits u, and then b bits of s, as a sum
joined : (h b : ℕ) (u x : ℕ → ℕ) → ((n : ℕ) → u n < 2) → ((n : ℕ) → h ≤ n → u n ≡ 0) → ((n : ℕ) → x n < 2) → (n : ℕ)
    → sum u (placed h b x) n ≡ run h u (run b x zeros) n
joined h b u x below after bits n =
    run_each h u (run b x zeros) n (λ v. (u n + placed h b x n) % 2 ≡ v)
    (λ l. rw (run_low h zeros (run b x zeros) n l) (omega (arith, below n)))
    (λ l.
    rw (run_high h zeros (run b x zeros) n l, after n l)
    (omega (arith, run_below b x zeros (λ n l. bits n) (λ n. lit< tt) (n - h))))

module _ (f : Format) where
  fresh_running : Running f zeros 0 (fresh f.number)
  fresh_running = record {
    number = refl;
    held = refl;
    most = omega arith;
    bits = λ n. lit< tt;
    after = λ n h. refl;
    long = length-replicate {A = ℕ} stream_bytes 0;
    bytes = λ i. rw (byte_zeros stream_bytes i) (lit< tt);
    checks = λ n. bit_zeros stream_bytes n ∙ sym (check_zeros f.code n);
  }

  module _ {u : ℕ → ℕ} {h : ℕ} {t : Stream} (r : Running f u h t) where
    fed_running : {v : Stream} (b : ℕ) (s : List ℕ) → t.held + b ≤ f.most → Fed f b s t v → Bytes v.checks
        → Running f (run h u (run b (bit s) zeros)) (h + b) v
    fed_running {v} b s fits fed bytes = record {
      number = fed.number ∙ r.number;
      held = omega arith;
      most = omega arith;
      bits = run_below h u _ (λ n l. r.bits n) (run_below b (bit s) zeros (λ n l. bit< s n) (λ n. lit< tt));
      after = λ n l.
          run_high h u (run b (bit s) zeros) n (omega arith) ∙ run_high b (bit s) zeros (n - h) (omega arith);
      long = fed.checks.length_same ∙ r.long;
      bytes = bytes;
      checks = λ n.
          (rw (r.held, r.checks n) at (fed.checks.each n))
          ∙ sym (check_sum f.code n (reordered f u) (reordered f (placed h b (bit s))))
          ∙ check_same f.code n _ (reordered f (run h u (run b (bit s) zeros)))
          (λ m k. joined h b u (bit s) r.bits r.after (bit< s) (f.first m));
    }

    taken_running : (b : ℕ) (s : List ℕ) (a : Answer) (v : Stream)
        → Promise (piece_order f t b s) a (Fed f b s t v) (v ≡ t) → Bytes v.checks
        → Running f (chosen a (run h u (run b (bit s) zeros)) u) (chosen a (h + b) h) v
    taken_running b s Done v p bytes =
        fed_running b s (piece_asked f refl t b s p.told).most p.effect bytes
    taken_running b s (Refused n) v p bytes = subst (Running f u h) (sym p.effect.1) r

    finished_running : {o : List Refusal} {A B : Type 0} (a : Answer) (v : Stream) → Promise o a A B
        → (A → v ≡ fresh f.number) → (B → v ≡ t) → Running f (chosen a zeros u) (chosen a 0 h) v
    finished_running Done v p done kept = subst (Running f zeros 0) (sym (done p.effect)) fresh_running
    finished_running (Refused n) v p done kept = subst (Running f u h) (sym (kept p.effect.1)) r

  pub running : {u : ℕ → ℕ} {h : ℕ} {t : Stream} → Reached f u h t → Running f u h t
  running begun = fresh_running
  running (piece b s r x p bytes) = taken_running (running x) b s r.answer r.stream p bytes
  running (finish d o r o' x p) = finished_running (running x) r.answer r.stream p (λ e. e.0) (λ e. e.0)

  pub held_counted : {u : ℕ → ℕ} {h : ℕ} {t : Stream} → Reached f u h t → t.held ≡ h
  held_counted x = (running x).held

  pub served : Sized f → {u : ℕ → ℕ} {h : ℕ} {t : Stream} → Reached f u h t → Serves f t
  served sized {u} x =
      let r = running x in
      let past = check_past f.code sized.lines (reordered f u) in
      record {
        number = r.number;
        held = omega arith;
        unused = λ s. omega (arith, r.checks s.0, past s.0 s.1, s.2);
      }

  pub piece_accepted : Sized f → {u : ℕ → ℕ} {h : ℕ} {t : Stream} (b : ℕ) (s : List ℕ) (r : Outcome)
      → Reached f u h t → ListsFit f → Packed b s → h + b ≤ f.most → PieceTaken f b s t r → r.answer ≡ Done
  piece_accepted sized {t = t} b s r x fit packed room p =
      (piece_exactly f b s t r p).1
      record { lists = fit; stream = served sized x; piece = packed; most = omega (arith, held_counted x) }

  -- two cuttings: u and v are the bits accepted, h of them each, and equal
  module _ {u v : ℕ → ℕ} {h : ℕ} {s t : Stream} (x : Reached f u h s) (y : Reached f v h t)
      (same : (n : ℕ) → n < h → u n ≡ v n) where
    same_bits : (n : ℕ) → u n ≡ v n
    same_bits n = elim (dec_lt n h) [
      | yes l ↦ same n l
      | no l ↦ (running x).after n (omega arith) ∙ sym ((running y).after n (omega arith))
    ]

    pub cut_alike : s ≡ t
    cut_alike =
        let r = running x in
        let q = running y in
        stream_of (r.number ∙ sym q.number) (r.held ∙ sym q.held)
        (bits_same _ _ r.bytes q.bytes (r.long ∙ sym q.long)
        (λ n l.
        r.checks n
        ∙ check_same f.code n (reordered f u) (reordered f v) (λ m k. same_bits (f.first m))
        ∙ sym (q.checks n)))

  -- a finish that is done leaves a fresh stream, and a finish of a fresh stream, which serves, is refused by 1
  pub fresh_again : (d : ℕ) (t : Stream) (o : List ℕ) (r : Outcome) (o' : List ℕ) → r.answer ≡ Done
      → Finished f d t o r o' → r.stream ≡ fresh f.number
  fresh_again d t o r o' e p = (done_part r.answer e p).0

  pub second_refused : Sized f → ListsFit f → (d : ℕ) (o : List ℕ) (r : Outcome) (o' : List ℕ)
      → Finished f d (fresh f.number) o r o' → refusal_of r.answer ≡ 1
  second_refused sized fit d o r o' p =
      let free = stream_free f {R = Unit} (served sized begun) tt in
      told_single (finish_order f (fresh f.number) d (length o)) (refusal_of r.answer) 1 p.told
      (lent_told f _ 1 fit (inr (free.0, inr (free.1.0, inl (inl sized.some, refl)))))

  module _ (one : OneParity f.code) (sized : Sized f) where
    pub no_cut_told : {u v : ℕ → ℕ} {h : ℕ} {s t : Stream} → Reached f u h s → Reached f v h t
        → ((n : ℕ) → n < h → u n ≡ v n) → (d : ℕ) (o : List ℕ) (r r' : Outcome) (o' o'' : List ℕ) → Bytes o' → Bytes o''
        → Finished f d s o r o' → Finished f d t o r' o'' → (r ≡ r') × (o' ≡ o'')
    no_cut_told {t = t} x y same d o r r' o' o'' b b' p q =
        let moved = subst (λ (z : Stream). Finished f d z o r o') (cut_alike x y same) p in
        finish_same f one d t o r r' o' o'' b b' moved q

    -- the bits u, as far as they are held, are the payload's, then zeros; so are both reordered
    held_padded : {u : ℕ → ℕ} {h : ℕ} {t : Stream} → Running f u h t → (v : List ℕ) → ((n : ℕ) → n < h → bit v n ≡ u n)
        → (n : ℕ) → reordered f u n ≡ run (places_of_payload f.code) (reordered f (padded h (bit v))) zeros n
    held_padded {u} {h} r v same n =
        let m = f.first n in
        run_each (places_of_payload f.code) (reordered f (padded h (bit v))) zeros n (λ x. u m ≡ x)
        (λ l. run_each h (bit v) zeros m (λ x. u m ≡ x) (λ k. sym (same m k)) (r.after m))
        (λ l. r.after m (omega (arith, sized.kept n l, r.most)))

    -- v is the whole payload, as encode is given it, and l' what encode wrote of it to l; o' is what the finish wrote
    -- to o
    pub finish_encodes : {u : ℕ → ℕ} {h : ℕ} {t : Stream} (d : ℕ) (o : List ℕ) (r : Outcome) (o' v l l' : List ℕ)
        → Reached f u h t
        → ((n : ℕ) → n < h → bit v n ≡ u n) → r.answer ≡ Done → Finished f d t o r o' → Encoded f h v d l Done l'
        → (n : ℕ) → n < tail_bits f → bit o' n ≡ bit l' (h + n)
    finish_encodes {u} {h} {t} d o r o' v l l' x same e p w n k =
        let q = (done_part r.answer e p).1 in
        let parity =
        payload_parity f.code (reordered f (padded h (bit v))) t.checks q.0
        (λ m i.
        (running x).checks m ∙ check_same f.code m (reordered f u) _ (λ j z. held_padded (running x) v same j))
        q.1 in
        written_bit q.2 n k
        ∙ sym
        (written_bit (encode_exact f one sized h v d l l' w q.0 parity) (h + n) (omega arith)
        ∙ line_high f h (bit v) q.0 d n)
