-- Any two outcomes that fit one promise are equal: the answer, and every later byte and stream. Buffers are bytes. Any
-- format.
--
--   complete_same, word_check_same, encode_same, line_check_same, piece_same, finish_same
--   completion_same, written_line_same, finished_same    the same by any order
--
--   tail_written_same  what is written of a tail is single
--   written_bit        a bit that is written
--   stream_of          streams with the same number, the same count and the same running checks are equal
--   line_one           the line word of a payload is single
use mathlib.Core.Path.{◌≡◌, refl, sym, ap, ap₂, subst, ◌∙◌}
use mathlib.Core.List.{List, ◌++◌}
use Prim.Native.Nat.{ℕ, ◌+◌, ◌-◌, ◌*◌, ◌/◌, ◌<◌}
use native.Mathlib.Decide.{dec_lt}
use native.Mathlib.Omega.{arith}
use lib.ListN.{length, take}
use lib.Seq.{get_or-append-add}
use Rattle.rules.specs.Bits.{bit, Bytes, need, zeros, Written}
use Rattle.rules.specs.Matrix.{places_of_payload}
use Rattle.rules.specs.Formats.{Format}
use Rattle.rules.specs.Words.{padded, reordered, Parity, outgoing, tail, tail_bits, line_word, line_bits}
use Rattle.rules.specs.Verdicts.{WordVerdict, LineVerdict}
use Rattle.rules.specs.Streams.{fresh, Fed}
use Rattle.rules.specs.Refusals.{Refusal}
use Rattle.rules.specs.Refusals.{encode_order, piece_order, finish_order, complete_order, word_order, line_order}
use Rattle.rules.specs.Promises.{Promise, Completion, LineWritten, TailWritten}
use Rattle.rules.specs.Promises.{Completed, WordChecked, Encoded, LineChecked, PieceTaken, Finished}
use Rattle.rules.specs.Answers.{Answer}
use Rattle.rules.specs.Judgements.{Judgement}
use Rattle.rules.specs.declared.Stream.{Stream}
use Rattle.rules.specs.Answers.{Outcome}
use Rattle.laws.proofs.Bits.{bits_same, bit_drop}
use Rattle.laws.proofs.Runs.{run_low, run_same}
use Rattle.laws.proofs.Adds.{adds_same}
use Rattle.laws.proofs.Told.{promise_same, checked_same}
use Rattle.laws.proofs.Judged.{word_same, line_same}
use Rattle.laws.proofs.Tails.{tail_same}
use Rattle.laws.proofs.Parities.{OneParity, own_same, parity_bits_one, payload_one}

-- the second part of bytes is bytes
bytes_back : (s t : List ℕ) → Bytes (s ++ t) → Bytes t
bytes_back s t h i = rw get_or-append-add at (h (length s + i))

pub written_bit : {b : ℕ} {x : ℕ → ℕ} {s t : List ℕ} → Written b x s t → (n : ℕ) → n < b → bit t n ≡ x n
written_bit {b} {x} w n h = w.bits n (omega arith) ∙ run_low b x zeros n h

-- what is written is single, where the bits to write are
written_same : (b : ℕ) (x y : ℕ → ℕ) (s t u : List ℕ) → Bytes t → Bytes u → ((n : ℕ) → n < b → x n ≡ y n)
    → Written b x s t → Written b y s u → t ≡ u
written_same b x y s t u bt bu e p q = bits_same t u bt bu (p.length_same ∙ sym q.length_same) (λ n h. at n)
  where
    at : (n : ℕ) → bit t n ≡ bit u n
    at n = elim (dec_lt n (8 * need b)) [
      | yes l ↦ p.bits n l ∙ run_same b x zeros y zeros e (λ k. refl) n ∙ sym (q.bits n l)
      | no l ↦
          let m : ℕ = n - 8 * need b in
          let f : 8 * need b + m ≡ n = omega arith in
          let after = ap (λ (v : List ℕ). bit v m) (p.after ∙ sym q.after) in
          rw (← f) (sym (bit_drop t (need b) m) ∙ after ∙ bit_drop u (need b) m)
    ]

pub stream_of : {s t : Stream} → s.number ≡ t.number → s.held ≡ t.held → s.checks ≡ t.checks → s ≡ t
stream_of n h c = λ i. record { number = n i; held = h i; checks = c i }

-- an outcome is its answer and its stream; a finish leaves a stream and an output
outcome_of : {r s : Outcome} → r.answer ≡ s.answer → r.stream ≡ s.stream → r ≡ s
outcome_of a t = ap₂ (λ (a : Answer) (t : Stream). record { answer = a; stream = t }) a t

left_of : {v w : Stream × List ℕ} → v.0 ≡ w.0 → v.1 ≡ w.1 → v ≡ w
left_of t o = ap₂ (λ (t : Stream) (o : List ℕ). (t, o)) t o

module _ (f : Format) where
  pub word_check_same : (K : ℕ) (w : List ℕ) (j j' : Judgement) → WordChecked f K w j → WordChecked f K w j' → j ≡ j'
  word_check_same K w = checked_same (word_order f K w) (WordVerdict f K (bit w)) (word_same f K (bit w))

  pub piece_same : (b : ℕ) (s : List ℕ) (t : Stream) (r r' : Outcome) → Bytes r.stream.checks
      → Bytes r'.stream.checks → PieceTaken f b s t r → PieceTaken f b s t r' → r ≡ r'
  piece_same b s t r r' h k x y = outcome_of both.0 both.1
    where
      both : (r.answer ≡ r'.answer) × (r.stream ≡ r'.stream)
      both =
          promise_same (λ (v : Stream). Bytes v.checks) (λ v. Fed f b s t v) (λ v. v ≡ t)
          (λ v v' g g' p q.
          stream_of (p.number ∙ sym q.number) (p.held ∙ sym q.held) (adds_same g g' p.checks q.checks))
          (λ v v' e e'. e ∙ sym e')
          (piece_order f t b s) r.answer r'.answer r.stream r'.stream h k x y

  module _ (one : OneParity f.code) where
    pub completion_same : (q : List Refusal) (w : List ℕ) (a b : Answer) (w' w'' : List ℕ) → Bytes w' → Bytes w''
        → Promise q a (Completion f.code w w') (w' ≡ w) → Promise q b (Completion f.code w w'') (w'' ≡ w)
        → (a ≡ b) × (w' ≡ w'')
    completion_same q w =
        promise_same Bytes (Completion f.code w) (λ v. v ≡ w) done (λ v v' e e'. e ∙ sym e') q
      where
        front : List ℕ
        front = take (places_of_payload f.code / 8) w

        done : (v v' : List ℕ) → Bytes v → Bytes v' → Completion f.code w v → Completion f.code w v' → v ≡ v'
        done v v' g g' p q =
            p.2
            ∙ ap (λ (l : List ℕ). front ++ l)
            (payload_one f.code one (bit w) p.0 q.0 (bytes_back front p.0 (subst Bytes p.2 g))
            (bytes_back front q.0 (subst Bytes q.2 g')) p.1 q.1)
            ∙ sym q.2

    pub complete_same : (K : ℕ) (w : List ℕ) (a b : Answer) (w' w'' : List ℕ) → Bytes w' → Bytes w''
        → Completed f K w a w' → Completed f K w b w'' → (a ≡ b) × (w' ≡ w'')
    complete_same K w = completion_same (complete_order f K w) w

    -- the sent bits of a payload's parity are single
    sent_one : (x : ℕ → ℕ) (p q : List ℕ) → Parity f.code x p → Parity f.code x q → (n : ℕ) → n < f.sent
        → outgoing f p n ≡ outgoing f q n
    sent_one x p q a b n h = parity_bits_one f.code one x p q a b (f.second n)

    pub line_one : (K : ℕ) (u p q : List ℕ) (d : ℕ) → Parity f.code (reordered f (padded K (bit u))) p
        → Parity f.code (reordered f (padded K (bit u))) q → (n : ℕ)
        → line_word f K (bit u) p d n ≡ line_word f K (bit u) q d n
    line_one K u p q d a b =
        run_same K (bit u) (tail f p d) (bit u) (tail f q d) (λ n l. refl)
        (tail_same f p q d (sent_one (reordered f (padded K (bit u))) p q a b))

    pub written_line_same : (q : List Refusal) (K : ℕ) (u : List ℕ) (d : ℕ) (o : List ℕ) (a b : Answer)
        (o' o'' : List ℕ) → Bytes o' → Bytes o'' → Promise q a (LineWritten f K u d o o') (o' ≡ o)
        → Promise q b (LineWritten f K u d o o'') (o'' ≡ o) → (a ≡ b) × (o' ≡ o'')
    written_line_same q K u d o =
        promise_same Bytes (LineWritten f K u d o) (λ v. v ≡ o)
        (λ v v' g g' p q.
        let same = line_one K u p.0 q.0 d p.1 q.1 in
        written_same (line_bits f K) _ _ o v v' g g' (λ n l. same n) p.2 q.2)
        (λ v v' e e'. e ∙ sym e') q

    pub encode_same : (K : ℕ) (u : List ℕ) (d : ℕ) (o : List ℕ) (a b : Answer) (o' o'' : List ℕ) → Bytes o' → Bytes o''
        → Encoded f K u d o a o' → Encoded f K u d o b o'' → (a ≡ b) × (o' ≡ o'')
    encode_same K u d o = written_line_same (encode_order f K u d (length o)) K u d o

    pub line_check_same : (K : ℕ) (l : List ℕ) (d : ℕ) (j j' : Judgement) → LineChecked f K l d j
        → LineChecked f K l d j' → j ≡ j'
    line_check_same K l d =
        checked_same (line_order f K l d) (LineVerdict f K l d)
        (line_same f K l d (sent_one (reordered f (padded K (bit l)))))

    pub tail_written_same : (s : List ℕ) (d : ℕ) (o v v' : List ℕ) → Bytes v → Bytes v' → TailWritten f s d o v
        → TailWritten f s d o v' → v ≡ v'
    tail_written_same s d o v v' g g' p q =
        let same = own_same f.code one s p.0 q.0 p.1 q.1 in
        written_same (tail_bits f) _ _ o v v' g g'
        (λ n l. tail_same f p.0 q.0 d (λ m i. same (f.second m)) n) p.2 q.2

    -- what a finish by the order q leaves
    abbrev FinishedBy : List Refusal → ℕ → Stream → List ℕ → Outcome → List ℕ → Type 0
    FinishedBy q d t o r o' =
        Promise q r.answer ((r.stream ≡ fresh f.number) × TailWritten f t.checks d o o')
        ((r.stream ≡ t) × (o' ≡ o))

    pub finished_same : (q : List Refusal) (d : ℕ) (t : Stream) (o : List ℕ) (r r' : Outcome) (o' o'' : List ℕ)
        → Bytes o' → Bytes o'' → FinishedBy q d t o r o' → FinishedBy q d t o r' o'' → (r ≡ r') × (o' ≡ o'')
    finished_same q d t o r r' o' o'' h k x y = (
      outcome_of both.0 (ap (λ (v : Stream × List ℕ). v.0) both.1),
      ap (λ (v : Stream × List ℕ). v.1) both.1,
    )
      where
        Tail : List ℕ → Type 0
        Tail = TailWritten f t.checks d o

        both : (r.answer ≡ r'.answer) × (◌≡◌ {A = Stream × List ℕ} (r.stream, o') (r'.stream, o''))
        both =
            promise_same (λ (v : Stream × List ℕ). Bytes v.1) (λ v. (v.0 ≡ fresh f.number) × Tail v.1)
            (λ v. (v.0 ≡ t) × (v.1 ≡ o))
            (λ v v' g g' p q.
            left_of (p.0 ∙ sym q.0) (tail_written_same t.checks d o v.1 v'.1 g g' p.1 q.1))
            (λ v v' e e'. left_of (e.0 ∙ sym e'.0) (e.1 ∙ sym e'.1))
            q r.answer r'.answer (r.stream, o') (r'.stream, o'') h k x y

    pub finish_same : (d : ℕ) (t : Stream) (o : List ℕ) (r r' : Outcome) (o' o'' : List ℕ) → Bytes o' → Bytes o''
        → Finished f d t o r o' → Finished f d t o r' o'' → (r ≡ r') × (o' ≡ o'')
    finish_same d t o = finished_same (finish_order f t d (length o)) d t o
