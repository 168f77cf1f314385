-- For the contract of an inner function: what becomes of a state when an answer and a stream are handed back.
--
--   Back a s s' t   where the answer a is Done, the state s' is the stream t; where it is a refusal, it is s
use Rattle.std.specs.Prelude.{◌≡◌, List, ℕ, length}
use Rattle.rules.specs.Answers.{Answer}
use Rattle.rules.specs.Answers.{Done, Refused}
use Rattle.rules.specs.declared.Stream.{Stream}
use Rattle.states.specs.States.{state_bytes, stream_in}

abbrev pub Back : Answer → List ℕ → List ℕ → Stream → Type 0
Back Done s s' t = (length s' ≡ state_bytes) × (stream_in s' ≡ t)
Back (Refused n) s s' t = s' ≡ s
