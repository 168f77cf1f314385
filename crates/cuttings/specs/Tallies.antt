-- How many facts are told: each is counted once, as right or as wrong.
--
--   Tells n t u   from the tally t to the tally u n facts were told: right and wrong together are n more, and neither
--                 is fewer, where a usize can count them
--
-- Nothing here is proved.
use Rattle.std.specs.Prelude.{ℕ, ◌≡◌, ◌+◌, ◌^◌, ◌≤◌, ◌<◌}
use Rattle.cuttings.specs.declared.Tally.{Tally}

abbrev pub Tells : ℕ → Tally → Tally → Type 0
Tells n t u =
    t.right + t.wrong + n < 2 ^ 64 →
    (u.right + u.wrong ≡ t.right + t.wrong + n) × (t.right ≤ u.right) × (t.wrong ≤ u.wrong)
