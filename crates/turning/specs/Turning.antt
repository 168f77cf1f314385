-- Paper 01, 'The matrix': what a row of a block reads, where the block is the identity moved right.
--
--   turned z b a r  bit r of the block b of z bits, turned by a: local row r has its one at local column (r + a) mod z
--   part_bits       the bits of a part, four numbers of 64: a block that is added by quarters
--   part_bytes      its bytes
--   held_bits       the most bits of a block that can be added within the same bytes: it is held first
--
-- Nothing here is proved.
use Rattle.std.specs.Prelude.{List, ℕ, ◌+◌, ◌%◌}
use Rattle.rules.specs.Bits.{bit}

abbrev pub turned : ℕ → List ℕ → ℕ → ℕ → ℕ
turned z b a r = bit b ((r + a) % z)

abbrev pub part_bits : ℕ
part_bits = 256

abbrev pub part_bytes : ℕ
part_bytes = 32

abbrev pub held_bits : ℕ
held_bits = 512
