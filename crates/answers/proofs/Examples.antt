-- Lines as they are read, so that the definitions of their texts can be seen to say what is meant.
use mathlib.Core.Path.{◌≡◌, refl}
use Prim.Native.Nat.{◌-◌, ◌^◌}
use Rattle.rules.specs.declared.Cause.TheVariants.{Check}
use Rattle.rules.specs.declared.Verdict.TheVariants.{Accepted, Rejected}
use Rattle.std.specs.Prelude.{Ok}
use Rattle.rules.specs.declared.Refusal.TheVariants as refusal
use Rattle.answers.specs.declared.Said.TheVariants.{Judged, Written, RefusedBy, Reordering, Held, PieceRefused}
use Rattle.answers.specs.declared.Said.TheVariants.{PieceRefusedBy, PiecesRefused, Wrong}
use Rattle.lines.specs.Texts.{text, digits_of, shown}
use Rattle.answers.specs.Answers.{line_of}

accepted : line_of (Judged (Ok Accepted)) ≡ text "accepted\n"
accepted = refl

check : line_of (Judged (Ok (Rejected (Check 176 6)))) ≡ text "check 176 fails 6\n"
unfolding digits_of
check = refl

written : line_of (Written 2208) ≡ text "written 2208\n"
unfolding digits_of
written = refl

reordering : line_of Reordering ≡ text "reordering\n"
reordering = refl

held : line_of (Held 2 257) ≡ text "piece 2 held 257\n"
unfolding digits_of
held = refl

refused : line_of (PieceRefused 3 refusal.Bytes) ≡ text "piece 3 refusal 2\n"
unfolding digits_of
refused = refl

refused_by : line_of (PieceRefusedBy 3 2) ≡ text "piece 3 refusal 2\n"
unfolding digits_of
refused_by = refl

boundary : line_of (RefusedBy 17) ≡ text "refusal 17\n"
unfolding digits_of
boundary = refl

pieces : line_of (PiecesRefused 1) ≡ text "refused pieces 1\n"
unfolding digits_of
pieces = refl

none : line_of (Wrong 0) ≡ text "0 wrong\n"
unfolding digits_of
none = refl

largest : line_of (Wrong (2 ^ 64 - 1)) ≡ text "18446744073709551615 wrong\n"
unfolding digits_of
largest = refl

line_end : shown 10 ≡ text "<10>"
unfolding digits_of
line_end = refl
