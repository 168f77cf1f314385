-- What is wrong with a file, by Linux's numbers of errors.
--
--   meanings          the numbers that mean something of a file, each with what it means
--   meaning_in l n    what the number n means by the list l, Other where it is not in it
--   trouble_of n      what the number n means of a file, Other where it is none of these
--   trouble_in e      what the number of the error e means, Other where it has none
--
-- Nothing here is proved.
use Rattle.std.specs.Prelude.{ℕ, ℤ, pos, negsuc, List, [], ◌∷◌, if◌then◌else◌, ◌==◌}
use Rattle.std.specs.Option.{option_map_or}
use Rattle.std.specs.IoError.{raw_os_error}
use Rattle.std.specs.declared.io.Error.{Error}
use Rattle.kinds.specs.declared.linux.Trouble.{Trouble}
use Rattle.kinds.specs.declared.linux.Trouble.TheVariants.{Missing, NoFolder, Denied, Folder, NotPermitted, InTheWay}
use Rattle.kinds.specs.declared.linux.Trouble.TheVariants.{NoRoom, TooManyLinks, LongName, Other}

abbrev pub meanings : List (ℕ × Trouble)
meanings =
    (1, NotPermitted) ∷ (2, Missing) ∷ (13, Denied) ∷ (17, InTheWay) ∷ (20, NoFolder) ∷ (21, Folder) ∷ (27, NoRoom)
    ∷ (28, NoRoom) ∷ (30, Denied) ∷ (36, LongName) ∷ (40, TooManyLinks) ∷ []

abbrev pub meaning_in : List (ℕ × Trouble) → ℕ → Trouble
meaning_in [] n = Other
meaning_in (one ∷ others) n = if n == one.0 then one.1 else meaning_in others n

abbrev pub trouble_of : ℤ → Trouble
trouble_of (pos n) = meaning_in meanings n
trouble_of (negsuc n) = Other

abbrev pub trouble_in : Error → Trouble
trouble_in e = option_map_or trouble_of (raw_os_error e) Other
