-- What a file's type says of its kind.
--
--   HasKind t k  k is File exactly where the type t is a file's, and Folder exactly where it is a folder's. std says
--                nothing of the types of pipes, sockets and devices
--
-- Nothing here is proved.
use Rattle.std.specs.Prelude.{◌≡◌, ◌↔◌}
use Rattle.std.specs.Fs.{IsFile, IsDir}
use Rattle.std.specs.declared.fs.attrs.FileType.{FileType}
use Rattle.kinds.specs.declared.Kind.{Kind}
use Rattle.kinds.specs.declared.Kind.TheVariants.{File, Folder}

abbrev pub HasKind : FileType → Kind → Type 0
HasKind t k = ((k ≡ File) ↔ IsFile t) × ((k ≡ Folder) ↔ IsDir t)
