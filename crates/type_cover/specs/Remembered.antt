-- What is kept of types and levels that were looked at for values.
use Rattle.std.specs.Prelude.{◌≡◌, List}
use Rattle.core_ty.specs.declared.decl.TypeDecl.{TypeDecl}
use Rattle.type_cover.specs.Splitting.{is_void}
use Rattle.type_cover.specs.declared.void.Known.{Known}

abbrev pub IsRight : List TypeDecl → Known → Type 0
IsRight ds k = k.is_void ≡ is_void ds k.level k.ty
