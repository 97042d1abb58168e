-- A stack whose newest value is its last.
use Rattle.std.proofs.Common.{◌≡◌, ap, ◌∙◌, List, [], ◌∷◌, ◌++◌, reverse}
use Rattle.std.proofs.lemmas.List.{reverse-append}

pub popped : {A : Type 0} (old new : List A) (last : A) → old ≡ new ++ last ∷ [] → reverse old ≡ last ∷ reverse new
popped old new last e = ap reverse e ∙ reverse-append new (last ∷ [])
