-- A name has no kind where its function or a number in it is none.
use Rattle.std.proofs.Common.{◌≡◌, ℕ, Option, Some, None, refl}
use Rattle.raw_meaning.specs.Outlines.{kind_by}

pub no_function : (t b : Option (Option ℕ)) → kind_by None t b ≡ None
no_function t b = refl

pub no_turn : (f : Option ℕ) (b : Option (Option ℕ)) → kind_by f None b ≡ None
no_turn None b = refl
no_turn (Some f) b = refl

pub no_back : (f : Option ℕ) (t : Option (Option ℕ)) → kind_by f t None ≡ None
no_back None t = refl
no_back (Some f) None = refl
no_back (Some f) (Some None) = refl
no_back (Some f) (Some (Some k)) = refl
