-- What `resolve` answers: what the definition gives, and nothing else; want of memory is free.
use Rattle.std.specs.Prelude.{◌≡◌, Result, Ok, Err}
use Rattle.rust_ast.specs.declared.resolution.Resolved.{Resolved}
use Rattle.rust_names.specs.declared.fault.NameFault.{NameFault}
use Rattle.rust_names.specs.declared.fault.NameFault.TheVariants.{Unknown, Twice, Limit, Memory}

abbrev pub Answers : Result Resolved NameFault → Result Resolved NameFault → Type 0
Answers o (Ok r) = o ≡ Ok r
Answers o (Err (Unknown p)) = o ≡ Err (Unknown p)
Answers o (Err (Twice p q)) = o ≡ Err (Twice p q)
Answers o (Err (Limit w n)) = o ≡ Err (Limit w n)
Answers o (Err Memory) = Unit {0}
