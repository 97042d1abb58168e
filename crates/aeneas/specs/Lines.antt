-- The lines of commands that are not refused (README.md, "Statuses").
use Rattle.std.specs.Prelude.{ℕ, List, [], ◌∷◌, ◌++◌, codes}
use Rattle.call_frame.specs.Written.{written}
use Rattle.pure_ast.specs.Values.{PValue}

-- a line: its text and a line feed
abbrev pub line : List ℕ → List ℕ
line text = text ++ 10 ∷ []

-- a file that is a program
abbrev pub accepted_line : List ℕ
accepted_line = line (codes "accepted")

-- of a call's outcome
abbrev pub value_line : PValue → List ℕ
value_line v = line (codes "value " ++ written v)

abbrev pub panic_line : List ℕ
panic_line = line (codes "panic")

abbrev pub more_line : List ℕ
more_line = line (codes "more")

-- of a text's answer; the value is laid out as an atom
abbrev pub ok_line : List ℕ → List ℕ
ok_line atom = line (codes "ok " ++ atom)

abbrev pub fail_line : List ℕ
fail_line = line (codes "fail")

abbrev pub out_of_fuel_line : List ℕ
out_of_fuel_line = line (codes "outOfFuel")

abbrev pub stuck_line : List ℕ
stuck_line = line (codes "stuck")
