-- Variables and scopes: names come into scope where their pattern's value, arm or parameter list ends,
-- and leave it with their block or arm (LANGUAGE.md, "Names").
use Rattle.std.specs.Prelude.{ℕ, suc, ◌+◌, ◌-◌, Bool, if◌then◌else◌, List, [], ◌∷◌, ◌++◌, take, drop, Option, Some, None, bytes_eq}
use Rattle.rust_ast.specs.declared.ident.Ident.{Ident}
use Rattle.rust_ast.specs.declared.resolution.Variable.{Variable}
use Rattle.name_tables.specs.Finding.{or_else}
pub use Rattle.name_uses.specs.declared.state.State.{State}

-- the newest variable of this name
abbrev pub variable_of : List (List ℕ × ℕ) → List ℕ → Option ℕ
variable_of [] w = None
variable_of (x ∷ xs) w = or_else (variable_of xs w) (if bytes_eq x.0 w then Some x.1 else None)

-- one variable more, which is not in scope yet
abbrev pub with_variable : Bool → Bool → Ident → State → State
with_variable m late i st =
    record { scope = st.scope; variables = st.variables ++ record { name = i.name; span = i.span; mutable = m; late = late } ∷ []; loops = st.loops }

-- the names of variables that are numbered from this on
abbrev pub numbered : ℕ → List Variable → List (List ℕ × ℕ)
numbered k [] = []
numbered k (v ∷ vs) = (v.name, k) ∷ numbered (suc k) vs

abbrev pub with_scope : List (List ℕ × ℕ) → State → State
with_scope sc st = record { scope = sc; variables = st.variables; loops = st.loops }

-- the variables from number `a` to before number `b` come into scope
abbrev pub with_variables : ℕ → ℕ → List Variable → List (List ℕ × ℕ) → List (List ℕ × ℕ)
with_variables a b vs sc = sc ++ numbered a (take (b - a) (drop a vs))

abbrev pub enter : ℕ → ℕ → State → State
enter a b st = with_scope (with_variables a b st.variables st.scope) st

-- what came into scope since it had this length leaves it
abbrev pub leave : ℕ → State → State
leave n st = with_scope (take n st.scope) st

abbrev pub with_loop : State → State
with_loop st = record { scope = st.scope; variables = st.variables; loops = st.loops + 1 }
